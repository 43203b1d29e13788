use Rattle.std.proofs.Common.{◌≡◌, length, refl, rules}
use Rattle.registers.proofs.Cells.{row_over}
use Rattle.registers.proofs.table.Table.put.Goals as goal

pub returns : goal.returns
returns c =
    let seven : length c.args.row.shares ≡ 7 = search rules in
    (row_over _ c.args.row.shares c.args.self.cells seven c.copy_from_slice.ensures.after, refl)
