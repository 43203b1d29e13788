use Rattle.std.proofs.Common.{◌+◌, ◌*◌, get_or, ◌∙◌, arith, rules}
use Rattle.sharing.proofs.Columns.{cells_seven}
use Rattle.sharing.proofs.rows.cell_row.Goals as goal

pub returns : goal.returns
returns c =
    c.of.ensures (λ j. get_or c.args.cells.now (7 * c.args.k + j) 0) (λ j v h q. search rules) ∙ cells_seven c.args.cells.now (7 * c.args.k) (omega arith)
