use Rattle.std.proofs.Common.{◌≡◌, arith, rules, length}
use Rattle.model.specs.Costs.{cost_by}
use Rattle.cuts.specs.declared.cut.Cut.TheVariants.{Mod, Trunc, Ltz, Over, Blocks}
use Rattle.column_commands.proofs.Commands.{says, load_does, fill_does, add_does, sub_does, scale_does, multiply_asks, multiply_does, compare_asks, compare_does, reveal_asks, reveal_does, cut_asks, cut_does, signs_asks, signs_does}
use Rattle.column_commands.proofs.perform.perform.Goals as goal

pub load-requires : goal.load-requires
unfolding cost_by
load-requires c = let R = rw c.in-Load.is at c.requires in (omega (arith, R.inputs_there, R.loads), (says _ R).0)

pub fill-requires : goal.fill-requires
fill-requires c = let R = rw c.in-Const.is at c.requires in (R.working.fitting, (says _ R).0)

pub add-requires : goal.add-requires
add-requires c = let R = rw c.in-Add.is at c.requires in let r = says _ R in (R.working.fitting, r.0, r.1.0, r.1.1.0)

pub sub-requires : goal.sub-requires
sub-requires c = let R = rw c.in-Sub.is at c.requires in let r = says _ R in (R.working.fitting, r.0, r.1.0, r.1.1.0)

pub scale-requires : goal.scale-requires
scale-requires c = let R = rw c.in-Scale.is at c.requires in let r = says _ R in (R.working.fitting, r.0, r.1.0)

pub multiply-requires : goal.multiply-requires
multiply-requires c = multiply_asks c.ahead_of-at.ensures (rw c.in-Mul.is at c.requires)

pub revealed-requires : goal.revealed-requires
revealed-requires c = reveal_asks c.ahead_of-at.ensures (rw c.in-Reveal.is at c.requires)

pub compare-requires : goal.compare-requires
compare-requires c = compare_asks c.ahead_of-at.ensures (rw c.in-Bitlt.is at c.requires)

pub signs-requires : goal.signs-requires
signs-requires c = signs_asks c.ahead_of-at.ensures (rw c.in-Ltzs.is at c.requires)

pub cut-requires : goal.cut-requires
cut-requires c = cut_asks c.ahead_of-at.ensures _ _ (Mod _ _) (rw c.in-Mod.is at c.requires)

pub cut-requires-in-Trunc : goal.cut-requires-in-Trunc
cut-requires-in-Trunc c = cut_asks c.ahead_of-at.ensures _ _ (Trunc _ _) (rw c.in-Trunc.is at c.requires)

pub cut-requires-in-Ltz : goal.cut-requires-in-Ltz
cut-requires-in-Ltz c = cut_asks c.ahead_of-at.ensures _ _ (Ltz _) (rw c.in-Ltz.is at c.requires)

pub cut-requires-in-Over : goal.cut-requires-in-Over
cut-requires-in-Over c = cut_asks c.ahead_of-at.ensures _ _ (Over _ _) (rw c.in-Over.is at c.requires)

pub cut-requires-in-Blocks : goal.cut-requires-in-Blocks
cut-requires-in-Blocks c = cut_asks c.ahead_of-at.ensures _ _ (Blocks _ _) (rw c.in-Blocks.is at c.requires)

pub returns-in-Load : goal.returns-in-Load
returns-in-Load c =
    let size : length c.args.table.cells ≡ 448 = search rules in
    rw c.in-Load.is (load_does c.args.table size (rw c.in-Load.is at c.requires) c.load.ensures.0, c.load.ensures.1)

pub returns-in-Const : goal.returns-in-Const
returns-in-Const c =
    let size : length c.args.table.cells ≡ 448 = search rules in
    rw c.in-Const.is (fill_does c.args.table size (rw c.in-Const.is at c.requires) c.fill.ensures.0, c.fill.ensures.1)

pub returns-in-Add : goal.returns-in-Add
returns-in-Add c =
    let size : length c.args.table.cells ≡ 448 = search rules in
    rw c.in-Add.is (add_does c.args.table size (rw c.in-Add.is at c.requires) c.add.ensures.0, c.add.ensures.1)

pub returns-in-Sub : goal.returns-in-Sub
returns-in-Sub c =
    let size : length c.args.table.cells ≡ 448 = search rules in
    rw c.in-Sub.is (sub_does c.args.table size (rw c.in-Sub.is at c.requires) c.sub.ensures.0, c.sub.ensures.1)

pub returns-in-Scale : goal.returns-in-Scale
returns-in-Scale c =
    let size : length c.args.table.cells ≡ 448 = search rules in
    rw c.in-Scale.is (scale_does c.args.table size (rw c.in-Scale.is at c.requires) c.scale.ensures.0, c.scale.ensures.1)

pub returns-in-Mul : goal.returns-in-Mul
returns-in-Mul c =
    let size : length c.args.table.cells ≡ 448 = search rules in
    rw c.in-Mul.is (multiply_does c.args.table size c.ahead_of-at.ensures _ (rw c.in-Mul.is at c.requires) c.multiply.ensures)

pub returns-in-Bitlt : goal.returns-in-Bitlt
returns-in-Bitlt c =
    let size : length c.args.table.cells ≡ 448 = search rules in
    rw c.in-Bitlt.is (compare_does c.args.table size c.ahead_of-at.ensures _ (rw c.in-Bitlt.is at c.requires) c.compare.ensures)

pub returns-in-Mod : goal.returns-in-Mod
returns-in-Mod c =
    let size : length c.args.table.cells ≡ 448 = search rules in
    rw c.in-Mod.is (cut_does c.args.table size c.ahead_of-at.ensures _ _ _ (Mod _ _) (rw c.in-Mod.is at c.requires) c.cut.ensures)

pub returns-in-Trunc : goal.returns-in-Trunc
returns-in-Trunc c =
    let size : length c.args.table.cells ≡ 448 = search rules in
    rw c.in-Trunc.is (cut_does c.args.table size c.ahead_of-at.ensures _ _ _ (Trunc _ _) (rw c.in-Trunc.is at c.requires) c.cut-in-Trunc.ensures)

pub returns-in-Ltz : goal.returns-in-Ltz
returns-in-Ltz c =
    let size : length c.args.table.cells ≡ 448 = search rules in
    rw c.in-Ltz.is (cut_does c.args.table size c.ahead_of-at.ensures _ _ _ (Ltz _) (rw c.in-Ltz.is at c.requires) c.cut-in-Ltz.ensures)

pub returns-in-Over : goal.returns-in-Over
returns-in-Over c =
    let size : length c.args.table.cells ≡ 448 = search rules in
    rw c.in-Over.is (cut_does c.args.table size c.ahead_of-at.ensures _ _ _ (Over _ _) (rw c.in-Over.is at c.requires) c.cut-in-Over.ensures)

pub returns-in-Blocks : goal.returns-in-Blocks
returns-in-Blocks c =
    let size : length c.args.table.cells ≡ 448 = search rules in
    rw c.in-Blocks.is (cut_does c.args.table size c.ahead_of-at.ensures _ _ _ (Blocks _ _) (rw c.in-Blocks.is at c.requires) c.cut-in-Blocks.ensures)

pub returns-in-Reveal : goal.returns-in-Reveal
returns-in-Reveal c =
    let size : length c.args.table.cells ≡ 448 = search rules in
    rw c.in-Reveal.is (reveal_does c.args.table size c.ahead_of-at.ensures _ (rw c.in-Reveal.is at c.requires) c.revealed.ensures)

pub returns-in-Ltzs : goal.returns-in-Ltzs
returns-in-Ltzs c =
    let size : length c.args.table.cells ≡ 448 = search rules in
    rw c.in-Ltzs.is (signs_does c.args.table size c.ahead_of-at.ensures _ (rw c.in-Ltzs.is at c.requires) c.signs.ensures)
