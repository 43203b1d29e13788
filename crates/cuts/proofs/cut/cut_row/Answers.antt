use Rattle.std.proofs.Common.{arith}
use Rattle.cuts.proofs.Cuts.{cut_leaves}
use Rattle.local.proofs.Powers.{power_below}
use Rattle.cuts.proofs.cut.cut_row.Goals as goal

pub before-x-requires : goal.before-x-requires
before-x-requires c = let P = c.requires in (P.room.fitting, omega (arith, P.less, P.most), power_below _ _ (omega (arith, P.less)) P.power)

pub returns : goal.returns
returns c = cut_leaves c.args.c c.args.a.shares c.width-k.ensures c.low-m.ensures c.before-x.ensures c.remainder-rest.ensures c.after.ensures
