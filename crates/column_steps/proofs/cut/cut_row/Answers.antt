use Rattle.std.proofs.Common.{arith, rules}
use Rattle.local.proofs.Powers.{power_below}
use Rattle.cuts.specs.Cuts.{width_of}
use Rattle.column_steps.proofs.Cutting.{cut_stops, cut_comes}
use Rattle.column_steps.proofs.cut.cut_row.Goals as goal

pub before-x-requires : goal.before-x-requires
before-x-requires c =
    let K = c.requires.2 in
    (c.requires.0.fitting, omega (arith, K.less, K.most), power_below _ (width_of c.args.y) (omega (arith, K.less)) K.power)

pub returns-in_err-rest : goal.returns-in_err-rest
returns-in_err-rest c = search (rules, cut_stops)

pub returns : goal.returns
returns c =
    cut_comes c.requires.0 c.args.y _ c.width-k.ensures c.low-m.ensures c.before-x.ensures c.in_ok-rest.ensures c.after.ensures
