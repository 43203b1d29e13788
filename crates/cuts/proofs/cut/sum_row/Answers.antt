use Rattle.std.proofs.Common.{arith}
use Rattle.local.proofs.Powers.{power_is, power_above}
use Rattle.cuts.proofs.cut.sum_row.Goals as goal

pub overflow_sub-power : goal.overflow_sub-power
overflow_sub-power c = omega (arith, power_above c.args.m c.requires.2 c.power_of_two-power.ensures.0)

pub returns : goal.returns
returns c = let e = power_is c.args.m c.requires.2 c.power_of_two-power.ensures.0 in rw e at c.add_public.ensures
