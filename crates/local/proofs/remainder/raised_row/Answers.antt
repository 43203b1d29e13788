use Rattle.std.proofs.Common.{◌-◌, arith}
use Rattle.local.proofs.Powers.{power_below, power_is}
use Rattle.local.proofs.remainder.raised_row.Goals as goal

pub returns : goal.returns
returns c =
    let e = power_is _ (power_below (c.args.k - 1) c.args.k (omega arith) c.requires.3) c.power_of_two-half.ensures.0 in
    rw e at c.add_public.ensures
