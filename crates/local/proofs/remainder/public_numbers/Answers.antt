use Rattle.local.proofs.Powers.{power_is}
use Rattle.local.proofs.remainder.public_numbers.Goals as goal

pub returns : goal.returns
returns c = rw (c.sub-step.ensures.0, power_is _ c.requires.2 c.power_of_two-power.ensures.0)
