use Rattle.std.proofs.Common.{arith}
use Rattle.model.specs.Fields.{power_of_2}
use Rattle.field.proofs.Residues.{shift_one}
use Rattle.field.proofs.arithmetic.power_of_two.Goals as goal

pub returns : goal.returns
unfolding power_of_2
returns c = (rw (c.reduce.ensures.0, shift_one c.args.m 32 (omega arith)), c.reduce.ensures.1)
