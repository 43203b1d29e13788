use Rattle.std.proofs.Common.{arith}
use mathlib.Core.Path.{refl}
use native.Mathlib.Numerals.{add-one}
use Rattle.algebra.proofs.Ring.{mul_turned}
use Rattle.model.specs.Fields.{inverse_power_of_2}
use Rattle.field.proofs.arithmetic.inverse_power_of_two.Goals as goal

pub loop-i-init : goal.loop-i-init
unfolding inverse_power_of_2
loop-i-init c = (refl, omega arith)

pub loop-i-preserved : goal.loop-i-preserved
unfolding inverse_power_of_2
loop-i-preserved c = (rw (add-one, ← c.loop-i.invariant.0) (search mul_turned), omega arith)
