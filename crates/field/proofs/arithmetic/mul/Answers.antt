use Rattle.std.proofs.Common.{arith}
use native.Mathlib.Nat.{mod-lt}
use Rattle.algebra.proofs.Ring.{mul_out}
use Rattle.field.proofs.arithmetic.mul.Goals as goal

pub returns : goal.returns
returns c = rw (c.from.ensures, c.from-2.ensures, c.from-3.ensures) (mul_out _ _ _, mod-lt _ (omega arith))
