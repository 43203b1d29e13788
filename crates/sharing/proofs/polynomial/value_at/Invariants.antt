use Rattle.std.proofs.Common.{◌≡◌}
use Rattle.model.specs.Sharing.{eval}
use Rattle.sharing.proofs.Horner.{onward}
use Rattle.sharing.proofs.polynomial.value_at.Given as goal

abbrev pub invariant-loop-c : goal.invariant-loop-c
invariant-loop-c l = onward l.p l.x l.c-iterator.iter.rest.now l.r ≡ eval l.p l.coefficients l.x
