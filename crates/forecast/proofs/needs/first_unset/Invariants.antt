-- `needs::first_unset` meets its contract: the marks of a span of registers, one after the other.
-- Assumes nothing.
use Rattle.std.proofs.Common.{◌≡◌}
use Rattle.algebra.specs.Lists.{from}
use Rattle.forecast.proofs.Registers.{rest}
use Rattle.forecast.specs.Unset.{first_unset}
use Rattle.forecast.proofs.needs.first_unset.Given as goal

abbrev pub invariant-loop-i : goal.invariant-loop-i
invariant-loop-i l = first_unset l.marks (rest l.b l.w l.i) ≡ first_unset l.marks (from l.b l.w)
