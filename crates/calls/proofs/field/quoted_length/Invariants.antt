-- Assumes nothing.
use Rattle.std.proofs.Common.{◌-◌, length}
use Rattle.calls.proofs.Quoting.{Quoting}
use Rattle.calls.proofs.field.quoted_length.Given as goal

abbrev pub invariant-loop-i : goal.invariant-loop-i
invariant-loop-i l = Quoting l.text l.i

abbrev pub decreases-loop-i : goal.decreases-loop-i
decreases-loop-i l = length l.text - l.i
