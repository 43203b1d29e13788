-- Each line that is taken fills a place of the buffer, which is the loop's measure.
-- Assumes nothing.
use Rattle.std.proofs.Common.{◌-◌, length}
use Rattle.calls.proofs.Importing.{Importing}
use Rattle.calls.proofs.import.Given as goal

abbrev pub invariant-loop-at : goal.invariant-loop-at
invariant-loop-at l = Importing l.list l.initial.out l.at l.calls l.out

abbrev pub decreases-loop-at : goal.decreases-loop-at
decreases-loop-at l = length l.initial.out - l.calls
