-- Each digit adds to the number that those before it spell.
-- Assumes nothing.
use Rattle.calls.proofs.Times.{Summing}
use Rattle.calls.proofs.time.read_time.Given as goal

abbrev pub invariant-loop-b : goal.invariant-loop-b
invariant-loop-b l = Summing l.text l.b-index l.value
