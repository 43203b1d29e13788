-- `input::read_all` meets its contract: what was read stays within the list, whose length no read changes.
-- Assumes nothing.
use Rattle.std.proofs.Common.{◌-◌, ◌≤◌, length}
use Rattle.calls_main.proofs.input.read_all.Given as goal

abbrev pub invariant-loop-done : goal.invariant-loop-done
invariant-loop-done l = l.done ≤ length l.initial.list

abbrev pub decreases-loop-done : goal.decreases-loop-done
decreases-loop-done l = length l.initial.list - l.done
