-- `outcome::blanks` meets its contract, one cell after the other; at most one is counted for each.
-- Assumes nothing.
use Rattle.std.proofs.Common.{◌≡◌, ◌≤◌}
use Rattle.cases.specs.Blanks as Blanks
use Rattle.cases.proofs.outcome.blanks.Given as goal

abbrev pub invariant-loop-i : goal.invariant-loop-i
invariant-loop-i l = (l.found ≡ Blanks.blanks l.marks l.cells l.i) × (l.found ≤ l.i)
