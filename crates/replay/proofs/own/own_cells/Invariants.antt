use Rattle.std.proofs.Common.{◌≡◌, ℕ, ◌*◌, ◌<◌, length, get_or}
use Rattle.replay.proofs.own.own_cells.Given as goal

abbrev pub invariant-loop-r : goal.invariant-loop-r
invariant-loop-r l = (length l.own ≡ 64) × ((k : ℕ) → k < l.r → get_or l.own k 0 ≡ get_or l.cells (7 * k) 0)
