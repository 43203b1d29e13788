-- `words` meets its contract: each of the words so far is the word at its place.
-- Assumes nothing.
use Rattle.std.proofs.Common.{◌≡◌, ℕ, ◌+◌, ◌<◌, get_or, length}
use Rattle.entries.specs.Words.{word_of}
use Rattle.entries.proofs.words.Given as goal

abbrev pub invariant-loop-j : goal.invariant-loop-j
invariant-loop-j l = (9 ≡ length l.out) × ((k : ℕ) → k < l.j → get_or l.out k 0 ≡ word_of l.s (l.i + k))
