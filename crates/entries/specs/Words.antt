-- The words of a case.
-- Assumes nothing.
use Rattle.std.specs.Prelude.{List, ℕ, ◌+◌, ◌*◌}
use Rattle.algebra.specs.Rows.{tab}
use Rattle.model.specs.Bytes.{number}

-- word i of a case, four bytes, little-endian
abbrev pub word_of : List ℕ → ℕ → ℕ
word_of s i = number 4 s (4 * i)

-- the nine words from word i on
abbrev pub words_of : List ℕ → ℕ → List ℕ
words_of s i = tab 9 (λ j. word_of s (i + j))
