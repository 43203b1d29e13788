-- The paper, "The sheet": numbers and rows in bytes.
-- Assumes nothing.
use Rattle.std.specs.Prelude.{List, [], ◌∷◌, ℕ, zero, suc, ◌+◌, ◌*◌, get_or, take, drop}
use Rattle.algebra.specs.Rows.{row}

-- "Numbers are little-endian": the number in w bytes of s from place i on
unfoldable pub number : ℕ → List ℕ → ℕ → ℕ
number zero s i = 0
number (suc w) s i = get_or s i 0 + 256 * number w s (i + 1)

-- "A row is n shares of 4 bytes, party 1 first": the row from place i on
unfoldable pub row_at : List ℕ → ℕ → ℕ → List ℕ
row_at s n i = row n (λ j. number 4 s (i + 4 * j))

-- w rows that stand one after the other in a list of cells, seven to a row
unfoldable pub sevens : ℕ → List ℕ → List (List ℕ)
sevens zero cells = []
sevens (suc w) cells = take 7 cells ∷ sevens w (drop 7 cells)
