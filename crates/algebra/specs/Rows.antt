-- Rows of shares, given by a function of the column. A row has seven cells, as many as there can be parties: column j of a row
-- of n shares is party j + 1's share, and the cells past n are 0.
-- Assumes nothing.
use Rattle.std.specs.Prelude.{List, [], ◌∷◌, ◌++◌, ℕ, zero, suc, ◌-◌, length, get_or, replicate}

-- f 0, f 1, .., f (n - 1)
unfoldable pub tab : ℕ → (ℕ → ℕ) → List ℕ
tab zero f = []
tab (suc n) f = f zero ∷ tab n (λ i. f (suc i))

unfoldable pub row : ℕ → (ℕ → ℕ) → List ℕ
row n f = tab n f ++ replicate (7 - n) 0

-- a list of at most seven shares as a row
abbrev pub padded : List ℕ → List ℕ
padded xs = row (length xs) (λ j. get_or xs j 0)

-- an operation on rows, column by column
abbrev pub on : (ℕ → ℕ → ℕ) → ℕ → List ℕ → List ℕ → List ℕ
on op n x y = row n (λ j. op (get_or x j 0) (get_or y j 0))
