-- Where shares stand, and what copying them from one grid to another leaves.
-- Assumes nothing.
use Rattle.std.specs.Prelude.{◌≡◌, List, ℕ, zero, suc, ◌+◌, ◌*◌, ◌≤◌, ◌<◌, length, take, drop}
use Rattle.algebra.specs.Lists.{onto_at}
use Rattle.column_form.specs.declared.grid.Grid.{Grid}

-- the place of the share that is i rows down and j parties across from the first
abbrev pub place_in : Grid → ℕ → ℕ → ℕ
place_in G i j = G.first + G.down * i + G.across * j

-- the grid of a sheet, row after row: so many parties in a row, the first share at a place
abbrev pub sheet_grid : (place parties : ℕ) → Grid
sheet_grid place parties = record { first = place; down = 4 * parties; across = 4 }

-- the grid of a column form, part after part: so many rows in a part
abbrev pub column_grid : (place rows : ℕ) → Grid
column_grid place rows = record { first = place; down = 4; across = 4 * rows }

-- the same grid, begun so many bytes further on
abbrev pub further_on : ℕ → Grid → Grid
further_on bytes G = record { first = G.first + bytes; down = G.down; across = G.across }

-- The last share of so many rows and parties ends within so many bytes. Both steps together are at most 4 + 4 * 2,096, as in the largest column form.
pub record Fits (G : Grid) (rows parties size : ℕ) : Type 0 where
  pub last : G.first + G.down * rows + G.across * parties + 4 ≤ size + G.down + G.across
  pub steps : G.down + G.across ≤ 8388
  pub most : size ≤ 59723

-- no two shares overlap: the parties stand within a row, or the rows within a party's part
pub data Spaced (G : Grid) (rows parties : ℕ) : Type 0 where
  in_a_row : 4 ≤ G.across → G.across * parties ≤ G.down → Spaced G rows parties
  in_a_part : 4 ≤ G.down → G.down * rows ≤ G.across → Spaced G rows parties

-- c after the shares of the grid's first party, of so many rows, were copied to it from s, one after the other
unfoldable pub column_copied : List ℕ → (from to : Grid) → (rows : ℕ) → List ℕ → List ℕ
column_copied s F G zero c = c
column_copied s F G (suc k) c = onto_at (place_in G k 0) (take 4 (drop (place_in F k 0) s)) (column_copied s F G k c)

-- c after so many rows were copied to it, of so many parties
unfoldable pub rows_copied : List ℕ → (from to : Grid) → (rows parties : ℕ) → List ℕ → List ℕ
rows_copied s F G rows zero c = c
rows_copied s F G rows (suc j) c = column_copied s (further_on (F.across * j) F) (further_on (G.across * j) G) rows (rows_copied s F G rows j c)

-- c has the shares of s, from the places of one grid, at those of the other: of those rows and parties that are done. It was xs before, and still is before
-- the first share, and past as many bytes as s has.
pub record Partly (s : List ℕ) (from to : Grid) (rows parties : ℕ) (Done : ℕ → ℕ → Type 0) (xs c : List ℕ) : Type 0 where
  pub same_length : length c ≡ length xs
  pub head : take to.first c ≡ take to.first xs
  pub tail : drop (length s) c ≡ drop (length s) xs
  pub shares : (i j : ℕ) → i < rows → j < parties → Done i j → take 4 (drop (place_in to i j) c) ≡ take 4 (drop (place_in from i j) s)

-- all rows of all parties are done
abbrev pub Copied : List ℕ → (from to : Grid) → (rows parties : ℕ) → (xs c : List ℕ) → Type 0
Copied s F G rows parties xs c = Partly s F G rows parties (λ i j. i < rows) xs c
