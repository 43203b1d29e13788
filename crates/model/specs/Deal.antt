-- The paper, "What it is" and "The sheet": what a sheet is worked with, rows, and the deal.
-- Assumes nothing.
use Rattle.std.specs.Prelude.{List, [], ◌∷◌, ℕ}

-- What a sheet is worked with: the field's modulus, the bits of a mask, the parties, the threshold, and, by request 5, the byte that says which parties
-- are present.
pub record Setting : Type 0 where
  pub p : ℕ
  pub l : ℕ
  pub n : ℕ
  pub t : ℕ
  pub present : ℕ

-- The paper's terms: a row is n shares; a mask is its rows, bit 0 first; a triple is three rows; the deal is masks and triples.
abbrev pub Row : Type 0
Row = List ℕ

pub record Triple : Type 0 where
  pub a : Row
  pub b : Row
  pub c : Row

pub record Deal : Type 0 where
  pub masks : List (List Row)
  pub triples : List Triple

-- "A table of 64 registers by n columns", each a row; "the cells of an unset register are 0": this row
abbrev pub no_row : Row
no_row = 0 ∷ 0 ∷ 0 ∷ 0 ∷ 0 ∷ 0 ∷ 0 ∷ []
