-- The words of a case.
-- Assumes nothing.
use Rattle.std.specs.Prelude.{cond, List, ℕ, ◌*◌, eqb}
use Rattle.model.specs.Bytes.{number}

-- word i of a case, four bytes, little-endian
abbrev pub word_of : List ℕ → ℕ → ℕ
word_of s i = number 4 s (4 * i)

-- a mask is l rows, and a case has one or none
abbrev pub mask_rows : ℕ → ℕ → ℕ
mask_rows masks l = cond (eqb masks 0) 0 l
