-- BLOCKS at the ends of where it is exact, computed over the same definitions that the code meets. The ends for every k and m are `charges_up` and
-- `charges_down` in Formulas of crate model.
-- Assumes nothing.
use Rattle.std.specs.Prelude.{◌≡◌, Bool, true, false, ℕ, ◌-◌, ◌^◌, ℤ, pos, neg_ℤ}
use Rattle.algebra.specs.Ring.{add}
use Rattle.model.specs.Coding.{in_range, code, read_back}
use Rattle.model.specs.Steps.{blocks}
use Rattle.model.specs.Formulas.{blocks_sum, Charges}
use Rattle.figures.specs.Figures.{large, of, wide, result}

-- the modulus of field 2
abbrev pub p : ℕ
p = large.p

-- Request 2: "Blocks are exact while a read back, plus 2^m − 1 and not reduced by p, lies in the k-bit range": with k = 15, whether the
-- sum of a signed number lies there, and what BLOCKS leaves of it.
abbrev pub BlocksOf : ℕ → ℤ → Bool → ℤ → Type 0
BlocksOf m a inside left =
    let x = code p a in
    (in_range 15 (blocks_sum p m x) ≡ inside) × (read_back p (result large (blocks large 15 m (of large x) wide)) ≡ left)

-- In blocks of 64 seconds the longest call whose sum lies in the range has 16320 seconds, 255 blocks, and the lowest such number is −16447. At both, what
-- `Charges` says fixes the result. With m = 14 the sum of the field's largest number does not lie there, though modulo p and read back it does.
pub record Blocks : Type 0 where
  pub highest : BlocksOf 6 (pos 16320) true (pos 255)
  pub above : BlocksOf 6 (pos 16321) false (pos 256)
  pub lowest : BlocksOf 6 (neg_ℤ (pos 16447)) true (neg_ℤ (pos 256))
  pub below : BlocksOf 6 (neg_ℤ (pos 16448)) false (pos 767)
  pub fixed_highest : (z : ℕ) → Charges p 15 6 16320 z → z ≡ 255
  pub fixed_lowest : (z : ℕ) → Charges p 15 6 (code p (neg_ℤ (pos 16447))) z → read_back p z ≡ neg_ℤ (pos 256)
  pub not_reduced : BlocksOf 14 (pos 32760) false (neg_ℤ (pos 1))
  pub reduced : in_range 15 (read_back p (add p 32760 (2 ^ 14 - 1))) ≡ true
