-- The loop over a mask's bits, one law for each of its needs.
-- Assumes nothing.
use mathlib.Core.Path.{◌≡◌, sym, ◌∙◌}
use mathlib.Core.Bool.{false, ◌&&◌}
use mathlib.Core.List.{List, ◌∷◌}
use Prim.Native.Nat.{ℕ, suc, ◌+◌, ◌-◌, ◌*◌, ◌%◌, ◌^◌, ◌≤◌, ◌<◌}
use native.Mathlib.Nat.{pow-suc, mul-le-mul_right, mul-zero, add-zero}
use native.Mathlib.Numerals.{add-one}
use native.Mathlib.Omega.{arith}
use borrow.Author.Tests.{lt-ltb, le-ltb}
use lib.Dec.{ltb}
use lib.Pow.{pow_mono}
use Rattle.algebra.specs.Lists.{all_below}
use Rattle.model.specs.Bytes.{row_at}
use Rattle.model.specs.Sharing.{secret}
use Rattle.model.specs.Sheet.{rows_at, secrets, spell, good_mask}
use Rattle.model.specs.Steps.{Setting}

-- the secrets from bit k on
abbrev pub secrets_from : (S : Setting) (s : List ℕ) (i l k : ℕ) → List ℕ
secrets_from S s i l k = secrets S (rows_at s S.n (i + 4 * S.n * k) (l - k))

-- the first k secrets are bits and spell v
pub record Spelling (S : Setting) (s : List ℕ) (i l k v : ℕ) : Type 0 where
  pub low : v < 2 ^ k
  pub is : good_mask S (rows_at s S.n i l) ≡ (all_below 2 (secrets_from S s i l k) && ltb (v + 2 ^ k * spell (secrets_from S s i l k)) S.p)

-- bit k is below the power of the next bit, and fits
bit_low : (k : ℕ) {b : ℕ} → b < 2 → b * 2 ^ k ≤ 2 ^ k
bit_low k h = omega (arith, mul-le-mul_right (2 ^ k) h)

pub bit_fits : (k : ℕ) {b : ℕ} → k < 31 → b < 2 → b * 2 ^ k ≤ 1073741824
bit_fits k h low = omega (arith, bit_low k low, pow_mono {i = k} {j = 30} (omega arith))

pub low_fits : (k : ℕ) {v : ℕ} → v < 2 ^ k → k < 31 → v < 1073741824
low_fits k low h = omega (arith, pow_mono {i = k} {j = 30} (omega arith))

module _ (S : Setting) (s : List ℕ) (i l : ℕ) where
  -- the next secret, and those after it
  next_secret : (k : ℕ) → k < l → secrets_from S s i l k ≡ secret S.p S.t (row_at s S.n (i + 4 * S.n * k)) ∷ secrets_from S s i l (k + 1)
  unfolding rows_at secrets
  next_secret k h =
      let m : l - k ≡ suc (l - (k + 1)) = omega arith in
      let next : i + 4 * S.n * (k + 1) ≡ i + 4 * S.n * k + 4 * S.n = omega arith in
      rw (m, next)

  pub spelling_start : Spelling S s i l 0 0
  unfolding good_mask
  spelling_start =
      let first : i + 4 * S.n * 0 ≡ i = omega arith in
      let all : l - 0 ≡ l = omega arith in
      let o : (x : ℕ) → 0 + 1 * x ≡ x = λ x. omega arith in
      record { low = omega arith; is = rw (first, all, o) }

module _ {S : Setting} {s : List ℕ} {i l k v : ℕ} (G : Spelling S s i l k v) where
  module _ {b : ℕ} (h : k < l) (e : b ≡ secret S.p S.t (row_at s S.n (i + 4 * S.n * k))) where
    pub spelling_more : l ≤ 31 → b < 2 → Spelling S s i l (k + 1) (v + b * 2 ^ k % 4294967296)
    unfolding all_below spell
    spelling_more m low =
        let rest = secrets_from S s i l (k + 1) in
        let fits : b * 2 ^ k % 4294967296 ≡ b * 2 ^ k = omega (arith, bit_fits k {b = b} (omega arith) low) in
        let o : v + 2 ^ k * (b + 2 * spell rest) ≡ v + b * 2 ^ k + 2 ^ (k + 1) * spell rest = rw (add-one, pow-suc) (omega arith) in
        rw fits
        record {
          low = rw (add-one, pow-suc) (omega (arith, G.low, bit_low k low));
          is = G.is ∙ rw (next_secret S s i l k h, ← e, lt-ltb b 2 low, o);
        }

    pub spelling_fails : 2 ≤ b → false ≡ good_mask S (rows_at s S.n i l)
    unfolding all_below
    spelling_fails high = sym (G.is ∙ rw (next_secret S s i l k h, ← e, le-ltb b 2 high))

  pub spelling_end : l ≤ k → ltb v S.p ≡ good_mask S (rows_at s S.n i l)
  unfolding rows_at secrets all_below spell
  spelling_end h = let m : l - k ≡ 0 = omega arith in sym (G.is ∙ rw (m, mul-zero, add-zero))
