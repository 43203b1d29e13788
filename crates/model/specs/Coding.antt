-- The paper, "Fields and parties": signed numbers as field values, and back.
-- Assumes nothing.
use Rattle.std.specs.Prelude.{◌≡◌, ◌↔◌, Bool, ◌&&◌, cond, ℕ, suc, ◌-◌, ◌/◌, ◌%◌, ◌^◌, ◌≤◌, ◌<◌, T, leb, ℤ, pos, negsuc, neg_ℤ, ◌+ℤ◌, ◌-ℤ◌, ◌*ℤ◌}
use Rattle.std.specs.Int.Signed.{le_z, lt_z}
use Rattle.model.specs.Fields.{modulus, largest_k, InUse}

-- "A signed number a from −2^(k−1) to 2^(k−1) − 1"
unfoldable pub in_range : ℕ → ℤ → Bool
in_range k a = le_z (neg_ℤ (pos (2 ^ (k - 1)))) a && lt_z a (pos (2 ^ (k - 1)))

-- "is coded as a modulo p": n modulo p, and for -(n + 1) what is missing to p.
unfoldable pub code : ℕ → ℤ → ℕ
code p (pos n) = n % p
code p (negsuc n) = p - suc (n % p)

-- "a field value v reads back as v up to (p − 1)/2, else v − p"
unfoldable pub read_back : ℕ → ℕ → ℤ
read_back p v = cond (leb v ((p - 1) / 2)) (pos v) (pos v -ℤ pos p)

-- a is v plus a multiple of p
pub record Modulo (p : ℕ) (a : ℤ) (v : ℕ) : Type 0 where
  pub multiple : ℤ
  pub is : a ≡ pos v +ℤ multiple *ℤ pos p

-- What coding promises in a field p with largest k K. `code` is a modulo p: below p, and a is it plus a multiple of p. The k-bit range is 0 to
-- 2^(k−1) − 1 and, negsuc n being −(n + 1), −1 to −2^(k−1). A value is read back as itself up to (p − 1)/2, and else as itself less p.
pub record Codes (p K : ℕ) : Type 0 where
  pub below : (a : ℤ) → code p a < p
  pub modulo : (a : ℤ) → Modulo p a (code p a)
  pub range_up : (k n : ℕ) → T (in_range k (pos n)) ↔ (n < 2 ^ (k - 1))
  pub range_down : (k n : ℕ) → T (in_range k (negsuc n)) ↔ (n < 2 ^ (k - 1))
  pub reads_up : (v : ℕ) → v ≤ (p - 1) / 2 → read_back p v ≡ pos v
  pub reads_down : (v : ℕ) → (p - 1) / 2 < v → v < p → read_back p v ≡ negsuc (p - 1 - v)
  pub reading_undoes : (k : ℕ) (a : ℤ) → 2 ≤ k → k ≤ K → T (in_range k a) → read_back p (code p a) ≡ a
  pub coding_undoes : (v : ℕ) → v < p → code p (read_back p v) ≡ v

-- for every field in use
abbrev pub EveryCoding : Type 0
EveryCoding = (f : ℕ) → InUse f → Codes (modulus f) (largest_k f)
