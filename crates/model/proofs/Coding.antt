-- `codes`: what coding promises, in every field of the table; and laws of range, code and reading for the crates that compute them.
-- Assumes nothing.
use mathlib.Core.Path.{◌≡◌, refl, sym, ap, ◌∙◌}
use mathlib.Core.Logic.{◌↔◌}
use mathlib.Core.Bool.{true, ◌&&◌, cond}
use Prim.Native.Nat.{ℕ, zero, suc, ◌+◌, ◌-◌, ◌*◌, ◌/◌, ◌%◌, ◌^◌, ◌≤◌, ◌<◌}
use native.Mathlib.Nat.{mod-lt, mod-eq_of_lt, div-add-mod', pow-suc}
use native.Mathlib.Decide.{dec_lt}
use native.Mathlib.Omega.{arith}
use borrow.Author.Tests.{ltb-true, lt-ltb, le-leb, lt-leb}
use lib.Dec.{T, ltb, leb, leb-suc-suc, ltb→lt, lt→ltb}
use lib.IntN.{ℤ, pos, negsuc, neg_ℤ, sub_ℕ, ◌+ℤ◌, ◌*ℤ◌}
use lib.Pow.{pow_pos, pow_mono}
use lib.Signed.{mag, non_neg, le_z, lt_z, shr_z}
use Rattle.algebra.proofs.Tests.{and_true, is_true}
use Rattle.model.specs.Fields.{Field}
use Rattle.model.specs.Coding.{in_range, code, read_back, Codes, EveryCoding}
use Rattle.model.proofs.Fields.{fields}

-- the k-bit range is a bound of the magnitude
pub in_range_lem : (k : ℕ) (a : ℤ) → in_range k a ≡ ltb (mag a) (2 ^ (k - 1))
unfolding in_range
in_range_lem k a = go (2 ^ (k - 1)) a (pow_pos (k - 1))
  where
    go : (H : ℕ) (a : ℤ) → 0 < H → le_z (neg_ℤ (pos H)) a && lt_z a (pos H) ≡ ltb (mag a) H
    go (suc H) (pos n) h = refl
    go (suc H) (negsuc n) h = and_true (leb n H) ∙ sym (leb-suc-suc n H)
    go zero _ h = elim h [ ]

-- the code of a number whose magnitude is below p
pub code_small : (p : ℕ) (a : ℤ) → mag a < p → code p a ≡ cond (non_neg a) (mag a) (p - 1 - mag a)
unfolding code
code_small p (pos n) h = mod-eq_of_lt h
code_small p (negsuc n) h = rw (mod-eq_of_lt h) (omega arith)

-- a difference that is negative
pub below_zero : (a b n : ℕ) → b ≡ a + suc n → sub_ℕ a b ≡ negsuc n
below_zero a b n e = rw (lt-ltb a b (omega arith)) (ap negsuc (omega arith))

-- a value up to the middle, and one past it
pub reads_up : (p v : ℕ) → v ≤ (p - 1) / 2 → read_back p v ≡ pos v
unfolding read_back
reads_up p v h = rw (le-leb v ((p - 1) / 2) h)

pub reads_down : (p v : ℕ) → (p - 1) / 2 < v → v < p → read_back p v ≡ negsuc (p - 1 - v)
unfolding read_back
reads_down (suc p) v h l = rw (lt-leb v ((suc p - 1) / 2) h) (below_zero v (suc p) _ (omega arith))
reads_down zero v h l = elim l [ ]

pub code_below : (p : ℕ) (a : ℤ) → 0 < p → code p a < p
unfolding code
code_below p (pos n) h = mod-lt n h
code_below p (negsuc n) h = omega arith

-- a is its code plus p times the floor of a / p
pub code_floor : (p : ℕ) (a : ℤ) → 0 < p → a ≡ pos (code p a) +ℤ shr_z a p *ℤ pos p
unfolding code
code_floor p (pos n) h = ap pos (omega (arith, div-add-mod' n p))
code_floor p (negsuc n) h =
    let e : suc (n / p) * p ≡ suc (n + (p - suc (n % p))) = omega (arith, div-add-mod' n p, mod-lt n h) in
    rw e (sym (below_zero (p - suc (n % p)) (suc (n + (p - suc (n % p)))) n (omega arith)))

pub read_code : (p : ℕ) (a : ℤ) → p % 2 ≡ 1 → mag a + mag a + 1 < p → read_back p (code p a) ≡ a
read_code p (pos n) o h = rw (code_small p (pos n) (omega arith)) (reads_up p n (omega arith))
read_code p (negsuc n) o h =
    rw (code_small p (negsuc n) (omega arith)) (reads_down p (p - 1 - n) (omega arith) (omega arith) ∙ ap negsuc (omega arith))

pub code_read : (p v : ℕ) → v < p → code p (read_back p v) ≡ v
code_read p v h = go (dec_lt ((p - 1) / 2) v)
  where
    go : Dec ((p - 1) / 2 < v) → code p (read_back p v) ≡ v
    go (yes l) = rw (reads_down p v l h, code_small p (negsuc (p - 1 - v)) (omega arith)) (omega arith)
    go (no l) = rw (reads_up p v (omega arith), code_small p (pos v) h)

-- a number is in range exactly where its magnitude is below 2^(k−1)
pub in_magnitude : (k : ℕ) (a : ℤ) → T (in_range k a) ↔ (mag a < 2 ^ (k - 1))
in_magnitude k a = (λ t. ltb→lt (mag a) (2 ^ (k - 1)) (rw in_range_lem at t), λ h. rw in_range_lem (lt→ltb (mag a) (2 ^ (k - 1)) h))

-- twice the magnitude of a number in range is below p - 1
pub range_small : {p l K : ℕ} → Field p l K → (k : ℕ) (a : ℤ) → 2 ≤ k → k ≤ K → in_range k a ≡ true → mag a + mag a + 1 < p
range_small {p} {l} {K} F k a h m t =
    let small : mag a < 2 ^ (k - 1) = ltb-true (mag a) (2 ^ (k - 1)) (rw in_range_lem at t) in
    let fits : 2 ^ suc (k - 1) ≤ 2 ^ K = pow_mono (omega arith) in
    omega (arith, pow-suc 2 (k - 1))

field_codes : {p l K : ℕ} → Field p l K → Codes p K
field_codes {p} {l} {K} F = record {
  below = λ a. code_below p a (omega arith);
  modulo = λ a. record { multiple = shr_z a p; is = code_floor p a (omega arith) };
  range_up = λ k n. in_magnitude k (pos n);
  range_down = λ k n. in_magnitude k (negsuc n);
  reads_up = reads_up p;
  reads_down = reads_down p;
  reading_undoes = λ k a h m t. read_code p a F.modulus_is.odd (range_small F k a h m (is_true (in_range k a) t));
  coding_undoes = code_read p;
}

pub every_coding : EveryCoding
every_coding f h = field_codes (fields f h)
