-- What the plain interpreter's formulas are in ℤ, in every field of the table; and which numbers have the sum of BLOCKS in the range.
-- Assumes nothing.
use mathlib.Core.Path.{◌≡◌, ap, ◌∙◌}
use mathlib.Core.Logic.{◌↔◌}
use Prim.Native.Nat.{ℕ, suc, ◌+◌, ◌-◌, ◌*◌, ◌/◌, ◌^◌, ◌≤◌, ◌<◌}
use native.Mathlib.Nat.{mod-eq_of_lt, div-le_self, pow-suc}
use native.Mathlib.Decide.{dec_lt}
use native.Mathlib.Omega.{arith}
use borrow.Author.Tests.{le-ltb}
use lib.Dec.{T}
use lib.IntN.{ℤ, pos, negsuc, sub_ℕ, ◌-ℤ◌, ◌*ℤ◌, +ℤ_comm}
use lib.Pow.{pow_pos, pow_mono, pow-add}
use lib.Signed.{mag, lt_z, shr_z, mag_shr}
use Rattle.model.specs.Fields.{power_of_2, inverse_power_of_2, Field}
use Rattle.model.specs.Coding.{in_range, code, read_back}
use Rattle.model.specs.Plain.{rem, quot, negative, exceeds}
use Rattle.model.specs.Formulas.{Division, one, blocks_sum}
use Rattle.model.proofs.Fields.{power_inverse}
use Rattle.model.proofs.Coding.{in_magnitude, below_zero, reads_up, reads_down, code_below, code_floor, read_code, code_read}
use Rattle.model.proofs.Signed.{sign_sub, code_sub, floor_is, remainder_is, sign_is}

module _ {p l K : ℕ} (F : Field p l K) where
  pub twice_fits : (k : ℕ) → 1 ≤ k → k ≤ K → 2 ^ (k - 1) + 2 ^ (k - 1) < p
  twice_fits k h m = let fits : 2 ^ suc (k - 1) ≤ 2 ^ K = pow_mono (omega arith) in omega (arith, pow-suc 2 (k - 1))

  module _ (k m : ℕ) (a : ℤ) (hk : k ≤ K) (hm : m < k) (r : mag a < 2 ^ (k - 1)) where
    rem_code : rem p k m (code p a) ≡ code (2 ^ m) a
    unfolding rem
    rem_code =
        let e : 2 ^ (k - 1) ≡ 2 ^ (k - 1 - m) * 2 ^ m = ap (λ (x : ℕ). 2 ^ x) (omega arith) ∙ pow-add 2 (k - 1 - m) m in
        rw e (remainder_is p (2 ^ m) (2 ^ (k - 1 - m)) a (pow_pos m) (omega arith) (omega (arith, twice_fits k (omega arith) hk)))

    quot_code : quot p k m (code p a) ≡ code p (shr_z a (2 ^ m))
    unfolding quot power_of_2
    quot_code = rw rem_code (floor_is (omega arith) (2 ^ m) (inverse_power_of_2 p m) a (pow_pos m) (power_inverse F.modulus_is m))

    division_code : Division a (2 ^ m) (read_back p (quot p k m (code p a))) (rem p k m (code p a))
    division_code =
        let s : mag (shr_z a (2 ^ m)) ≤ mag a = mag_shr a (2 ^ m) in
        let q : read_back p (code p (shr_z a (2 ^ m))) ≡ shr_z a (2 ^ m) =
        read_code p (shr_z a (2 ^ m)) F.modulus_is.odd (omega (arith, twice_fits k (omega arith) hk)) in
        rw (rem_code, quot_code, q)
        (record {
          is = code_floor (2 ^ m) a (pow_pos m) ∙ +ℤ_comm (pos (code (2 ^ m) a)) (shr_z a (2 ^ m) *ℤ pos (2 ^ m));
          small = code_below (2 ^ m) a (pow_pos m);
        })

  negative_code : (k : ℕ) (a : ℤ) → 2 ≤ k → k ≤ K → T (in_range k a) → negative p k (code p a) ≡ one (lt_z a (pos 0))
  unfolding negative
  negative_code k a h hk t =
      let r = (in_magnitude k a).0 t in
      rw (quot_code k (k - 1) a hk (omega arith) r) (sign_is p (2 ^ (k - 1)) a (omega arith) r)

  pub negative_read : (k x : ℕ) → 2 ≤ k → k ≤ K → x < p → T (in_range k (read_back p x)) → negative p k x ≡ one (lt_z (read_back p x) (pos 0))
  negative_read k x h hk l t = rw (code_read p x l) at (negative_code k (read_back p x) h hk t)

  -- for a value x that codes a number of the range: the division of that number, and where it is 0 or more, its floor
  pub division_of : (k m x : ℕ) (y : ℤ) → k ≤ K → m < k → code p y ≡ x → T (in_range k y) → Division y (2 ^ m) (read_back p (quot p k m x)) (rem p k m x)
  division_of k m x y hk hm e t = rw e at (division_code k m y hk hm ((in_magnitude k y).0 t))

  pub quot_of : (k m x s : ℕ) → k ≤ K → m < k → code p (pos s) ≡ x → T (in_range k (pos s)) → quot p k m x ≡ s / 2 ^ m
  quot_of k m x s hk hm e t =
      let r : s < 2 ^ (k - 1) = (in_magnitude k (pos s)).0 t in
      let f = twice_fits k (omega arith) hk in
      rw e at (quot_code k m (pos s) hk hm r) ∙ unfold code in mod-eq_of_lt {n = s / 2 ^ m} {m = p} (omega (arith, div-le_self s (2 ^ m)))

  -- which numbers have the sum of BLOCKS in the range
  pub charges_up : (k m a : ℕ) → a ≤ (p - 1) / 2 → T (in_range k (blocks_sum p m a)) ↔ (a + 2 ^ m ≤ 2 ^ (k - 1))
  charges_up k m a l =
      let I : T (in_range k (pos (a + (2 ^ m - 1)))) ↔ (a + (2 ^ m - 1) < 2 ^ (k - 1)) = in_magnitude k (pos (a + (2 ^ m - 1))) in
      rw (reads_up p a l) (λ t. omega (arith, I.0 t, pow_pos m), λ r. I.1 (omega (arith, pow_pos m)))

  pub charges_down : (k m n : ℕ) → m < k → n < (p - 1) / 2 → T (in_range k (blocks_sum p m (p - suc n))) ↔ (suc n < 2 ^ (k - 1) + 2 ^ m)
  charges_down k m n h l =
      let e : read_back p (p - suc n) ≡ negsuc n = reads_down p (p - suc n) (omega (arith, F.modulus_is.odd)) (omega arith) ∙ ap negsuc (omega arith) in
      rw e (go (2 ^ m - 1) (dec_lt (2 ^ m - 1) (suc n)) (omega (arith, pow_pos m, pow_mono {i = m} {j = k - 1} (omega arith))) (omega (arith, pow_pos m)))
    where
      go : (c : ℕ) → Dec (c < suc n) → c < 2 ^ (k - 1) → 2 ^ m ≡ suc c → T (in_range k (sub_ℕ c (suc n))) ↔ (suc n < 2 ^ (k - 1) + 2 ^ m)
      go c (yes d) f g =
          let I : T (in_range k (negsuc (n - c))) ↔ (n - c < 2 ^ (k - 1)) = in_magnitude k (negsuc (n - c)) in
          rw (below_zero c (suc n) (n - c) (omega arith)) (λ t. omega (arith, I.0 t), λ r. I.1 (omega arith))
      go c (no d) f g =
          let I : T (in_range k (pos (c - suc n))) ↔ (c - suc n < 2 ^ (k - 1)) = in_magnitude k (pos (c - suc n)) in
          rw (le-ltb c (suc n) (omega arith)) (λ t. omega arith, λ r. I.1 (omega arith))

  pub exceeds_code : (k : ℕ) (v a : ℤ) → 2 ≤ k → k ≤ K → T (in_range k (v -ℤ a)) → exceeds p k (code p v) (code p a) ≡ one (lt_z v a)
  unfolding exceeds
  exceeds_code k v a h hk t =
      let z : 0 < p = omega arith in
      rw (← (code_sub z v a)) (negative_code k (v -ℤ a) h hk t ∙ ap one (sign_sub v a))
