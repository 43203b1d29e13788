-- Sum first, reduce after: the weights among parties 1 to t + 1, what the sum is and how large, its remainder, and its refusals.
-- Assumes nothing.
use mathlib.Core.Path.{◌≡◌, refl, sym, ap, ◌∙◌}
use mathlib.Core.Logic.{◌≢◌}
use mathlib.Core.List.{List, [], ◌∷◌, map}
use Prim.Native.Nat.{ℕ, zero, suc, ◌+◌, ◌-◌, ◌*◌, ◌%◌, ◌≤◌, ◌<◌, zero-le}
use native.Mathlib.Nat.{mul-le-mul, le_trans, zero-mod}
use native.Mathlib.Decide.{dec_le}
use native.Mathlib.Omega.{arith}
use borrow.Author.Tests.{eq-eqb}
use lib.ListN.{length, replicate}
use Rattle.algebra.specs.Ring.{add, sub, mul}
use Rattle.algebra.specs.Lists.{Below, all_below, from, total, same_list}
use Rattle.algebra.specs.Rows.{tab, row, padded}
use Rattle.algebra.proofs.Lists.{below_any, in_from, length_from, total_le, total_scaled}
use Rattle.algebra.proofs.Rows.{row_at_lem}
use Rattle.model.specs.Fields.{Modulus, Parties, modulus, in_use, InUse, inverse, parties, field_tests, setting_tests}
use Rattle.model.specs.Sharing.{eval, share, newton, reciprocal, slope, interpolate, at, recover, secret, is_sharing, ratio, weight, weighted, secret_sum}
use Rattle.model.specs.Refusing.{first_failed}
use Rattle.model.specs.Entries.{recover_tests, recover_number, recover_value, sum_tests, sum_number, sum_value}
use Rattle.model.specs.SumFirst.{HandSheet, ProductsFit, Reconstructs, SumEntry, SumFirst}
use Rattle.model.proofs.Fields.{fields, below_four}
use Rattle.model.proofs.Polynomials.{positive}
use Rattle.model.proofs.Weights.{weight_lt, weighted_cong, secret_weighted}
use Rattle.model.proofs.Trying.{given_done, given_refused}
use Rattle.model.proofs.Entries.{Recovers, recover_accepted, recover_value_lem}

-- the weights among parties 1 to e, party 1's first
weights : ℕ → ℕ → List ℕ
weights p e = map (weight p (from 1 e)) (from 1 e)

-- in each field, for the thresholds 1, 2 and 3
hand_weights : (f : ℕ) → InUse f
    → (weights (modulus f) 2 ≡ 2 ∷ (modulus f - 1) ∷ []) × (weights (modulus f) 3 ≡ 3 ∷ (modulus f - 3) ∷ 1 ∷ [])
    × (weights (modulus f) 4 ≡ 4 ∷ (modulus f - 6) ∷ 4 ∷ (modulus f - 1) ∷ [])
unfolding modulus inverse sub mul from reciprocal ratio weight weights
hand_weights zero h = (refl, refl, refl)
hand_weights (suc zero) h = (refl, refl, refl)
hand_weights (suc (suc zero)) h = (refl, refl, refl)
hand_weights (suc (suc (suc zero))) h = (refl, refl, refl)
hand_weights (suc (suc (suc (suc f)))) h = absurd (omega (arith, below_four _ h))

-- a sum of products, by the list of the weights and that of the values
dot : List ℕ → List ℕ → ℕ
dot [] ys = 0
dot (x ∷ xs) [] = 0
dot (x ∷ xs) (y ∷ ys) = x * y + dot xs ys

total_dot : (w g : ℕ → ℕ) (xs : List ℕ) → total xs (λ x. w x * g x) ≡ dot (map w xs) (map g xs)
unfolding total dot
total_dot w g [] = refl
total_dot w g (x ∷ xs) = ap (λ (a : ℕ). w x * g x + a) (total_dot w g xs)

total_map : (w : ℕ → ℕ) (xs : List ℕ) → total xs w ≡ total (map w xs) (λ a. a)
unfolding total
total_map w [] = refl
total_map w (x ∷ xs) = ap (λ (a : ℕ). w x + a) (total_map w xs)

weights_added : (p e : ℕ) → total (from 1 e) (weight p (from 1 e)) ≡ total (weights p e) (λ a. a)
unfolding weights
weights_added p e = total_map (weight p (from 1 e)) (from 1 e)

-- the hand sheet: the weights and the first shares, product by product
by_products : (p t : ℕ) (x : List ℕ) → secret_sum p t x ≡ dot (weights p (suc t)) (map (at 0 x) (from 1 (suc t)))
unfolding secret_sum weighted weights
by_products p t x = total_dot _ _ (from 1 (suc t))

hand_sheet : (f : ℕ) → InUse f → (others : List ℕ) → HandSheet (modulus f) others
unfolding dot from
hand_sheet f h others =
    let w = hand_weights f h in
    record {
      two = λ a b. by_products _ 1 _ ∙ rw w.0 (omega arith);
      three = λ a b c. by_products _ 2 _ ∙ rw w.1 (omega arith);
      four = λ a b c d. by_products _ 3 _ ∙ rw w.2 (omega arith);
    }

-- Together the weights among parties 1 to e are at most 2p + 1. So the sum of their products with any 32-bit numbers fits 64 bits.
pub weights_total : {p : ℕ} → Modulus p → (e : ℕ) → e ≤ 4 → total (from 1 e) (weight p (from 1 e)) ≤ 2 * p + 1
unfolding total
weights_total {p} M e h = rw (weights_added p e, M.is) (go M.number M.in_use (rw M.is at M.above) e h)
  where
    go : (f : ℕ) → InUse f → 7 < modulus f → (e : ℕ) → e ≤ 4 → total (weights (modulus f) e) (λ a. a) ≤ 2 * modulus f + 1
    go f u above zero k = unfold from weights in omega arith
    go f u above (suc zero) k = unfold from weights in omega (arith, weight_lt {p = modulus f} (omega arith) (from 1 1) 1)
    go f u above (suc (suc zero)) k = rw (hand_weights f u).0 (omega arith)
    go f u above (suc (suc (suc zero))) k = rw (hand_weights f u).1 (omega arith)
    go f u above (suc (suc (suc (suc zero)))) k = rw (hand_weights f u).2 (omega arith)
    go f u above (suc (suc (suc (suc (suc e))))) k = absurd (omega arith)

-- the sum is given where nothing refuses, and refuses as recovery does
module _ (f n t : ℕ) (xs : List ℕ) where
  pub sum_value_lem : sum_number f n t xs ≡ 0 → sum_value f n t xs ≡ secret_sum (modulus f) t (padded xs)
  unfolding sum_value
  sum_value_lem e = given_done _ _ _ e

  pub sum_refused : sum_number f n t xs ≢ 0 → sum_value f n t xs ≡ 0
  unfolding sum_value
  sum_refused k = given_refused _ _ _ k

  pub sum_number_lem : (lent : ℕ) → lent ≡ t → sum_number f n t xs ≡ first_failed (recover_tests f n t xs lent)
  unfolding field_tests setting_tests first_failed sum_tests recover_tests
  sum_number_lem lent e = rw (eq-eqb lent t e) refl

  sum_accepted : sum_number f n t xs ≡ 0 → Recovers f n t xs t
  sum_accepted e = recover_accepted f n t xs t (sym (sum_number_lem t refl) ∙ e)

-- reconstruction, of any row
pub sum_secret : {p : ℕ} → Modulus p → (t : ℕ) → t < 7 → (x : List ℕ) → secret_sum p t x % p ≡ secret p t x
unfolding secret_sum
sum_secret M t h x = secret_weighted M t h x

module _ {p n t : ℕ} (M : Modulus p) (P : Parties n t) where
  sum_most : (x : List ℕ) → Below p x → secret_sum p t x ≤ 9223372026117357570
  unfolding secret_sum weighted
  sum_most x B =
      le_trans (total_scaled (p - 1) _ (at 0 x) (from 1 (suc t)) (λ z _. share_most z))
      (mul-le-mul {n₂ = 4294967295} {m₂ = 2147483646} (omega (arith, weights_total M (suc t) (omega arith), M.word)) (omega (arith, M.word)))
    where
      share_most : (j : ℕ) → at 0 x j ≤ p - 1
      share_most zero = zero-le
      share_most (suc j) = omega (arith, below_any (positive M) B j)

  reconstructs_at : Reconstructs p t
  reconstructs_at =
      record {
        products = λ x. unfold secret_sum weighted in refl;
        at_most_four = rw length_from (omega arith);
        row_fits = λ x B. omega (arith, sum_most x B);
        reduced_last = sum_secret M t (omega arith);
      }

-- the entry
module _ (f n t : ℕ) (xs : List ℕ) where
  sum_gives : sum_number f n t xs ≡ 0 → sum_value f n t xs ≡ secret_sum (modulus f) t xs
  unfolding secret_sum
  sum_gives e =
      let A = sum_accepted f n t xs e in
      let P = A.people in
      sum_value_lem f n t xs e
      ∙ weighted_cong (modulus f) (from 1 (suc t)) _ _ (λ z m. let b = in_from 1 (suc t) m in as_handed z b.0 (omega (arith, b.1, A.shares, P)))
    where
      as_handed : (z : ℕ) → 1 ≤ z → z ≤ length xs → at 0 (padded xs) z ≡ at 0 xs z
      as_handed zero l k = absurd (omega arith)
      as_handed (suc j) l k = row_at_lem (length xs) _ j (omega arith)

  entry_most : sum_value f n t xs ≤ 9223372026117357570
  entry_most = go (dec_le (sum_number f n t xs) 0)
    where
      go : Dec (sum_number f n t xs ≤ 0) → sum_value f n t xs ≤ 9223372026117357570
      go (yes l) =
          let e : sum_number f n t xs ≡ 0 = omega arith in
          let A = sum_accepted f n t xs e in
          rw (sum_gives e) (sum_most (fields f A.field).modulus_is A.people xs A.below)
      go (no k) = rw (sum_refused f n t xs (λ z. k (omega arith))) zero-le

  entry_remainder : (out : List ℕ) → length out ≡ t → sum_value f n t xs % modulus f ≡ recover_value f n t xs out
  unfolding recover_value
  entry_remainder out l = go (dec_le (sum_number f n t xs) 0) (sum_number_lem f n t xs (length out) l)
    where
      go : Dec (sum_number f n t xs ≤ 0) → sum_number f n t xs ≡ recover_number f n t xs out → sum_value f n t xs % modulus f ≡ recover_value f n t xs out
      go (yes l) same =
          let e : sum_number f n t xs ≡ 0 = omega arith in
          let A = sum_accepted f n t xs e in
          let P = A.people in
          ap (λ (a : ℕ). a % modulus f) (sum_value_lem f n t xs e) ∙ sum_secret (fields f A.field).modulus_is t (omega arith) (padded xs)
          ∙ sym (recover_value_lem f n t xs out (sym same ∙ e))
      go (no k) same =
          ap (λ (a : ℕ). a % modulus f) (sum_refused f n t xs (λ z. k (omega arith))) ∙ zero-mod (modulus f)
          ∙ sym (given_refused (recover_number f n t xs out) _ _ (λ z. k (omega (arith, same, z))))

  sum_entry : SumEntry f n t xs
  sum_entry =
      record {
        takes = λ e. let A = sum_accepted f n t xs e in (A.field, A.people, A.shares, A.below, A.sharing);
        gives = sum_gives;
        refused = sum_refused f n t xs;
        sum_fits = omega (arith, entry_most);
        largest = entry_most;
        remainder = entry_remainder;
        refuses = λ out l. sum_number_lem f n t xs (length out) l;
      }

fits_at : (f : ℕ) → InUse f → ProductsFit (modulus f)
fits_at f h =
    record {
      weights_below = λ xs x. weight_lt (omega (arith, M.above)) xs x;
      four_products = λ xs a b l k.
          let most = total_le 4611686009837453316 (λ z. a z * b z) xs (λ z m. mul-le-mul {n₂ = 2147483646} {m₂ = 2147483646}
          (omega (arith, (k z m).0, M.word)) (omega (arith, (k z m).1, M.word))) in
          omega (arith, most, l);
    }
  where
    M : Modulus (modulus f)
    M = (fields f h).modulus_is

largest_sum : (sum_number 3 7 3 (replicate 7 2147483646) ≡ 0) × (sum_value 3 7 3 (replicate 7 2147483646) ≡ 9223372026117357570)
unfolding add sub mul all_below same_list from total tab row modulus in_use field_tests setting_tests inverse parties eval share newton reciprocal slope interpolate recover is_sharing ratio weight weighted secret_sum first_failed sum_tests sum_value
largest_sum = (refl, refl)

pub sum_first : SumFirst
sum_first =
    record {
      hand_sheet = hand_sheet;
      products_fit = fits_at;
      reconstructs = λ f n t h P. reconstructs_at (fields f h).modulus_is P;
      entry = sum_entry;
      attained = largest_sum;
    }
