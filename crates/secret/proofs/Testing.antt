-- What is_sharing answers: the shares are below p, and each is what the t + 1 after it give.
-- Assumes nothing.
use mathlib.Core.Path.{◌≡◌, sym, ap, subst, ◌∙◌}
use mathlib.Core.Bool.{true, false}
use mathlib.Core.Logic.{◌≢◌}
use mathlib.Core.List.{List}
use Prim.Native.Nat.{ℕ, zero, suc, ◌+◌, ◌-◌, ◌%◌, ◌≤◌, ◌<◌}
use native.Mathlib.Decide.{dec_lt}
use native.Mathlib.Numerals.{add-one}
use native.Mathlib.Omega.{arith}
use lib.Dec.{T}
use lib.ListN.{get_or}
use Rattle.algebra.specs.Lists.{Below, all_below, from}
use Rattle.algebra.specs.Rows.{tab, row}
use Rattle.algebra.proofs.Lists.{all_below_lem, in_from}
use Rattle.algebra.proofs.Rows.{row_at_lem, row_ext, get_or_tab, length_tab}
use Rattle.algebra.proofs.Tests.{is_true, is_false}
use Rattle.model.specs.Fields.{Modulus, Parties}
use Rattle.model.specs.Sharing.{at, is_sharing}
use Rattle.model.proofs.Sharings.{Seat, share_lt, test_exact}
use Rattle.model.proofs.Extrapolation.{before, extrapolated, sharing_steps}
use Rattle.model.proofs.Weights.{weighted_cong}

-- party i's share
pub at_place : (x : List ℕ) (i : ℕ) → 1 ≤ i → at 0 x i ≡ get_or x (i - 1) 0
at_place x zero h = absurd (omega arith)
at_place x (suc j) h = ap (λ (k : ℕ). get_or x k 0) (omega arith)

-- one place more
pub steps_more : (p e : ℕ) (x : List ℕ) (i : ℕ) {v w : ℕ} → 1 ≤ i → ((z : ℕ) → 1 ≤ z → z < i → before p e x z ≡ at 0 x z)
    → v ≡ before p e x i → w ≡ get_or x (i - 1) 0 → v ≡ w → (z : ℕ) → 1 ≤ z → z < i + 1 → before p e x z ≡ at 0 x z
steps_more p e x i h steps a b q z k l = go (dec_lt z i)
  where
    go : Dec (z < i) → before p e x z ≡ at 0 x z
    go (yes m) = steps z k m
    go (no m) = let r : z ≡ i = omega arith in rw r (sym a ∙ q ∙ b ∙ sym (at_place x i h))

module _ {p n t : ℕ} (M : Modulus p) (P : Parties n t) (x : List ℕ) where
  -- the row of the first n cells, and its values
  first : List ℕ
  first = row n (λ j. get_or x j 0)

  first_at : (z : ℕ) → Seat n z → at 0 first z ≡ at 0 x z
  unfolding first
  first_at zero k = absurd (omega arith)
  first_at (suc j) k = row_at_lem n _ j k.most

  first_before : (i : ℕ) → i + suc t ≤ n → before p (suc t) first i ≡ before p (suc t) x i
  first_before i l = ap (λ (a : ℕ). a % p) (weighted_cong p (from 1 (suc t)) _ _ (λ z m.
      let b = in_from 1 (suc t) m in first_at (i + z) (record { least = omega arith; most = omega arith })))

  pub passes : all_below p (tab n (λ j. get_or x j 0)) ≡ true → ((i : ℕ) → 1 ≤ i → i + suc t ≤ n → before p (t + 1) x i ≡ at 0 x i)
      → is_sharing p n t (row n (λ j. get_or x j 0)) ≡ true
  unfolding first
  passes b steps =
      is_true _ ((test_exact M P first).1
      (sharing_steps M P first low
      (λ i k l. first_before i l ∙ rw add-one at (steps i (omega arith) l) ∙ sym (first_at i k))
      (row_ext n _ _ (λ j k. sym (row_at_lem n _ j k)))))
    where
      below : Below p (tab n (λ j. get_or x j 0))
      below = (all_below_lem p _).0 (rw b tt)

      low : (z : ℕ) → Seat n z → at 0 first z < p
      low zero k = absurd (omega arith)
      low (suc j) k = rw (row_at_lem n (λ i. get_or x i 0) j k.most) (rw (get_or_tab n (λ i. get_or x i 0) j k.most) at (below.at j (rw length_tab k.most)))

  pub fails_below : all_below p (tab n (λ j. get_or x j 0)) ≡ false → is_sharing p n t (row n (λ j. get_or x j 0)) ≡ false
  unfolding first
  fails_below b =
      is_false _ (λ s.
      let S = (test_exact M P first).0 s in
      subst T b ((all_below_lem p (tab n (λ j. get_or x j 0))).1 (record {
        at = λ j k.
            let m : j < n = rw length_tab at k in
            let seat : Seat n (suc j) = record { least = omega arith; most = m } in
            rw (get_or_tab n (λ i. get_or x i 0) j m) (rw (first_at (suc j) seat) at (share_lt M P S (suc j) seat));
      })))

  pub fails_at : (i : ℕ) → 1 ≤ i → i + suc t ≤ n → before p (t + 1) x i ≢ at 0 x i → is_sharing p n t (row n (λ j. get_or x j 0)) ≡ false
  unfolding first
  fails_at i a l differs =
      is_false _ (λ s.
      let k : Seat n i = record { least = a; most = omega arith } in
      differs (rw add-one (sym (first_before i l) ∙ extrapolated M P ((test_exact M P first).0 s) i k l ∙ first_at i k)))
