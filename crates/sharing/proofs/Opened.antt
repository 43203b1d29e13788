-- The sum of an opening, term by term, and that it fits 64 bits; and what stands in the record.
-- Assumes nothing.
use mathlib.Core.Path.{◌≡◌, refl, sym, ap, ◌∙◌}
use mathlib.Core.Bool.{Bool, true, cond}
use mathlib.Core.List.{List, [], ◌∷◌, map}
use Prim.Native.Nat.{ℕ, zero, suc, ◌+◌, ◌*◌, ◌/◌, ◌%◌, ◌^◌, ◌≤◌, ◌<◌}
use native.Mathlib.Nat.{mul-le-mul}
use native.Mathlib.Decide.{dec_le}
use native.Mathlib.Omega.{arith}
use lib.Dec.{eqb}
use lib.ListN.{length, get_or, take}
use lib.Seq.{length-take-le, get_or-take}
use borrow.Author.Tests.{eqb-true}
use Rattle.algebra.specs.Lists.{Below, onto_at, total}
use Rattle.algebra.proofs.Lists.{below_any}
use Rattle.algebra.proofs.Rows.{get_or_tab, is_tab}
use Rattle.model.specs.Deal as Paper
use Rattle.model.specs.Presence.{is_present, everyone, openers}
use Rattle.model.specs.Sharing.{at, weight, weighted, value_from}
use Rattle.model.specs.Steps.{value, recorded}
use Rattle.model.proofs.Polynomials.{positive}
use Rattle.model.proofs.Presence.{openers_in, openers_distinct, presence}
use Rattle.model.proofs.Sharings.{nodes_distinct}
use Rattle.model.proofs.Weights.{weight_lt, weighted_value}
use Rattle.presence.specs.Openings.{parties_of, weights_of, WorkedBy}
use Rattle.presence.proofs.Presences.{bit_left}
use Rattle.sharing.specs.Settings.{setting_of, Fitting}
use Rattle.sharing.specs.declared.setting.Setting.{Setting}

-- four products, of which those past the first t + 1 are 0
module _ (a b c d u v w z : ℕ) (f g : ℕ → ℕ) where
  abbrev parties : List ℕ
  parties = a ∷ b ∷ c ∷ d ∷ []

  abbrev weights : List ℕ
  weights = u ∷ v ∷ w ∷ z ∷ []

  four_terms : (t : ℕ) → t ≤ 3 → take (suc t) weights ≡ map f (take (suc t) parties) → ((i : ℕ) → suc t ≤ i → get_or weights i 0 ≡ 0)
      → u * g a + v * g b + w * g c + z * g d ≡ total (take (suc t) parties) (λ k. f k * g k)
  unfolding total
  four_terms t h e p = go t h (λ i. ap (λ (l : List ℕ). get_or l i 0) e) p
    where
      go : (t : ℕ) → t ≤ 3 → ((i : ℕ) → get_or (take (suc t) weights) i 0 ≡ get_or (map f (take (suc t) parties)) i 0) → ((i : ℕ) → suc t ≤ i → get_or weights i 0 ≡ 0)
          → u * g a + v * g b + w * g c + z * g d ≡ total (take (suc t) parties) (λ k. f k * g k)
      go zero h e p = unfold total in rw (e 0, p 1 (omega arith), p 2 (omega arith), p 3 (omega arith)) (omega arith)
      go (suc zero) h e p = unfold total in rw (e 0, e 1, p 2 (omega arith), p 3 (omega arith)) (omega arith)
      go (suc (suc zero)) h e p = unfold total in rw (e 0, e 1, e 2, p 3 (omega arith)) (omega arith)
      go (suc (suc (suc zero))) h e p = unfold total in rw (e 0, e 1, e 2, e 3) (omega arith)
      go (suc (suc (suc (suc t)))) h e p = absurd (omega arith)

map_at : (f : ℕ → ℕ) (xs : List ℕ) (i : ℕ) → i < length xs → get_or (map f xs) i 0 ≡ f (get_or xs i 0)
map_at f [] i h = absurd (omega arith)
map_at f (x ∷ xs) zero h = refl
map_at f (x ∷ xs) (suc i) h = map_at f xs i (omega arith)

-- a product of 32-bit numbers fits
pub product_fits : {a b : ℕ} → a < 2 ^ 32 → b < 2 ^ 32 → a * b < 2 ^ 64
product_fits {a} {b} h k = omega (arith, mul-le-mul {n₁ = a} {m₁ = b} {n₂ = 4294967295} {m₂ = 4294967295} (omega arith) (omega arith))

-- the points of a setting that fits
module _ (S : Setting) (F : Fitting S) where
  abbrev xs : List ℕ
  xs = openers S.n S.t S.opening.present

  abbrev O : WorkedBy S.p S.n S.t S.opening
  O = F.opens

  pub point_in : (i : ℕ) → i < 4 → (1 ≤ get_or (parties_of S.opening) i 0) × (get_or (parties_of S.opening) i 0 ≤ 7)
  point_in i h = (O.some i h, omega (arith, O.low.at i h))

  weight_below : (i : ℕ) → i < 4 → get_or (weights_of S.opening) i 0 < S.p
  weight_below i h = go (dec_le i S.t)
    where
      go : Dec (i ≤ S.t) → get_or (weights_of S.opening) i 0 < S.p
      go (yes l) =
          let ps = take (suc S.t) (parties_of S.opening) in
          let m : length ps ≡ suc S.t = length-take-le (suc S.t) (parties_of S.opening) (omega (arith, F.threshold)) in
          let e = get_or-take (suc S.t) (weights_of S.opening) i 0 (omega arith) in
          rw (sym e ∙ ap (λ (l : List ℕ). get_or l i 0) O.weights.weights ∙ map_at (weight S.p ps) ps i (omega arith))
          (weight_lt (omega (arith, F.modulus.above)) ps (get_or ps i 0))
      go (no n) = rw (O.weights.past i (omega arith)) (positive F.modulus)

  module _ (x : List ℕ) (b : Below S.p x) where
    share_below : (z : ℕ) → at 0 x z < S.p
    share_below zero = positive F.modulus
    share_below (suc j) = below_any (positive F.modulus) b j

    -- a term is at most (p − 1)², so that four fit 64 bits
    pub term_most : (i : ℕ) → i < 4 → {r : ℕ} → r ≡ get_or (weights_of S.opening) i 0 * at 0 x (get_or (parties_of S.opening) i 0) → r ≤ 4611686009837453316
    term_most i h e =
        rw e
        (mul-le-mul {n₂ = 2147483646} {m₂ = 2147483646} (omega (arith, weight_below i h, F.modulus.word))
        (omega (arith, share_below (get_or (parties_of S.opening) i 0), F.modulus.word)))

  pub summed : (x : List ℕ) {q r s t : ℕ} → q ≡ S.opening.first.weight * at 0 x S.opening.first.party → r ≡ S.opening.second.weight * at 0 x S.opening.second.party
      → s ≡ S.opening.third.weight * at 0 x S.opening.third.party → t ≡ S.opening.fourth.weight * at 0 x S.opening.fourth.party
      → q + r + s + t ≡ weighted S.p xs (at 0 x)
  unfolding weighted
  summed x eq er es et =
      let o = S.opening in
      rw (eq, er, es, et, ← O.parties)
      (four_terms o.first.party o.second.party o.third.party o.fourth.party o.first.weight o.second.weight o.third.weight o.fourth.weight
      (weight S.p (take (suc S.t) (parties_of o))) (at 0 x) S.t F.threshold O.weights.weights O.weights.past)

  -- the value is the sum, reduced last
  pub value_reduced : (x : List ℕ) {s r : ℕ} → s ≡ weighted S.p xs (at 0 x) → r ≡ s % S.p → r ≡ value (setting_of S) x
  unfolding value value_from
  value_reduced x e q =
      q ∙ ap (λ (z : ℕ). z % S.p) e
      ∙ weighted_value F.modulus xs (at 0 x)
      (nodes_distinct xs (openers_distinct S.n S.t S.opening.present) (λ z m. omega (arith, (openers_in S.n S.t S.opening.present z m).1, F.parties)))

-- the number of a column in the record, by the column's bit
pub number_at : (S : Paper.Setting) (x : List ℕ) (j : ℕ) {r : ℕ} → j < S.n → r ≡ cond (eqb (S.present / 2 ^ j % 2) 1) (get_or x j 0) S.p → r ≡ get_or (recorded S x) j 0
unfolding recorded
number_at S x j h q =
    q ∙ rw (← (bit_left S.present j)) (sym (get_or_tab S.n (λ k. cond (is_present S.present (suc k)) (get_or x k 0) S.p) j h))

-- with everyone present they are the row's shares
pub all_recorded : (S : Paper.Setting) (x : List ℕ) (at : ℕ) (log : List ℕ) {log' : List ℕ} {a : Bool} → S.n ≤ length x → a ≡ eqb S.present (everyone S.n) → a ≡ true
    → log' ≡ onto_at at (take S.n x) log → log' ≡ onto_at at (recorded S x) log
unfolding recorded
all_recorded S x at log h e t q =
    let p : S.present ≡ everyone S.n = eqb-true S.present (everyone S.n) (sym e ∙ t) in
    q ∙ ap (λ (l : List ℕ). onto_at at l log)
    (is_tab S.n (λ j. cond (is_present S.present (suc j)) (get_or x j 0) S.p) (take S.n x) (length-take-le S.n x h)
    (λ j l. get_or-take S.n x j 0 l ∙ sym (ap (λ (b : Bool). cond b (get_or x j 0) S.p) (ap (λ (b : ℕ). is_present b (suc j)) p ∙ presence.all_present S.n (suc j) (omega arith) l))))
