-- Recovery by taking off the constant term: what is left, divided by the party's number, is the row of the other coefficients.
-- Assumes nothing.
use mathlib.Core.Path.{◌≡◌, ap, ◌∙◌}
use mathlib.Core.List.{List, [], ◌∷◌}
use Prim.Native.Nat.{ℕ, zero, suc, ◌+◌, ◌%◌, ◌≤◌, ◌<◌}
use native.Mathlib.Omega.{arith}
use lib.ListN.{length, get_or, drop, length-drop}
use lib.Seq.{drop-cons, get_or-drop}
use Rattle.algebra.specs.Ring.{sub, mul}
use Rattle.algebra.specs.Lists.{Below, from}
use Rattle.algebra.specs.Rows.{row}
use Rattle.algebra.proofs.Ring.{ring, mod-ring, reduced, both_reduced, given, mul_lt}
use Rattle.algebra.proofs.Lists.{below_head, in_from, from_in, length_from}
use Rattle.algebra.proofs.Rows.{row_at_lem, row_ext}
use Rattle.model.specs.Fields.{Modulus, inverse}
use Rattle.model.specs.Sharing.{eval, at, recover, secret}
use Rattle.model.proofs.Polynomials.{positive, eval_lt, length_interpolate, below_interpolate, interpolate_eval}
use Rattle.model.proofs.Sharings.{nodes_from}
use Rattle.model.proofs.Weights.{value_before, weighted_cong}
use Rattle.model.proofs.Extrapolation.{before}

pub length_recover : (p t : ℕ) (x : List ℕ) → length (recover p t x) ≡ suc t
unfolding recover
length_recover p t x = length_interpolate p _ _ ∙ length_from 1 (suc t)

pub below_recover : {p : ℕ} → Modulus p → (t : ℕ) (x : List ℕ) → Below p (recover p t x)
unfolding recover
below_recover M t x = below_interpolate (positive M) _ _

-- the shares of parties 1 to t + 1 are the recovered polynomial's values
pub recovered_value : {p : ℕ} → Modulus p → (t : ℕ) (x : List ℕ) (j : ℕ) → t < 7 → j ≤ t → eval p (recover p t x) (suc j) ≡ get_or x j 0 % p
unfolding recover
recovered_value M t x j l k =
    interpolate_eval M (from 1 (suc t)) (at 0 x) (nodes_from 1 (suc t) (omega arith)) (from_in 1 (suc t) (suc j) (omega arith) (omega arith))

-- the secret is the first coefficient
pub constant_term : {p : ℕ} → Modulus p → (t : ℕ) (x : List ℕ) → secret p t x ≡ get_or (recover p t x) 0 0
unfolding secret
constant_term {p} M t x = first (recover p t x) (length_recover p t x) (below_recover M t x)
  where
    first : (cs : List ℕ) → length cs ≡ suc t → Below p cs → eval p cs 0 ≡ get_or cs 0 0
    first [] l b = absurd (omega arith)
    first (c ∷ cs) l b = unfold eval in let h = positive M in reduced (below_head b) (simp mod-ring (ring h _ _ _ _ (omega arith)))

-- the row of the coefficients from k on, as far as m shares
abbrev pub rest_row : ℕ → List ℕ → ℕ → ℕ → List ℕ
rest_row p cs k m = row m (λ j. eval p (drop k cs) (suc j))

-- one share: (v - c) / d, where v is the value at d of c + X cs
taken_off : {p : ℕ} → Modulus p → (v c : ℕ) (cs : List ℕ) (d : ℕ) → 0 < d → d < 8 → v % p ≡ eval p (c ∷ cs) d
    → mul p (sub p v c) (inverse p d) ≡ eval p cs d
unfolding eval
taken_off {p} M v c cs d a b e =
    let h = positive M in
    both_reduced (mul_lt _ _ h) (eval_lt h cs d)
    (given (inverse p d) _ _ h e (given (eval p cs d) _ _ h (M.units d a b) (simp mod-ring (ring h _ _ _ _ (omega arith)))))

at_rest : (p : ℕ) (cs : List ℕ) (k m z : ℕ) → 0 < z → z < suc m → at 0 (rest_row p cs k m) z ≡ eval p (drop k cs) z
at_rest p cs k m zero a b = absurd (omega arith)
at_rest p cs k m (suc j) a b = row_at_lem m _ j (omega arith)

module _ {p : ℕ} (M : Modulus p) (cs : List ℕ) (low : Below p cs) (k : ℕ) (l : k < length cs) where
  -- a row of m values of the coefficients from k on, with the first of them taken off
  pub take_off : (x : List ℕ) (m c : ℕ) → m < 8 → ((j : ℕ) → j < m → get_or x j 0 % p ≡ eval p (drop k cs) (suc j)) → c ≡ get_or cs k 0
      → row m (λ j. mul p (sub p (get_or x j 0) c) (inverse p (suc j))) ≡ rest_row p cs (suc k) m
  take_off x m c h v e =
      row_ext m _ _ (λ j b. rw e (taken_off M (get_or x j 0) (get_or cs k 0) (drop (suc k) cs) (suc j) (omega arith) (omega arith)
      (v j b ∙ ap (λ (q : List ℕ). eval p q (suc j)) (drop-cons cs k 0 l))))

  -- the first of the coefficients from k on is the value at 0
  pub next_coefficient : (m : ℕ) → m < 8 → length cs ≡ k + m → (x : List ℕ) → x ≡ rest_row p cs k m → before p m x 0 ≡ get_or cs k 0
  unfolding eval
  next_coefficient m h q x e =
      ap (λ (a : ℕ). a % p) (weighted_cong p (from 1 m) _ (λ z. eval p (drop k cs) (0 + z)) (λ z i.
      let b = in_from 1 m i in rw e (at_rest p cs k m (0 + z) (omega arith) (omega arith))))
      ∙ value_before M m (drop k cs) h (rw length-drop (omega arith)) (record { at = λ i b. rw get_or-drop (low.at (k + i) (omega (arith, length-drop k cs))) }) 0
      ∙ rw (drop-cons cs k 0 l) (reduced (low.at k l) (let z = positive M in simp mod-ring (ring z _ _ _ _ (omega arith))))
