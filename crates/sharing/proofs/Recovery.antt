-- Recovery of the coefficients, one law for each need of its loop: after k turns the coefficients before k are written, c is coefficient k,
-- and what is left of the row has the values of the coefficients from k on.
-- Assumes nothing.
use mathlib.Core.Path.{◌≡◌, sym, ap, ◌∙◌}
use mathlib.Core.List.{List}
use Prim.Native.Nat.{ℕ, suc, ◌+◌, ◌-◌, ◌%◌, ◌≤◌, ◌<◌}
use native.Mathlib.Nat.{mod-eq_of_lt}
use native.Mathlib.Numerals.{add-one}
use native.Mathlib.Omega.{arith}
use lib.ListN.{length, get_or, set, drop, length-drop}
use lib.Seq.{get_or-drop, take_all}
use Rattle.algebra.specs.Ring.{sub, mul}
use Rattle.algebra.specs.Rows.{row}
use Rattle.algebra.proofs.Lists.{Writing, writing_start, writing_more, writing_end, writing_length, onto_all}
use Rattle.algebra.proofs.Rows.{row_at_lem}
use Rattle.model.specs.Fields.{Modulus, inverse}
use Rattle.model.specs.Sharing.{eval, recover, secret}
use Rattle.model.proofs.Polynomials.{positive, eval_lt}
use Rattle.model.proofs.Extrapolation.{before}
use Rattle.model.proofs.Coefficients.{length_recover, below_recover, recovered_value, rest_row, take_off, next_coefficient, constant_term}

pub record Recovering (p t : ℕ) (x out₀ : List ℕ) (k c : ℕ) (rest out : List ℕ) : Type 0 where
  pub written : Writing (drop 1 (recover p t x)) out₀ t k out
  pub coefficient : c ≡ get_or (recover p t x) k 0
  pub values : (j : ℕ) → j < suc t - k → get_or rest j 0 % p ≡ eval p (drop k (recover p t x)) (suc j)

module _ {p : ℕ} (M : Modulus p) (t : ℕ) (h : t ≤ 3) (x out₀ : List ℕ) (l : length out₀ ≡ t) where
  pub recovering_start : {c : ℕ} → c ≡ secret p t x → Recovering p t x out₀ 0 c x out₀
  recovering_start e =
      record {
        written = writing_start _ _ _;
        coefficient = e ∙ constant_term M t x;
        values = λ j k. sym (recovered_value M t x j (omega arith) (omega arith));
      }

  pub recovering_more : {k c v : ℕ} {rest next out : List ℕ} → Recovering p t x out₀ k c rest out → k < t
      → next ≡ row (t - k) (λ j. mul p (sub p (get_or rest j 0) c) (inverse p (suc j))) → v ≡ before p (t - k) next 0
      → Recovering p t x out₀ (k + 1) v next (set out k v)
  recovering_more {k} {c} {v} {rest} {next} {out} R b e f =
      record {
        written = writing_more R.written b (omega (arith, size)) (omega arith) (found ∙ sym (get_or-drop 1 cs k 0));
        coefficient = found ∙ ap (λ (i : ℕ). get_or cs i 0) (omega arith);
        values = λ j m. rw (left, add-one, row_at_lem (t - k) _ j (omega arith)) (mod-eq_of_lt (eval_lt (positive M) _ _));
      }
    where
      cs : List ℕ
      cs = recover p t x

      size : length (drop 1 cs) ≡ t
      size = rw (length-drop, length_recover p t x) (omega arith)

      left : next ≡ rest_row p cs (suc k) (t - k)
      left =
          e ∙ take_off M cs (below_recover M t x) k (rw length_recover (omega arith)) rest (t - k) c (omega arith)
          (λ j m. R.values j (omega arith)) R.coefficient

      found : v ≡ get_or cs (1 + k) 0
      found =
          let q : 1 + k ≡ suc k = omega arith in
          f ∙ rw q (next_coefficient M cs (below_recover M t x) (suc k) (rw length_recover (omega arith)) (t - k) (omega arith)
          (rw length_recover (omega arith)) next left)

  pub recovering_end : {k c : ℕ} {rest out : List ℕ} → Recovering p t x out₀ k c rest out → t ≤ k → out ≡ drop 1 (recover p t x)
  recovering_end R b =
      let size : length (drop 1 (recover p t x)) ≡ t = rw (length-drop, length_recover p t x) (omega arith) in
      writing_end R.written b ∙ rw (take_all t (drop 1 (recover p t x)) (omega arith)) (onto_all _ out₀ (omega arith))

  pub recovering_length : {k c : ℕ} {rest out : List ℕ} → Recovering p t x out₀ k c rest out → length out ≡ t
  recovering_length R =
      let size : length (drop 1 (recover p t x)) ≡ t = rw (length-drop, length_recover p t x) (omega arith) in
      writing_length R.written (omega arith) (omega arith) ∙ l
