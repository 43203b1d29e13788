-- Partners of masks: a mask's partner opens with one number what the mask opens with another. Of whole-field masks each has its partner.
-- Assumes nothing.
use mathlib.Core.Path.{◌≡◌, sym}
use mathlib.Core.List.{List, [], ◌∷◌}
use Prim.Native.Nat.{ℕ, ◌≤◌, ◌<◌}
use native.Mathlib.Omega.{arith}
use lib.ListN.{length}
use Rattle.algebra.specs.Ring.{add, sub}
use Rattle.algebra.proofs.Ring.{ring, mod-ring, reduced, add_lt, sub_lt}
use Rattle.model.specs.Fields.{Modulus, Field}
use Rattle.model.specs.Steps.{Setting, Row}
use Rattle.model.specs.Sheet.{secrets, spell}
use Rattle.model.proofs.Polynomials.{positive}
use Rattle.model.proofs.Determined.{Bounds}
use Rattle.model.proofs.Masked.{whole_field}

-- What is needed of masks, beside their bounds: `Opens X r X' r'` says that X with r opens what X' with r' opens.
pub record Space (p l B : ℕ) (Opens : ℕ → ℕ → ℕ → ℕ → Type 0) : Type 0 where
  pub bounds : Bounds p l B
  pub same : {X r X' r' : ℕ} → Opens X r X' r' → add p X r ≡ add p X' r'
  pub back : {X r X' r' : ℕ} → Opens X r X' r' → Opens X' r' X r

-- The numbers xs are masked with the first masks of a list, and each of these has a partner for the number in its place in xs'.
pub data Linked (S : Setting) (B : ℕ) (Opens : ℕ → ℕ → ℕ → ℕ → Type 0) : List ℕ → List ℕ → List (List Row) → Type 0 where
  unlinked : {ms : List (List Row)} → Linked S B Opens [] [] ms
  linked : {X X' : ℕ} {xs xs' : List ℕ} {b : List Row} {ms : List (List Row)} (r' : ℕ) → r' < B → Opens X (spell (secrets S b)) X' r'
      → Linked S B Opens xs xs' ms → Linked S B Opens (X ∷ xs) (X' ∷ xs') (b ∷ ms)

-- masks of the whole field
abbrev pub SameOpened : ℕ → ℕ → ℕ → ℕ → ℕ → Type 0
SameOpened p X r X' r' = add p X r ≡ add p X' r'

pub whole_space : {p l K : ℕ} → Field p l K → Space p l p (SameOpened p)
whole_space F = record { bounds = whole_field F; same = λ e. e; back = λ e. sym e }

module _ (S : Setting) (M : Modulus S.p) where
  less_sum : (X : ℕ) {C : ℕ} → C < S.p → add S.p X (sub S.p C X) ≡ C
  less_sum X l = let h = positive M in reduced l (simp mod-ring (ring h _ _ _ _ (omega arith)))

  pub all_linked : (xs xs' : List ℕ) (ms : List (List Row)) → length xs ≡ length xs' → length xs ≤ length ms
      → Linked S S.p (SameOpened S.p) xs xs' ms
  all_linked [] [] ms e l = unlinked
  all_linked [] (X' ∷ xs') ms e l = absurd (omega arith)
  all_linked (X ∷ xs) [] ms e l = absurd (omega arith)
  all_linked (X ∷ xs) (X' ∷ xs') [] e l = absurd (omega arith)
  all_linked (X ∷ xs) (X' ∷ xs') (b ∷ ms) e l =
      let h = positive M in
      let C = add S.p X (spell (secrets S b)) in
      linked {X = X} {X' = X'} {b = b} (sub S.p C X') (sub_lt C X' h) (sym (less_sum X' (add_lt X (spell (secrets S b)) h)))
      (all_linked xs xs' ms (omega arith) (omega arith))
