-- A sheet's number by the tests before and after 12: who is present decides nothing else of it.
-- Assumes nothing.
use mathlib.Core.Path.{◌≡◌, refl, sym, ap, ◌∙◌}
use mathlib.Core.Logic.{◌↔◌, ◌≢◌}
use mathlib.Core.Bool.{Bool}
use mathlib.Core.List.{List, [], ◌∷◌, ◌++◌}
use Prim.Native.Nat.{ℕ, zero, suc, ◌≤◌}
use native.Mathlib.Omega.{arith}
use Rattle.algebra.proofs.Tests.{is_true, is_false}
use Rattle.model.specs.Fields.{field_tests, setting_tests}
use Rattle.model.specs.Presence.{everyone, PermittedSet, permitted_set}
use Rattle.model.specs.Refusing.{first_failed, given}
use Rattle.model.specs.Steps.{Row, Deal}
use Rattle.model.specs.Sheet.{Header, header_of, setting_with, input_in, deal_in, all, good_mask, good_triple, header_tests, present_tests, limit_tests, length_tests, row_tests, sheet_tests, sheet_number}
use Rattle.model.proofs.Presence.{presence, all_permitted}
use Rattle.model.proofs.Trying.{given_done, given_refused, appended, up_to, number_most}
use Rattle.model.proofs.Lengths.{header_numbered, header_read}
use Rattle.model.proofs.Acceptance.{same_mask, same_triple}

-- the tests after 12
abbrev pub later : ℕ → List ℕ → List (Bool × ℕ)
later present s = let h = header_of s in limit_tests h ++ (length_tests h s ++ row_tests (setting_with present h) (input_in h s) (deal_in h s))

all_same : {A : Type 0} (f g : A → Bool) → ((x : A) → f x ≡ g x) → (xs : List A) → all f xs ≡ all g xs
unfolding all
all_same f g e [] = refl
all_same f g e (x ∷ xs) = rw (e x, all_same f g e xs)

same_rows : (b c : ℕ) (h : Header) (input : List Row) (d : Deal) → row_tests (setting_with b h) input d ≡ row_tests (setting_with c h) input d
unfolding row_tests
same_rows b c h input d =
    rw (all_same (good_mask (setting_with b h)) (good_mask (setting_with c h)) (same_mask (setting_with b h) (setting_with c h) refl refl) d.masks, all_same (good_triple (setting_with b h)) (good_triple (setting_with c h)) (same_triple (setting_with b h) (setting_with c h) refl refl) d.triples)

module _ (present : ℕ) (s : List ℕ) where
  abbrev Set : Type 0
  Set = PermittedSet (header_of s).n (header_of s).t present

  by_header : sheet_number present s ≡ given (first_failed (header_tests s)) (first_failed (present_tests (header_of s) present ++ later present s)) (first_failed (header_tests s))
  unfolding sheet_tests
  by_header = appended (header_tests s) _ (header_numbered s)

  permitted_passes : Set → first_failed (present_tests (header_of s) present ++ later present s) ≡ first_failed (later present s)
  unfolding present_tests first_failed
  permitted_passes Q = rw (is_true (permitted_set (header_of s).n (header_of s).t present) ((presence.tested (header_of s).n (header_of s).t present).1 Q))

  refused_first : (Set → ⊥) → first_failed (present_tests (header_of s) present ++ later present s) ≡ 12
  unfolding present_tests first_failed
  refused_first n = rw (is_false (permitted_set (header_of s).n (header_of s).t present) (λ t. n ((presence.tested (header_of s).n (header_of s).t present).0 t)))

  later_most : first_failed (later present s) ≤ 8
  unfolding limit_tests length_tests row_tests up_to
  later_most = number_most 8 (later present s) tt

  header_most : first_failed (header_tests s) ≤ 3
  unfolding header_tests field_tests setting_tests up_to
  header_most = number_most 3 (header_tests s) tt

  -- where 1, 2 or 3 refuses
  pub header_decides : first_failed (header_tests s) ≢ 0 → sheet_number present s ≡ first_failed (header_tests s)
  header_decides z = by_header ∙ given_refused _ _ _ z

  -- where the set is permitted, the number is that of the other tests
  pub without_set : (first_failed (header_tests s) ≡ 0 → Set) → sheet_number present s ≡ given (first_failed (header_tests s)) (first_failed (later present s)) (first_failed (header_tests s))
  without_set Q = by_header ∙ go (first_failed (header_tests s)) refl
    where
      go : (k : ℕ) → first_failed (header_tests s) ≡ k → given k (first_failed (present_tests (header_of s) present ++ later present s)) k ≡ given k (first_failed (later present s)) k
      go zero e = permitted_passes (Q e)
      go (suc k) e = refl

  pub twelve : (sheet_number present s ≡ 12) ↔ ((first_failed (header_tests s) ≡ 0) × (Set → ⊥))
  twelve =
      (to (first_failed (header_tests s)) by_header header_most, λ h. by_header ∙ given_done _ _ _ h.0 ∙ refused_first h.1)
    where
      to : (k : ℕ) → sheet_number present s ≡ given k (first_failed (present_tests (header_of s) present ++ later present s)) k → k ≤ 3
          → sheet_number present s ≡ 12 → (k ≡ 0) × (Set → ⊥)
      to zero e l q = (refl, λ Q. omega (arith, later_most, e, permitted_passes Q))
      to (suc k) e l q = absurd (omega arith)

-- everyone is permitted where 1, 2 and 3 do not refuse
pub everyone_permitted : (s : List ℕ) → first_failed (header_tests s) ≡ 0 → PermittedSet (header_of s).n (header_of s).t (everyone (header_of s).n)
everyone_permitted s e = all_permitted (header_of s).n (header_of s).t (omega (arith, (header_read s refl e).people))

-- two permitted sets give one number
pub same_number : (b c : ℕ) (s : List ℕ) → (first_failed (header_tests s) ≡ 0 → PermittedSet (header_of s).n (header_of s).t b)
    → (first_failed (header_tests s) ≡ 0 → PermittedSet (header_of s).n (header_of s).t c) → sheet_number b s ≡ sheet_number c s
same_number b c s B C =
    let h = header_of s in
    without_set b s B
    ∙ ap (λ (z : ℕ). given (first_failed (header_tests s)) z (first_failed (header_tests s)))
    (ap (λ (t : List (Bool × ℕ)). first_failed (limit_tests h ++ (length_tests h s ++ t))) (same_rows b c h (input_in h s) (deal_in h s)))
    ∙ sym (without_set c s C)
