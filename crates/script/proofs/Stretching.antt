-- The tests of LTZS's stretches, as the code tries them by differences.
-- Assumes nothing.
use mathlib.Core.Path.{◌≡◌, sym}
use mathlib.Core.Bool.{Bool, true, false}
use Prim.Native.Nat.{ℕ, ◌+◌, ◌-◌, ◌≤◌, ◌<◌}
use native.Mathlib.Omega.{arith}
use lib.Dec.{T, leb, leb→le, le→leb}
use Rattle.algebra.proofs.Tests.{is_true, is_false}
use Rattle.model.specs.Script.{equal_or_apart, passes}
use Rattle.model.proofs.Operands.{Standing, equal, before, after, said, pass}

-- tests of which each passes where the other does
same_test : (x y : Bool) → (T x → T y) → (T y → T x) → x ≡ y
same_test true y f g = sym (is_true y (f tt))
same_test false y f g = sym (is_false y g)

pub ends_past : (d h : ℕ) → 64 < d → false ≡ leb (d + h) 64
ends_past d h l = same_test false (leb (d + h) 64) (λ t. absurd t) (λ t. absurd (omega (arith, leb→le (d + h) 64 t)))

pub ends_within : (d h : ℕ) → d ≤ 64 → leb h (64 - d) ≡ leb (d + h) 64
ends_within d h l =
    same_test (leb h (64 - d)) (leb (d + h) 64) (λ t. le→leb (d + h) 64 (omega (arith, leb→le h (64 - d) t)))
    (λ t. le→leb h (64 - d) (omega (arith, leb→le (d + h) 64 t)))

module _ (d a h : ℕ) where
  pub are_equal : d ≡ a → true ≡ passes (equal_or_apart d a h)
  are_equal e = sym (is_true _ (pass (equal_or_apart d a h) (equal e)))

  -- by the registers from the first of the one to the first of the other
  apart_by : (gap : ℕ) → (h ≤ gap → Standing d a h) → (Standing d a h → h ≤ gap) → leb h gap ≡ passes (equal_or_apart d a h)
  apart_by gap f g =
      same_test (leb h gap) (passes (equal_or_apart d a h)) (λ t. pass (equal_or_apart d a h) (f (leb→le h gap t))) (λ t. le→leb h gap (g (said (equal_or_apart d a h) t)))

  pub apart_below : d < a → leb h (a - d) ≡ passes (equal_or_apart d a h)
  apart_below l = apart_by (a - d) (λ m. before (omega arith)) within
    where
      within : Standing d a h → h ≤ a - d
      within (equal e) = absurd (omega arith)
      within (before m) = omega arith
      within (after m) = absurd (omega arith)

  pub apart_above : (d ≡ a → ⊥) → a ≤ d → leb h (d - a) ≡ passes (equal_or_apart d a h)
  apart_above n l = apart_by (d - a) (λ m. after (omega arith)) within
    where
      within : Standing d a h → h ≤ d - a
      within (equal e) = absurd (n e)
      within (before m) = absurd (n (omega arith))
      within (after m) = omega arith
