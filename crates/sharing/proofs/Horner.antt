-- Horner's rule as a loop has it, from the last coefficient to the first.
-- Assumes nothing.
use mathlib.Core.Path.{◌≡◌, refl}
use mathlib.Core.List.{List, [], ◌∷◌, ◌++◌}
use Prim.Native.Nat.{ℕ}
use native.Mathlib.Omega.{arith}
use lib.ListN.{length}
use Rattle.algebra.specs.Ring.{add, mul}
use Rattle.model.specs.Sharing.{eval}

-- the value at x of the polynomial whose first coefficients are cs, where those after them give the value r
unfoldable pub onward : ℕ → ℕ → List ℕ → ℕ → ℕ
onward p x [] r = r
onward p x (c ∷ cs) r = add p c (mul p x (onward p x cs r))

module _ (p x : ℕ) where
  pub horner_start : (cs : List ℕ) → onward p x cs 0 ≡ eval p cs x
  unfolding onward eval
  horner_start [] = refl
  horner_start (c ∷ cs) = rw (horner_start cs)

  onward_last : (cs : List ℕ) (c r : ℕ) → onward p x (cs ++ (c ∷ [])) r ≡ onward p x cs (add p c (mul p x r))
  unfolding onward
  onward_last [] c r = refl
  onward_last (d ∷ cs) c r = rw (onward_last cs c r)

  -- one coefficient more
  pub horner : (cs front : List ℕ) (c r v : ℕ) {m s : ℕ} → onward p x cs r ≡ v → cs ≡ front ++ (c ∷ []) → m ≡ mul p x r → s ≡ add p c m → onward p x front s ≡ v
  horner cs front c r v k e d q = rw (q, d, ← onward_last front c r, ← e) k

  -- and the constant term
  pub horner_end : (cs left : List ℕ) (c r : ℕ) {m s : ℕ} → onward p x left r ≡ eval p cs x → length left ≡ 0 → m ≡ mul p x r → s ≡ add p c m → s ≡ eval p (c ∷ cs) x
  unfolding onward eval
  horner_end cs [] c r k z d q = cc
  horner_end cs (l ∷ left) c r k z d q = absurd (omega arith)
