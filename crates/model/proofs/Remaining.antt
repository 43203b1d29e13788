-- The remainder, the floor and the sign of the plain interpreter as equations modulo p and in ℤ.
-- Assumes nothing.
use mathlib.Core.Path.{◌≡◌, refl}
use Prim.Native.Nat.{ℕ, ◌+◌, ◌-◌, ◌*◌, ◌%◌, ◌^◌, ◌≤◌, ◌<◌}
use native.Mathlib.Nat.{mod-lt}
use native.Mathlib.Omega.{arith}
use lib.Pow.{pow_pos}
use Rattle.algebra.specs.Ring.{add, sub, mul}
use Rattle.algebra.proofs.Ring.{ring, mod-ring, given, reduced}
use Rattle.model.specs.Fields.{Field, power_of_2, inverse_power_of_2}
use Rattle.model.specs.Coding.{read_back}
use Rattle.model.specs.Plain.{rem, quot, negative}
use Rattle.model.specs.Formulas.{Remains, Divides, Signs}
use Rattle.model.proofs.Fields.{power_inverse}
use Rattle.model.proofs.Coding.{code_read}
use Rattle.model.proofs.Exact.{twice_fits, negative_read, division_of}

-- q is (a − r) times the inverse i of M: q times M and r are a
undivided : {p : ℕ} (M i a r : ℕ) → 0 < p → a < p → mul p (M % p) i ≡ 1 → (mul p i (sub p a r) * M + r) % p ≡ a
undivided {p} M i a r z h e = reduced h (given (sub p a r) _ _ z e (simp mod-ring (ring z _ _ _ _ (omega arith))))

-- and with minus q: it times M and a are r
negated : {p : ℕ} (M i a r : ℕ) → 0 < p → r < p → mul p (M % p) i ≡ 1 → (sub p 0 (mul p i (sub p a r)) * M + a) % p ≡ r
negated {p} M i a r z h e = reduced h (given (sub p r a) _ _ z e (simp mod-ring (ring z _ _ _ _ (omega arith))))

module _ {p l K : ℕ} (F : Field p l K) where
  pub positive : 0 < p
  positive = omega arith

  inverse_of : (m : ℕ) → mul p (2 ^ m % p) (inverse_power_of_2 p m) ≡ 1
  inverse_of m = unfold power_of_2 in power_inverse F.modulus_is m

  pub remains : (k m a : ℕ) → 2 ≤ k → k ≤ K → 1 ≤ m → m < k → a < p → Remains p k m a (rem p k m a)
  remains k m a l g i j h = record { exact = λ t. record { floor = _; division = division_of F k m a (read_back p a) g j (code_read p a h) t }; formula = unfold rem add in refl }

  pub divides : (k m a : ℕ) → 2 ≤ k → k ≤ K → 1 ≤ m → m < k → a < p → Divides p k m a (quot p k m a)
  divides k m a l g i j h =
      record {
        exact = λ t. record { remainder = _; division = division_of F k m a (read_back p a) g j (code_read p a h) t };
        formula = unfold quot rem add in undivided (2 ^ m) (inverse_power_of_2 p m) a _ positive h (inverse_of m);
      }

  pub signs : (k a : ℕ) → 2 ≤ k → k ≤ K → a < p → Signs p k a (negative p k a)
  signs k a l g h =
      let small : (a + 2 ^ (k - 1)) % p % 2 ^ (k - 1) < p = omega (arith, mod-lt ((a + 2 ^ (k - 1)) % p) (pow_pos (k - 1)), twice_fits F k (omega arith) g) in
      record {
        exact = negative_read F k a l g h;
        formula = unfold negative quot rem add in negated (2 ^ (k - 1)) (inverse_power_of_2 p (k - 1)) a _ positive small (inverse_of (k - 1));
      }
