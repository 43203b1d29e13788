-- BLOCKS, in every field: the sum before the floor, the floor of that sum, and how many blocks are begun.
-- Assumes nothing.
use mathlib.Core.Path.{◌≡◌, ap, ◌∙◌}
use Prim.Native.Nat.{ℕ, ◌+◌, ◌^◌, ◌≤◌, ◌<◌}
use lib.IntN.{pos, ◌+ℤ◌}
use lib.Pow.{pow_pos}
use Rattle.algebra.specs.Ring.{add}
use Rattle.algebra.proofs.Ring.{add_lt}
use Rattle.model.specs.Fields.{Field}
use Rattle.model.specs.Coding.{code, read_back}
use Rattle.model.specs.Plain.{charged}
use Rattle.model.specs.Formulas.{Charges}
use Rattle.model.proofs.Coding.{code_read}
use Rattle.model.proofs.Signed.{code_add}
use Rattle.model.proofs.Begun.{up_to_next}
use Rattle.model.proofs.Dividing.{begun_is}
use Rattle.model.proofs.Exact.{division_of, quot_of}
use Rattle.model.proofs.Remaining.{positive, divides}

module _ {p l K : ℕ} (F : Field p l K) where
  pub charges : (k m a : ℕ) → 2 ≤ k → k ≤ K → 1 ≤ m → m < k → a < p → Charges p k m a (charged p k m a)
  unfolding charged
  charges k m a l g i j h =
      let c = up_to_next m in
      let e : code p (read_back p a +ℤ pos c) ≡ add p a c = code_add (positive F) (read_back p a) c ∙ ap (λ (v : ℕ). add p v c) (code_read p a h) in
      record {
        divides = divides F k m (add p a c) l g i j (add_lt a c (positive F));
        exact = λ t. record { remainder = _; division = division_of F k m (add p a c) (read_back p a +ℤ pos c) g j e t };
        begun = λ s q t. rw (quot_of F k m (add p a c) (s + c) g j (rw q at e) (rw q at t)) (begun_is (2 ^ m) s (pow_pos m));
      }
