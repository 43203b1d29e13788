-- What encode and decode answer: where nothing refuses, the value; in a refusal, 0.
-- Assumes nothing.
use mathlib.Core.Path.{◌≡◌, sym, ap, ◌∙◌}
use mathlib.Core.Bool.{Bool}
use Prim.Native.Nat.{ℕ}
use lib.IntN.{ℤ, pos}
use mir.Syntax.{w64}
use mir.Val.{SFits}
use Rattle.model.specs.Fields.{modulus}
use Rattle.model.specs.Coding.{in_range, code, read_back}
use Rattle.model.specs.Entries.{encode_number, encode_value, decode_number, decode_value}
use Rattle.model.proofs.Trying.{given_refused}
use Rattle.model.proofs.CodeEntries.{encode_value_lem, decode_value_lem}
use Rattle.field.proofs.Signs.{held, held_is}

-- the range of a signed argument, as a call of `in_range` answers it
pub range_told : (k : ℕ) {z : ℤ} {a b : Bool} → SFits w64 z → a ≡ in_range k (held z) → a ≡ b → in_range k z ≡ b
range_told k f e q = ap (in_range k) (sym (held_is f)) ∙ sym e ∙ q

-- and so the number of a call of `encode_number`
module _ (f k : ℕ) (a : ℤ) {n : ℕ} (s : SFits w64 a) (e : n ≡ encode_number f k (held a)) where
  pub encode_number_lem : n ≡ encode_number f k a
  encode_number_lem = rw (held_is s) at e

  pub encode_refused : (n ≡ 0 → ⊥) → 0 ≡ encode_value f k a
  unfolding encode_value
  encode_refused z = sym (given_refused _ _ _ (λ q. z (encode_number_lem ∙ q)))

  pub encode_done : n ≡ 0 → {p r : ℕ} → p ≡ modulus f → r ≡ code p (held a) → r ≡ encode_value f k a
  encode_done z q w = w ∙ rw (q, held_is s) (sym (encode_value_lem f k a (sym encode_number_lem ∙ z)))

module _ (f v : ℕ) {n : ℕ} (e : n ≡ decode_number f v) where
  pub decode_refused : (n ≡ 0 → ⊥) → pos 0 ≡ decode_value f v
  unfolding decode_value
  decode_refused z = sym (given_refused _ _ _ (λ q. z (e ∙ q)))

  pub decode_done : n ≡ 0 → {p : ℕ} {r : ℤ} → p ≡ modulus f → SFits w64 r → r ≡ read_back p v → held r ≡ decode_value f v
  decode_done z q s w = held_is s ∙ w ∙ rw q (sym (decode_value_lem f v (sym e ∙ z)))
