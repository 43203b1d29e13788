-- A signed number of a size below p as a field value, by the two functions that work on it.
-- Assumes nothing.
use mathlib.Core.Path.{◌≡◌}
use mathlib.Core.Bool.{Bool, true, false}
use Prim.Native.Nat.{ℕ, ◌-◌, ◌<◌}
use lib.IntN.{ℤ}
use lib.Signed.{mag, non_neg}
use mir.Syntax.{w64}
use mir.Val.{SFits}
use Rattle.model.specs.Coding.{code}
use Rattle.model.proofs.Coding.{code_small}
use Rattle.field.proofs.Signs.{held, held_is}

module _ (p : ℕ) (a : ℤ) {m : ℕ} {s : Bool} (f : SFits w64 a) (h : mag a < p) (em : m ≡ mag (held a)) (es : s ≡ non_neg (held a)) where
  pub code_up : s ≡ true → m ≡ code p a
  code_up t = rw (code_small p a h, ← held_is f, ← em, ← es, t)

  pub code_down : s ≡ false → p - 1 - m ≡ code p a
  code_down t = rw (code_small p a h, ← held_is f, ← em, ← es, t)
