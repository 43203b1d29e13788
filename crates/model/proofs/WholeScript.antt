-- A script is read to its end, whatever its length: each command takes a byte at least, and at the script's end nothing more is read. So from a place
-- on it is what stands there, and the script from the next place on.
-- Assumes nothing.
use mathlib.Core.Path.{◌≡◌, refl, ap, ◌∙◌}
use mathlib.Core.List.{List}
use Prim.Native.Nat.{ℕ, zero, suc, ◌+◌, ◌-◌, ◌<◌}
use native.Mathlib.Omega.{arith}
use lib.ListN.{length}
use Rattle.model.specs.Script.{Command, Script, size_at, Reading, says, reading_at, with_line, script_step, script_from, script_of, WholeScript}
use Rattle.model.proofs.Readings.{size_some, missing, read}

-- any two numbers of commands that reach past the script's end give the same
pub enough : (p K : ℕ) (s : List ℕ) (f g i : ℕ) → length s < i + f → length s < i + g → script_from f p K s i ≡ script_from g p K s i
unfolding script_from
enough p K s zero zero i a b = refl
enough p K s zero (suc g) i a b = rw (missing p K s i (omega arith))
enough p K s (suc f) zero i a b = rw (missing p K s i (omega arith))
enough p K s (suc f) (suc g) i a b =
    ap (script_step (reading_at p K s i) (length s) i)
    (enough p K s f g (i + size_at s i) (omega (arith, size_some s i)) (omega (arith, size_some s i)))

pub whole_script : WholeScript
unfolding script_of
whole_script p K more s = enough p K s (more + suc (length s)) (suc (length s)) 0 (omega arith) (omega arith)

module _ (p K : ℕ) (s : List ℕ) where
  -- the script from place i on
  abbrev pub from : ℕ → Script
  from i = script_from (suc (length s)) p K s i

  pub at_reading : (i : ℕ) {r : Reading} → reading_at p K s i ≡ r → from i ≡ script_step r (length s) i (from (i + size_at s i))
  unfolding script_from
  at_reading i e =
      rw (← e)
      (ap (script_step (reading_at p K s i) (length s) i) (enough p K s (length s) (suc (length s)) (i + size_at s i) (omega (arith, size_some s i)) (omega (arith, size_some s i))))

  -- at a command the place after it is nearer to the end
  module _ (i : ℕ) {c : Command} {next : ℕ} (e : reading_at p K s i ≡ says c next) where
    pub from_next : from i ≡ with_line (record { place = i; command = c }) (from next)
    from_next = at_reading i e ∙ rw (← (read p K s i (says c next) e).next_is)

    pub nearer : length s - next < length s - i
    nearer = let R = read p K s i (says c next) e in omega (arith, size_some s i, R.next_is, R.whole)
