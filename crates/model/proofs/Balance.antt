-- Openings are masks, two for each triple, and revealed values: of each command, and so of each state that a run comes to.
-- Assumes nothing.
use mathlib.Core.Path.{◌≡◌, refl}
use mathlib.Core.List.{List, [], ◌∷◌}
use Prim.Native.Nat.{ℕ, zero, suc, ◌+◌, ◌*◌}
use native.Mathlib.Omega.{arith}
use lib.ListN.{length}
use Rattle.model.specs.Steps.{Setting, Row, Deal}
use Rattle.model.specs.Script.{Command, LOAD, CONST, ADD, SUB, SCALE, MUL, MOD, TRUNC, LTZ, OVER, BLOCKS, REVEAL, BITLT, LTZS, Line, Script, accepted, refused}
use Rattle.model.specs.Refusing.{given}
use Rattle.model.specs.Counts.{Counts}
use Rattle.model.specs.Costs.{cost_by, cost}
use Rattle.model.specs.Sheet.{header_of, sheet_number}
use Rattle.model.specs.Run.{Spent, State, Stop, Supply, check, pay, finish, nothing_spent, start, run_lines, run_script, sheet_script, stop_of, outcome, run}
use Rattle.model.specs.Exactness.{Balance}
use Rattle.model.proofs.StepLaws.{run_end, run_line}

abbrev pub Balanced : Counts → Type 0
Balanced x = x.openings ≡ x.masks + 2 * x.triples + x.revealed

pub openings_are : (S : Setting) (c : Command) → Balanced (cost S c).counts
unfolding cost_by
openings_are S (LOAD d) = refl
openings_are S (CONST d v) = refl
openings_are S (ADD d a b) = refl
openings_are S (SUB d a b) = refl
openings_are S (SCALE d a v) = refl
openings_are S (MUL d a b) = refl
openings_are S (MOD d a k m) = omega arith
openings_are S (TRUNC d a k m) = omega arith
openings_are S (LTZ d a k) = omega arith
openings_are S (OVER d a k v) = omega arith
openings_are S (BLOCKS d a k m) = omega arith
openings_are S (REVEAL a) = refl
openings_are S (BITLT d b w v) = omega arith
openings_are S (LTZS d a h k) = omega arith

pub balanced_start : (d : Deal) → Balanced (start d).spent.counts
unfolding start nothing_spent
balanced_start d = refl

pub balanced_more : (S : Setting) (c : Command) (s : Spent) → Balanced s.counts → Balanced (pay (cost S c) s).counts
unfolding pay
balanced_more S c s e = omega (arith, openings_are S c)

either : (number : ℕ) (x y : Stop) → Balanced x.state.spent.counts → Balanced y.state.spent.counts → Balanced (given number x y).state.spent.counts
either zero x y e f = e
either (suc number) x y e f = f

lines : (S : Setting) (u : Supply) (input : List Row) (end : ℕ) (xs : List Line) (s : State) → Balanced s.spent.counts → Balanced (run_lines S u input end xs s).state.spent.counts
unfolding finish
lines S u input end [] s e = rw (run_end S u input end s) e
lines S u input end (x ∷ xs) s e =
    rw (run_line S u input end x xs s)
    (either (check u (cost S x.command) s.spent) _ _
    (lines S u input end xs (finish S input x.command s) (balanced_more S x.command s.spent e)) e)

pub balance : Balance
unfolding run outcome stop_of run_script
balance present s log revealed = either (sheet_number present s) _ _ (script (sheet_script s)) (balanced_start _)
  where
    script : (x : Script) → Balanced (run_script present (header_of s) s (length log) (length revealed) x).state.spent.counts
    script (refused number place) = balanced_start _
    script (accepted xs end) = lines _ _ _ end xs (start _) (balanced_start _)
