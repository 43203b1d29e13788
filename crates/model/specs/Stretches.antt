-- Request 7, "A lift bank in one go": LTZS against h LTZ commands. A stretch, the request's word, is h registers one after the other.
-- Assumes nothing.
use Rattle.std.specs.Prelude.{◌≡◌, ◌⊎◌, ℕ, zero, suc, ◌≤◌, T}
use mathlib.Core.List.{List, [], ◌∷◌, ◌++◌, map, Memᴰ as In}
use Rattle.algebra.specs.Lists.{All, from}
use Rattle.model.specs.Deal.{Setting, Row}
use Rattle.model.specs.Script.{Command, LTZ, LTZS, Line, in_ranges}
use Rattle.model.specs.Costs.{cost}
use Rattle.model.specs.Run.{Spent, Supply, State, check, pay, finish, run_lines}

-- "h LTZ commands in rising order"
unfoldable pub rising_ltz : ℕ → ℕ → ℕ → ℕ → List Command
rising_ltz d a zero k = []
rising_ltz d a (suc h) k = LTZ d a k ∷ rising_ltz (suc d) (suc a) h k

-- "The two stretches must be equal or share no register."
abbrev pub EqualOrApart : ℕ → ℕ → ℕ → Type 0
EqualOrApart d a h = (d ≡ a) ⊎ ((r : ℕ) → In r (from d h) → In r (from a h) → ⊥)

-- "11 covers its ranges and a partial overlap": the operands of LTZS are in range where h is "from 1 to 16", each of the h LTZ may stand in a script, so
-- that the stretches end by register 63 and k is as for LTZ, and the stretches are equal or share no register; and nowhere else
pub record InRange (p K d a h k : ℕ) : Type 0 where
  pub let_through : 1 ≤ h → h ≤ 16 → All (λ c. T (in_ranges p K c)) (rising_ltz d a h k) → EqualOrApart d a h → T (in_ranges p K (LTZS d a h k))
  pub count : T (in_ranges p K (LTZS d a h k)) → (1 ≤ h) × (h ≤ 16)
  pub each : T (in_ranges p K (LTZS d a h k)) → All (λ c. T (in_ranges p K c)) (rising_ltz d a h k)
  pub registers : T (in_ranges p K (LTZS d a h k)) → EqualOrApart d a h

-- commands finished one after the other
unfoldable pub finish_all : Setting → List Row → List Command → State → State
finish_all S input [] s = s
finish_all S input (c ∷ cs) s = finish_all S input cs (finish S input c s)

-- the checks let each of them through, after those before it
abbrev pub AllFinish : Setting → Supply → List Command → Spent → Type 0
AllFinish S u [] s = Unit {0}
AllFinish S u (c ∷ cs) s = (check u (cost S c) s ≡ 0) × AllFinish S u cs (pay (cost S c) s)

-- LTZS with operands in range
pub record AsSigns (S : Setting) (d a h k : ℕ) : Type 0 where
  -- "When it finishes, cells, record and counts equal those of h LTZ commands in rising order.": so do the marks, the revealed list and what is left of
  -- the deal, from whatever state
  pub finishes_as : (input : List Row) (s : State) → finish S input (LTZS d a h k) s ≡ finish_all S input (rising_ltz d a h k) s
  -- "21 to 25 speak of the whole command": it finishes exactly where all h would, whatever there is and was spent. With which number it does not, `check` of
  -- its cost says.
  pub all_if_finishes : (u : Supply) (s : Spent) → check u (cost S (LTZS d a h k)) s ≡ 0 → AllFinish S u (rising_ltz d a h k) s
  pub finishes_if_all : (u : Supply) (s : Spent) → AllFinish S u (rising_ltz d a h k) s → check u (cost S (LTZS d a h k)) s ≡ 0
  -- so where the checks let it through, the run from its line on is the run of lines that have the h LTZ in its place, at whatever offsets
  pub runs_as : (u : Supply) (input : List Row) (end place : ℕ) (ys xs : List Line) (s : State) → map (λ y. y.command) ys ≡ rising_ltz d a h k
      → check u (cost S (LTZS d a h k)) s.spent ≡ 0
      → run_lines S u input end (record { place = place; command = LTZS d a h k } ∷ xs) s ≡ run_lines S u input end (ys ++ xs) s
  -- and where they do not, the run has its number and its place, and stops in the state before it: none of the h is done
  pub ends_whole : (u : Supply) (input : List Row) (end place : ℕ) (xs : List Line) (s : State) → (check u (cost S (LTZS d a h k)) s.spent ≡ 0 → ⊥)
      → run_lines S u input end (record { place = place; command = LTZS d a h k } ∷ xs) s
      ≡ record { number = check u (cost S (LTZS d a h k)) s.spent; place = place; state = s }

-- for every p and every largest k (K), and every setting with that p
pub record Stretches : Type 0 where
  pub in_range_lem : (p K d a h k : ℕ) → InRange p K d a h k
  pub as_signs : (S : Setting) (K d a h k : ℕ) → T (in_ranges S.p K (LTZS d a h k)) → AsSigns S d a h k
