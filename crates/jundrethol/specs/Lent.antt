-- What the C ABI leaves in lists that C lends: the paper gives registers, marks, a replay's cells and counts no lent list, so what a short one takes is
-- said here; and an import and a forecast as C gets them.
-- Assumes nothing.
use Rattle.std.specs.Prelude.{◌≡◌, Bool, cond, List, [], ◌∷◌, ◌++◌, ℕ, length, take}
use Rattle.algebra.specs.Lists.{onto}
use Rattle.model.specs.Steps.{Row}
use Rattle.model.specs.Counts.{listed}
use Rattle.model.specs.Run.{Outcome}
use Rattle.model.specs.Calls.{Imported}
use Rattle.model.specs.Forecast.{Forecast}
use Rattle.model.specs.Replay.{Replayed}
use Rattle.costs.specs.Costing.{counts_of}
use Rattle.machine.specs.declared.run.Answer.{Answer}

-- as many of vs as the lent list xs has places for, from its start on; past them it is unchanged
unfoldable pub lent : List ℕ → List ℕ → List ℕ
lent vs xs = onto (take (length xs) vs) xs

-- rows one after the other
unfoldable pub joined : List Row → List ℕ
joined [] = []
joined (x ∷ xs) = x ++ joined xs

-- the mark of a set register is 1, of an unset one 0
unfoldable pub flags : List Bool → List ℕ
flags [] = []
flags (x ∷ xs) = cond x 1 0 ∷ flags xs

-- what an answer puts into the three lent lists, of which the first of each pair is what stood there before: registers, marks, place and counts
pub record Delivered (a : Answer) (cells₀ cells₁ marks₀ marks₁ counts₀ counts₁ : List ℕ) : Type 0 where
  pub registers : cells₁ ≡ lent a.table.cells cells₀
  pub marks : marks₁ ≡ lent (flags a.table.spent.marks) marks₀
  pub counts : counts₁ ≡ lent (a.place ∷ listed (counts_of a.table.spent.counts)) counts₀

-- The outcome o as C gets it: the number; record and revealed list to their last number; and in three lent lists, of which the first of each
-- pair is what stood there before the call, registers, marks and counts.
pub record Handed (o : Outcome) (n : ℕ) (log₁ shown₁ cells₀ cells₁ marks₀ marks₁ counts₀ counts₁ : List ℕ) : Type 0 where
  pub number : n ≡ o.number
  pub log : log₁ ≡ o.log
  pub revealed : shown₁ ≡ o.revealed
  pub registers : cells₁ ≡ lent (joined o.registers) cells₀
  pub marks : marks₁ ≡ lent (flags o.marks) marks₀
  pub counts : counts₁ ≡ lent (o.place ∷ listed o.counts) counts₀

-- The replay o as C gets it: the number; and in two lent lists, of which the first of each pair is what stood there before the call, cells and counts.
pub record HandedReplay (o : Replayed) (n : ℕ) (cells₀ cells₁ counts₀ counts₁ : List ℕ) : Type 0 where
  pub number : n ≡ o.number
  pub cells : cells₁ ≡ lent o.cells cells₀
  pub counts : counts₁ ≡ lent (o.place ∷ listed o.counts) counts₀

-- an import: the number, how many calls were written, and the list of their seconds to its last number
abbrev pub as_imported : ℕ → ℕ → List ℕ → Imported
as_imported number calls seconds = record { number = number; calls = calls; out = seconds }

-- a forecast: number and place
abbrev pub as_forecast : ℕ → ℕ → Forecast
as_forecast number place = record { number = number; place = place }
