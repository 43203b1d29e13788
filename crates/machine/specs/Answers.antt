-- A finished command, how a run stopped, and what the answer says.
-- Assumes nothing.
use Rattle.std.specs.Prelude.{◌≡◌, List, ℕ, replicate}
use Rattle.refusals.specs.Numbers.{told}
use Rattle.model.specs.Bytes.{sevens}
use Rattle.model.specs.Deal.{Setting}
use Rattle.model.specs.Script.{Command}
use Rattle.model.specs.Costs.{cost}
use Rattle.model.specs.Checks.{pay}
use Rattle.model.specs.Sheet.{header_of, script_in, sheet_number}
use Rattle.model.specs.Run as Paper
use Rattle.model.specs.Exactness.{Accepted}
use Rattle.sheet.specs.declared.frame.Frame.{Frame}
use Rattle.sheet.specs.Framed.{setting_in, Framed}
use Rattle.costs.specs.declared.cost.Cost.{Cost}
use Rattle.costs.specs.Costing.{counts_of, spent_of, Costs, Summing}
use Rattle.machine.specs.declared.run.Answer.{Answer}
use Rattle.registers.specs.declared.table.Table.{Table}
use Rattle.registers.specs.Holding.{lent, Carries, Performs}

-- the cost of a command that is to be paid by a table: it is the paper's, and the sums fit
pub record Payable (f : Frame) (c : Command) (need : Cost) (t : Table) : Type 0 where
  pub costs : Costs need (cost (setting_in f) c)
  pub summing : Summing t.spent.counts need.counts

-- a command finished: performed, and its cost paid
pub record Finishes (s : List ℕ) (f : Frame) (c : Command) (t : Table) (log shown : List ℕ) (t' : Table) (log' shown' : List ℕ) : Type 0 where
  pub paid : spent_of t'.spent ≡ pay (cost (setting_in f) c) (spent_of t.spent)
  pub performs : Performs s f (counts_of t.spent.counts) c (lent t.cells log shown) (lent t'.cells log' shown')

-- The sheet s has this frame, and 1 to 8 and 12 do not refuse it, with the byte that the frame has.
pub record Unrefused (s : List ℕ) (f : Frame) : Type 0 where
  pub framed : Framed s f
  pub number : sheet_number f.opening.present s ≡ 0

-- The sheet s is run: it is accepted and has this frame and this script.
pub record Running (s : List ℕ) (f : Frame) (script : List ℕ) : Type 0 where
  pub framed : Framed s f
  pub is_accepted : Accepted f.opening.present s
  pub script_is : script ≡ script_in (header_of s) s

-- a run stopped as the paper's: number, place and what was spent, and what is lent carries its state
pub record Reaches (S : Setting) (log₀ shown₀ : List ℕ) (x : Paper.Stop) (a : Answer) (log shown : List ℕ) : Type 0 where
  pub number : told a.ended ≡ x.number
  pub place : a.place ≡ x.place
  pub spent : spent_of a.table.spent ≡ x.state.spent
  pub carries : Carries S log₀ shown₀ (lent a.table.cells log shown) x.state

-- "Nothing is run": the answer has this number and place, "all registers are unset, all counts 0"
pub record RefusedWith (number place : ℕ) (a : Answer) : Type 0 where
  pub number_is : told a.ended ≡ number
  pub place_is : a.place ≡ place
  pub cells : a.table.cells ≡ replicate 448 0
  pub spent : spent_of a.table.spent ≡ Paper.nothing_spent

-- the answer with both lent buffers after the call
abbrev pub outcome_of : Answer → List ℕ → List ℕ → Paper.Outcome
outcome_of a log revealed =
    record {
      number = told a.ended;
      place = a.place;
      counts = counts_of a.table.spent.counts;
      registers = sevens 64 a.table.cells;
      marks = a.table.spent.marks;
      log = log;
      revealed = revealed;
    }
