-- The paper, "Refused because of the state" and "The words of demand 3": the state, a command and a script's lines read by rows, and the run of a
-- sheet. What Checks.antt defines is passed on, with `no_row` and `written`.
-- Assumes nothing.
use Rattle.std.specs.Prelude.{Bool, false, List, [], ◌++◌, ℕ, length, get_or, replicate}
use Rattle.algebra.specs.Lists as Lists
use Rattle.model.specs.Deal.{Setting, Row, Deal}
pub use Rattle.model.specs.Deal.{no_row}
use Rattle.model.specs.Trees.{Tree, done}
use Rattle.model.specs.Trees as Trees
use Rattle.model.specs.Steps.{Worked, row_ops, by_rows}
unfoldable pub use Rattle.model.specs.Steps.{written}
use Rattle.model.specs.Script.{Command, Line, Script, accepted, refused, script_of}
use Rattle.model.specs.Refusing.{given}
use Rattle.model.specs.Counts.{Counts, no_counts}
use Rattle.model.specs.Costs.{mod_triples, cost}
pub use Rattle.model.specs.Checks.{Spent, Supply}
unfoldable pub use Rattle.model.specs.Checks.{all_set, marked, check, pay}
use Rattle.model.specs.Commands.{Ended, command, lines}
use Rattle.model.specs.Sheet.{Header, header_of, largest_in, setting_with, setting_of, script_in, input_in, deal_in, sheet_number}

-- The state of a run: what was spent, the registers, the deal that is left, the rows opened and the values revealed so far.
pub record State : Type 0 where
  pub spent : Spent
  pub registers : List Row
  pub deal : Deal
  pub opened : List Row
  pub shown : List ℕ

-- register r's row
abbrev pub register : State → ℕ → Row
register s r = get_or s.registers r no_row

-- the state after a tree was worked on the deal of s: what it opened and revealed comes after what was opened and revealed before
abbrev pub state_after : {A : Type 0} → State → Spent → List Row → Worked A → State
state_after s spent registers w =
    record { spent = spent; registers = registers; deal = w.deal; opened = s.opened ++ w.opened; shown = s.shown ++ w.shown }

-- a command and the lines of a script as trees over rows
module _ (S : Setting) where
  abbrev pub row_command : {A : Type 0} → List Row → ℕ → Command → List Row → (List Row → Tree Row A) → Tree Row A
  row_command = command S.p (row_ops S) no_row (Trees.remainder S.p (row_ops S))

  abbrev pub row_lines : Supply → List Row → ℕ → List Line → Spent → List Row → Tree Row (Ended Row)
  row_lines = lines S.p (row_ops S) no_row (Trees.remainder S.p (row_ops S)) (mod_triples S.l)

-- what a command does to registers, deal and output: its tree, read by rows
unfoldable pub perform : Setting → List Row → Command → State → State
perform S input c s =
    let w = by_rows S (row_command S input s.spent.counts.inputs c s.registers done) s.deal in
    state_after s s.spent w.left w

-- a finished command: performed and paid
unfoldable pub finish : Setting → List Row → Command → State → State
finish S input c s =
    let r = perform S input c s in
    record { spent = pay (cost S c) s.spent; registers = r.registers; deal = r.deal; opened = r.opened; shown = r.shown }

-- How a run stops: number, place and the state that is left. The place, the paper's term, is an offset in the script, or 0.
pub record Stop : Type 0 where
  pub number : ℕ
  pub place : ℕ
  pub state : State

-- the lines of a script, read by rows from the state s on; `end` is END's offset
unfoldable pub run_lines : Setting → Supply → List Row → ℕ → List Line → State → Stop
run_lines S u input end xs s =
    let w = by_rows S (row_lines S u input end xs s.spent s.registers) s.deal in
    let e = w.left in
    record { number = e.number; place = e.place; state = state_after s e.spent e.registers w }

-- "A run starts with all registers unset, all counts 0 and nothing written."
unfoldable pub nothing_spent : Spent
nothing_spent = record { counts = no_counts; marks = replicate 64 false }

unfoldable pub start : Deal → State
start d = record { spent = nothing_spent; registers = replicate 64 no_row; deal = d; opened = []; shown = [] }

-- "The answer holds number, place, inputs, masks, triples, openings, the registers and which are set", and both lent buffers. The paper's record, the
-- list of opened shares, is called log here: record is a word of this language.
pub record Outcome : Type 0 where
  pub number : ℕ
  pub place : ℕ
  pub counts : Counts
  pub registers : List Row
  pub marks : List Bool
  pub log : List ℕ
  pub revealed : List ℕ

-- what a stop leaves in the buffers: "past what was written they are unchanged"
unfoldable pub outcome : Setting → List ℕ → List ℕ → Stop → Outcome
outcome S log revealed x =
    let s = x.state in
    record {
      number = x.number;
      place = x.place;
      counts = s.spent.counts;
      registers = s.registers;
      marks = s.spent.marks;
      log = Lists.onto (written S s.opened) log;
      revealed = Lists.onto s.shown revealed;
    }

-- "Nothing is run. Both output buffers keep their contents, all registers are unset, all counts 0."
abbrev pub refused_input : ℕ → ℕ → Stop
refused_input number place = record { number = number; place = place; state = start (record { masks = []; triples = [] }) }

-- The header's counts and n. "The record and the revealed list are lent slices of 32-bit numbers": their lengths are log and shown.
abbrev pub supply_of : Header → ℕ → ℕ → Supply
supply_of h log shown = record { inputs = h.inputs; masks = h.masks; triples = h.triples; parties = h.n; log = log; shown = shown }

-- the stop of a script that was read: refused, or run from the start on the sheet's input and deal, with these parties present
unfoldable pub run_script : ℕ → Header → List ℕ → ℕ → ℕ → Script → Stop
run_script present h s log shown (refused number place) = refused_input number place
run_script present h s log shown (accepted xs end) =
    run_lines (setting_with present h) (supply_of h log shown) (input_in h s) end xs (start (deal_in h s))

-- "9 to 11 are tried command by command from the script's start": the sheet's script, read with p and the largest k of its header
abbrev pub sheet_script : List ℕ → Script
sheet_script s = let h = header_of s in script_of (setting_of h).p (largest_in h) (script_in h s)

-- 1 to 8 and 12 are tried before 9 to 11, and the script is run where none refuses. "The place is 0 for 1 to 8; for 9 to 11 the command's offset in
-- the script, the script length if END is missing, or the offset just after END." Of 12 request 5 says "with place 0".
unfoldable pub stop_of : ℕ → List ℕ → ℕ → ℕ → Stop
stop_of present s log shown =
    let number = sheet_number present s in
    given number (run_script present (header_of s) s log shown (sheet_script s)) (refused_input number 0)

-- The run of a sheet with two lent buffers: "For each input, the one permitted answer, each cell, and both buffers to their last number, also
-- when refused." Demand 1: "A bad sheet or a spent deal gets its number from document 01, called the paper here, and nothing past the last
-- finished command is touched." Request 5: "A run now also takes one byte whose bit j − 1 says that party j is present".
unfoldable pub run : ℕ → List ℕ → List ℕ → List ℕ → Outcome
run present s log revealed = outcome (setting_with present (header_of s)) log revealed (stop_of present s (length log) (length revealed))
