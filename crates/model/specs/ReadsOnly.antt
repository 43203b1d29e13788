-- "21: a register read is unset": of the registers, a command looks at none but those that its cost says it reads. Whatever stands in the others, it
-- opens and reveals the same, takes the same from the deal, and leaves the same in its target.
-- Assumes nothing.
use Rattle.std.specs.Prelude.{◌≡◌, ℕ, ◌<◌, length, get_or}
use mathlib.Core.List.{List, Memᴰ as In}
use Rattle.model.specs.Deal.{Setting, Row, Deal, no_row}
use Rattle.model.specs.Trees.{done}
use Rattle.model.specs.Steps.{Worked, by_rows}
use Rattle.model.specs.Script.{Command}
use Rattle.model.specs.Costs.{cost}
use Rattle.model.specs.Run.{row_command}
use Rattle.model.specs.Results.{target}

-- two ends of a command: the same was opened, revealed and left of the deal, and the same stands in the registers that it writes, where both lists
-- have them
pub record SameWork (c : Command) (w w' : Worked (List Row)) : Type 0 where
  pub opened : w.opened ≡ w'.opened
  pub shown : w.shown ≡ w'.shown
  pub deal : w.deal ≡ w'.deal
  pub written : (r : ℕ) → In r (target c) → r < length w.left → r < length w'.left → get_or w.left r no_row ≡ get_or w'.left r no_row

-- registers g and g' that have the same rows where the command reads; j input rows were loaded before it
abbrev pub ReadsOnly : Type 0
ReadsOnly =
    (S : Setting) (input : List Row) (j : ℕ) (c : Command) (g g' : List Row) (d : Deal)
    → ((r : ℕ) → In r (cost S c).reads → get_or g r no_row ≡ get_or g' r no_row)
    → SameWork c (by_rows S (row_command S input j c g done) d) (by_rows S (row_command S input j c g' done) d)
