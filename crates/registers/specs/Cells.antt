-- The 64 registers as the code holds them: 448 cells, register r's from cell 7r on.
-- Assumes nothing.
use Rattle.std.specs.Prelude.{◌≡◌, List, ℕ, ◌*◌, length, set, take, drop}
use Rattle.algebra.specs.Lists.{onto_at}
use Rattle.model.specs.Deal.{Row}
use Rattle.sharing.specs.declared.setting.Setting.{Setting}
use Rattle.steps.specs.declared.places.Places.{Places}
use Rattle.steps.specs.Promises.{Opens}

-- register a's cells
abbrev pub register_in : List ℕ → ℕ → Row
register_in cells a = take 7 (drop (7 * a) cells)

-- a row with the property went to register d, and no other cell was written
pub record Stored (d : ℕ) (Is : Row → Type 0) (cells cells' : List ℕ) : Type 0 where
  pub row : Row
  pub seven : length row ≡ 7
  pub is : Is row
  pub put : cells' ≡ onto_at (7 * d) row cells

-- REVEAL of the row x: it is opened from its place of the record on, and its value goes to place j of the revealed list
pub record Revealed (S : Setting) (at : Places) (x : Row) (j : ℕ) (log shown log' shown' : List ℕ) : Type 0 where
  pub value : ℕ
  pub opens : Opens S at.log x value log log'
  pub shown_is : shown' ≡ set shown j value
