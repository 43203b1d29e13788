-- The cells that the cases count: "the cells of an unset register are 0".
-- Assumes nothing.
use Rattle.std.specs.Prelude.{Bool, true, false, List, ℕ, zero, suc, ◌+◌, ◌/◌, get_or}

-- 1 for a cell that is 0, of a register that is not set
unfoldable pub blank : Bool → ℕ → ℕ
blank true cell = 0
blank false zero = 1
blank false (suc cell) = 0

-- how many of the first so many cells are 0 and of a register that is not set
unfoldable pub blanks : List Bool → List ℕ → ℕ → ℕ
blanks marks cells zero = 0
blanks marks cells (suc i) = blanks marks cells i + blank (get_or marks (i / 7) false) (get_or cells i 0)
