-- The calls of a list lie within the room for them.
-- Assumes nothing.
use Rattle.std.specs.Prelude.{◌≡◌, ◌≢◌, List, ℕ, ◌≤◌, length}
use Rattle.model.specs.Calls as Calls
use Rattle.refusals.specs.Numbers.{told}
use Rattle.calls.specs.declared.Imported.{Imported}
use Rattle.calls.specs.Meaning.{import_of}

-- the import into a buffer that no list of this length outgrows: from one that was lent, to the same after it
pub record Ample (list seconds : List ℕ) (r : Imported) (left : List ℕ) : Type 0 where
  pub is : import_of r left ≡ Calls.imported list seconds
  pub not_33 : told r.ended ≢ 33
  -- every call is there to be printed
  pub calls : r.calls ≤ length left
