-- What a run leaves in buffers that no run outgrows.
-- Assumes nothing.
use Rattle.std.specs.Prelude.{◌≡◌, ◌≢◌, List, ℕ, ◌*◌, ◌≤◌, length}
use Rattle.model.specs.Presence.{everyone}
use Rattle.model.specs.Sheet.{header_of}
use Rattle.model.specs.Run.{Outcome, run}

-- "Program `table` takes everyone as present": with the byte b a run is the run with everyone present, whatever the header says of n
abbrev pub Everyone : List ℕ → ℕ → Type 0
Everyone sheet b = (log revealed : List ℕ) → run b sheet log revealed ≡ run (everyone (header_of sheet).n) sheet log revealed

-- x is the outcome of the run of a sheet with everyone present, and with a record and a revealed list as they were lent
pub record Ample (sheet log revealed : List ℕ) (x : Outcome) : Type 0 where
  pub is : x ≡ run (everyone (header_of sheet).n) sheet log revealed
  -- so 12 comes only from the library
  pub not_12 : x.number ≢ 12
  -- "so 25 and 26 come only from the library"
  pub not_25 : x.number ≢ 25
  pub not_26 : x.number ≢ 26
  -- every opened row and every revealed value is there to be printed
  pub rows : x.counts.openings * (header_of sheet).n ≤ length log
  pub values : x.counts.revealed ≤ length revealed
