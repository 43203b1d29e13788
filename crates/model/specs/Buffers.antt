-- The paper, "Figures to check": the lengths of the two buffers that program table lends, that no run outgrows them, and that buffers of any lengths hold
-- all that is written.
-- Assumes nothing.
use Rattle.std.specs.Prelude.{◌≢◌, List, ℕ, ◌*◌, ◌≤◌, length}
use Rattle.model.specs.Sheet.{header_of}
use Rattle.model.specs.Run.{run}

-- "The program lends a record of 10,850 numbers (7 shares of at most 1,024 + 16 + 510 openings) and a revealed list of 511"
abbrev pub record_length : ℕ
record_length = 10850

abbrev pub revealed_length : ℕ
revealed_length = 511

-- "which no run outgrows, so 25 and 26 come only from the library." This holds for longer buffers too.
abbrev pub NoRunOutgrows : Type 0
NoRunOutgrows =
    (present : ℕ) (sheet log revealed : List ℕ) → record_length ≤ length log → revealed_length ≤ length revealed
    → ((run present sheet log revealed).number ≢ 25) × ((run present sheet log revealed).number ≢ 26)

-- "each opened line the shares of parties 1 to n; each revealed line the field value": the buffers hold them all, whatever their lengths
abbrev pub AllHeld : Type 0
AllHeld =
    (present : ℕ) (sheet log revealed : List ℕ)
    → let o = run present sheet log revealed in
    (o.counts.openings * (header_of sheet).n ≤ length log) × (o.counts.revealed ≤ length revealed)
