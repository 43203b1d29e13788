-- The paper, "Figures to check": the sheet of the printed run of program `table`, and what its run leaves in buffers of twelve and two numbers.
-- Assumes nothing.
use Rattle.std.specs.Prelude.{◌≡◌, true, false, List, [], ◌∷◌, ℕ, replicate}
use Rattle.algebra.specs.Rows.{padded}
use Rattle.model.specs.Presence.{everyone}
use Rattle.model.specs.Steps.{Row}
use Rattle.model.specs.Sheet.{sheet_of}
use Rattle.model.specs.Run.{Outcome, no_row, run}

-- "Given field 0, n 3, t 1; script 01 00 01 01 06 02 00 01 0C 02 00; inputs 7 9 11 and 7 11 2; triple 2 3 4, 5 8 11, 7 12 4; no mask"
abbrev pub shares : ℕ → ℕ → ℕ → Row
shares x y z = padded (x ∷ y ∷ z ∷ [])

unfoldable pub sheet : List ℕ
sheet =
    sheet_of (record { field = 0; n = 3; t = 1; inputs = 2; masks = 0; triples = 1; script = 11 })
    (1 ∷ 0 ∷ 1 ∷ 1 ∷ 6 ∷ 2 ∷ 0 ∷ 1 ∷ 12 ∷ 2 ∷ 0 ∷ [])
    (shares 7 9 11 ∷ shares 7 11 2 ∷ [])
    (record { masks = []; triples = record { a = shares 2 3 4; b = shares 5 8 11; c = shares 7 12 4 } ∷ [] })

-- What is printed of it: "opened 5 6 7", "opened 2 3 4", "opened 7 12 4", "revealed 2 signed 2",
-- "end 0 at 10 inputs 2 masks 0 triples 1 openings 3".
unfoldable pub answer : Outcome
answer =
    record {
      number = 0;
      place = 10;
      counts = record { inputs = 2; masks = 0; triples = 1; openings = 3; revealed = 1 };
      registers = shares 7 9 11 ∷ shares 7 11 2 ∷ shares 7 12 4 ∷ replicate 61 no_row;
      marks = true ∷ true ∷ true ∷ replicate 61 false;
      log = 5 ∷ 6 ∷ 7 ∷ 2 ∷ 3 ∷ 4 ∷ 7 ∷ 12 ∷ 4 ∷ 99 ∷ 99 ∷ 99 ∷ [];
      revealed = 2 ∷ 99 ∷ [];
    }

abbrev pub Printed : Type 0
Printed = run (everyone 3) sheet (replicate 12 99) (replicate 2 99) ≡ answer
