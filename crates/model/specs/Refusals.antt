-- The paper, "Refused because of the input" and "Refused because of the state": exactly when an answer has a number of the one list or of the
-- other, and what a refused input leaves. Which number it is, and its place, is `stop_of` in Run.antt.
-- Assumes nothing.
use Rattle.std.specs.Prelude.{◌≡◌, ◌↔◌, ◌≢◌, ◌⊎◌, Bool, false, ◌||◌, List, ℕ, ◌≤◌, T, eqb, leb, replicate}
use Rattle.model.specs.Deal.{no_row}
use Rattle.model.specs.Script.{refused}
use Rattle.model.specs.Sheet.{sheet_number}
use Rattle.model.specs.Run.{Outcome, sheet_script, stop_of, run}
use Rattle.model.specs.Exactness.{Accepted}

-- Whether a number is one of a sheet that is run: 0, or one of "Refused because of the state", which start at 21. All numbers below are kept
-- for refusals because of the input, also those that the paper's list does not use.
unfoldable pub is_run : ℕ → Bool
is_run number = eqb number 0 || leb 21 number

-- the numbers from one to another, both among them
abbrev pub From : ℕ → ℕ → ℕ → Type 0
From low high number = (low ≤ number) × (number ≤ high)

-- the numbers of the tests before the script: 1 to 8, and request 5's 12
abbrev pub OfSheet : ℕ → Type 0
OfSheet number = From 1 8 number ⊎ (number ≡ 12)

-- A sheet's number and place, against whether it is accepted.
pub record Numbered (present : ℕ) (sheet : List ℕ) (number place : ℕ) : Type 0 where
  -- the list of "Refused because of the input", 1 to 11, and 12: "A sheet is accepted when it is not refused because of the input."
  pub input : From 1 12 number ↔ (Accepted present sheet → ⊥)
  -- the list of "Refused because of the state", 21 to 26; "Otherwise the answer is 0"
  pub state : ((number ≡ 0) ⊎ From 21 26 number) ↔ Accepted present sheet
  pub is_run_lem : T (is_run number) ↔ Accepted present sheet
  -- "each over the whole sheet before the next; 9 to 11 are tried command by command": 1 to 8 and 12 exactly where a test before the
  -- script refuses
  pub sheet_first : OfSheet number ↔ (sheet_number present sheet ≢ 0)
  -- "The place is 0 for 1 to 8", and for 12
  pub sheet_place_lem : OfSheet number → (number ≡ sheet_number present sheet) × (place ≡ 0)
  -- and then the script: "for 9 to 11 the command's offset in the script, the script length if END is missing, or the offset just after END" (which of these it
  -- is: `script_step`)
  pub script : (c i : ℕ) → sheet_number present sheet ≡ 0 → sheet_script sheet ≡ refused c i → (number ≡ c) × (place ≡ i) × From 9 11 c

-- for every sheet and every byte, with buffers of any lengths: how its run stops, and its outcome
pub record Numbers : Type 0 where
  pub of_stop : (present : ℕ) (sheet : List ℕ) (log shown : ℕ) → let x = stop_of present sheet log shown in Numbered present sheet x.number x.place
  pub of_run : (present : ℕ) (sheet log revealed : List ℕ) → let x = run present sheet log revealed in Numbered present sheet x.number x.place

-- "Nothing is run. Both output buffers keep their contents, all registers are unset, all counts 0." "the cells of an unset register are 0"
pub record Untouched (log revealed : List ℕ) (x : Outcome) : Type 0 where
  pub log_kept : x.log ≡ log
  pub revealed_kept : x.revealed ≡ revealed
  pub unset : x.marks ≡ replicate 64 false
  pub cells : x.registers ≡ replicate 64 no_row
  pub counts : x.counts ≡ record { inputs = 0; masks = 0; triples = 0; openings = 0; revealed = 0 }

-- for every sheet that is not accepted with the byte that is given, and all buffers
abbrev pub NothingRun : Type 0
NothingRun = (present : ℕ) (sheet log revealed : List ℕ) → (Accepted present sheet → ⊥) → Untouched log revealed (run present sheet log revealed)
