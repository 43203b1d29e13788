-- The paper, "The sheet" and "Figures to check": the largest sheet, and that what programs table and forecast read is enough for every sheet.
-- Assumes nothing.
use Rattle.std.specs.Prelude.{◌≡◌, false, List, [], ◌∷◌, ℕ, suc, ◌≤◌, ◌<◌, length, take}
use Rattle.model.specs.Fields.{in_use, parties}
use Rattle.model.specs.Presence.{permitted_set}
use Rattle.model.specs.Refusing.{first_failed}
use Rattle.model.specs.Sheet.{Header, header_of, implied_length, Permitted}
use Rattle.model.specs.Run.{run}
use Rattle.model.specs.Columns.{turn_number}
use Rattle.model.specs.Forecast.{forecast}
use Rattle.model.specs.Exactness.{Accepted}

-- "The largest sheet is 59,723 bytes."
abbrev pub largest_sheet : ℕ
largest_sheet = 59723

-- the most of everything: 31 rows to a mask, 7 shares to a row
abbrev pub largest_header : Header
largest_header = record { field = 3; n = 7; t = 3; inputs = 64; masks = 16; triples = 512; script = 1024 }

-- "Input longer than the largest sheet is a wrong length (4, tried after 1 to 3)." 1 does not refuse it, since it has the header's bytes. A run tries 12
-- before 4.
abbrev pub long_number : ℕ → Header → ℕ
long_number present h =
    first_failed ((in_use h.field, 2) ∷ (parties h.n h.t, 3) ∷ (permitted_set h.n h.t present, 12) ∷ (false, 4) ∷ [])

-- and "1 to 4 as in the paper" where it is to be turned over or back, which looks at no byte
abbrev pub long_turned : Header → ℕ
long_turned h = first_failed ((in_use h.field, 2) ∷ (parties h.n h.t, 3) ∷ (false, 4) ∷ [])

pub record LargestSheet : Type 0 where
  -- a permitted header implies no more bytes, and one implies so many
  pub most : (h : Header) → Permitted h → implied_length h ≤ largest_sheet
  pub permitted : Permitted largest_header
  pub reached : implied_length largest_header ≡ largest_sheet
  -- so an accepted sheet has no more
  pub accepted : (present : ℕ) (sheet : List ℕ) → Accepted present sheet → length sheet ≤ largest_sheet
  -- a longer input is refused with 2, 3, 12 or 4
  pub longer : (present : ℕ) (sheet log revealed : List ℕ) → largest_sheet < length sheet
      → ((run present sheet log revealed).number ≡ long_number present (header_of sheet)) × ((run present sheet log revealed).place ≡ 0)
  -- Of a longer input one byte more than the largest sheet has is enough: the whole outcome is that of its first 59,724 bytes.
  pub cut : (present : ℕ) (sheet log revealed : List ℕ) → largest_sheet < length sheet
      → run present (take (suc largest_sheet) sheet) log revealed ≡ run present sheet log revealed
  -- "1 to 4 as in the paper": the same but for 12 where a longer input is to be turned over or back, whatever the output
  pub turned : (input out : List ℕ) → largest_sheet < length input → turn_number input out ≡ long_turned (header_of input)
  -- and where it is to be forecast: it is no header with a script, so that of a longer input, too, the first 59,724 bytes are enough
  pub forecasts : (input : List ℕ) → largest_sheet < length input → forecast input ≡ record { number = long_turned (header_of input); place = 0 }
  pub forecast_cut : (input : List ℕ) → largest_sheet < length input → forecast (take (suc largest_sheet) input) ≡ forecast input
