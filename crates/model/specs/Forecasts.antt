-- Request 6, "Will this deal last?": a forecast against the runs of the sheets that have this header and script; the numbers in their order, for every list of
-- bytes; and that every header and script that 1 to 4 do not refuse are those of such a sheet, so that runs alone say what a forecast is.
-- Assumes nothing.
use Rattle.std.specs.Prelude.{◌≡◌, ◌≢◌, ◌⊎◌, List, ◌++◌, ℕ, ◌*◌, ◌≤◌, ◌<◌, length, replicate}
use Rattle.model.specs.Refusing.{first_failed}
use Rattle.model.specs.Presence.{everyone, PermittedSet}
use Rattle.model.specs.Script.{refused}
use Rattle.model.specs.Sheet.{header_of, setting_of, implied_length, inputs_at, row_count, input_in, deal_in, header_tests, limit_tests, row_tests, sheet_number}
use Rattle.model.specs.Run.{Outcome, sheet_script, run}
use Rattle.model.specs.Buffers.{record_length, revealed_length}
use Rattle.model.specs.Columns.{shape_tests}
use Rattle.model.specs.Refusals.{From}
use Rattle.model.specs.Forecast.{head_in, foreseen, Forecast, forecast}

-- number and place of a run
abbrev pub end_of : Outcome → Forecast
end_of x = record { number = x.number; place = x.place }

-- "every sheet of the right length that passes 5 to 8". Both are asked only of a sheet that 1, 2, 3 and the limits of 4 do not refuse: a refused header implies
-- no length.
abbrev pub RightSheet : List ℕ → Type 0
RightSheet s =
    let h = header_of s in
    first_failed (header_tests s ++ limit_tests h) ≡ 0
    → (length s ≡ implied_length h) × (first_failed (row_tests (setting_of h) (input_in h s) (deal_in h s)) ≡ 0)

-- a header and script with 0 for every byte of the input rows, masks and triples that the header counts
unfoldable pub filled : List ℕ → List ℕ
filled head = let h = header_of head in head ++ replicate (4 * (h.n * row_count h)) 0

-- "1 to 4, then 9 to 11, then 21 to 24", or 0
abbrev pub OfForecast : ℕ → Type 0
OfForecast number = (number ≡ 0) ⊎ (From 1 4 number ⊎ (From 9 11 number ⊎ From 21 24 number))

-- header and script are the input, and 1, 2, 3 and 4 do not refuse it
pub record GoodHead (s : List ℕ) : Type 0 where
  pub header : first_failed (header_tests s) ≡ 0
  pub limits : first_failed (limit_tests (header_of s)) ≡ 0
  pub size : length s ≡ inputs_at (header_of s)

pub record Forecasts : Type 0 where
  -- "The answer equals that of the whole run, with everyone present, for every sheet of the right length that passes 5 to 8", with buffers of 10,850 and
  -- 511 numbers or longer; and by request 5 with every permitted set
  pub as_run : (s log revealed : List ℕ) → RightSheet s → record_length ≤ length log → revealed_length ≤ length revealed
      → forecast (head_in s) ≡ end_of (run (everyone (header_of s).n) s log revealed)
  pub as_run_with : (present : ℕ) (s log revealed : List ℕ) → PermittedSet (header_of s).n (header_of s).t present → RightSheet s
      → record_length ≤ length log → revealed_length ≤ length revealed → forecast (head_in s) ≡ end_of (run present s log revealed)
  -- what is foreseen is what that run spent and which registers it set
  pub spent_as_run : (s log revealed : List ℕ) → RightSheet s → record_length ≤ length log → revealed_length ≤ length revealed
      → let x = run (everyone (header_of s).n) s log revealed in
      (foreseen (head_in s)).spent ≡ record { counts = x.counts; marks = x.marks }
  -- and its number and place, by which program forecast goes, are those of the forecast
  pub foreseen_ends : (s : List ℕ) → forecast s ≡ record { number = (foreseen s).number; place = (foreseen s).place }
  -- "1 to 4", each with place 0: first 1, 2 and 3
  pub header_first : (s : List ℕ) → first_failed (header_tests s) ≢ 0 → forecast s ≡ record { number = first_failed (header_tests s); place = 0 }
  -- "for length 4 asks only that the counts keep their limits"
  pub limits_next : (s : List ℕ) → first_failed (header_tests s) ≡ 0 → first_failed (limit_tests (header_of s)) ≢ 0 → forecast s ≡ record { number = 4; place = 0 }
  -- "and that the input is exactly the header and the script length that it names"; so a whole sheet that has a row is 4
  pub other_length : (s : List ℕ) → first_failed (header_tests s) ≡ 0 → length s ≢ inputs_at (header_of s) → forecast s ≡ record { number = 4; place = 0 }
  pub whole_sheet : (s : List ℕ) → first_failed (shape_tests s) ≡ 0 → 0 < row_count (header_of s) → forecast s ≡ record { number = 4; place = 0 }
  -- "then 9 to 11": tried over the whole script before 21 to 24
  pub script_next : (s : List ℕ) (number place : ℕ) → GoodHead s → sheet_script s ≡ refused number place → forecast s ≡ record { number = number; place = place }
  -- no forecast is without a run: a header and script that 1 to 4 do not refuse are those of a right sheet that 1 to 8 do not refuse, and of its run
  -- the forecast is number and place
  pub has_sheet : (s : List ℕ) → GoodHead s
      → (head_in (filled s) ≡ s) × (header_of (filled s) ≡ header_of s) × RightSheet (filled s) × (sheet_number (everyone (header_of s).n) (filled s) ≡ 0)
  pub as_filled : (s log revealed : List ℕ) → GoodHead s → record_length ≤ length log → revealed_length ≤ length revealed
      → forecast s ≡ end_of (run (everyone (header_of s).n) (filled s) log revealed)
  -- no other number comes: "given large enough buffers", so neither 25 nor 26
  pub numbers : (s : List ℕ) → OfForecast (forecast s).number
