-- The code's forecasts as the definition's.
-- Assumes nothing.
use Rattle.std.specs.Prelude.{◌≡◌, List, [], ℕ, Ok, Err, Result}
use Rattle.refusals.specs.declared.Refusal.{Refusal}
use Rattle.refusals.specs.declared.Refused.{Refused}
use Rattle.refusals.specs.Numbers.{told}
use Rattle.model.specs.Refusing.{first_failed, given}
use Rattle.model.specs.Script.{script_of}
use Rattle.model.specs.Sheet.{header_of, mask_bits}
use Rattle.model.specs.Run.{sheet_script}
use Rattle.model.specs.Checks.{Supply}
use Rattle.model.specs.Forecast as Paper
use Rattle.sheet.specs.declared.frame.Frame.{Frame}
use Rattle.script.specs.Meaning.{number_told, place_told}
use Rattle.costs.specs.declared.counts.Counts.{Counts}
use Rattle.costs.specs.Costing.{spent_of, Supplied}
use Rattle.forecasting.specs.declared.lines.Foreseen.{Foreseen}

abbrev pub answer_of : Result ℕ Refused → Paper.Forecast
answer_of r = record { number = number_told r; place = place_told r }

abbrev pub foreseen_of : Foreseen Refusal → Paper.Foreseen
foreseen_of r = record { number = told r.ended; place = r.place; spent = spent_of r.spent; registers = [] }

-- the same of one that any number stopped
abbrev pub number_by : {A : Type 0} → Result A ℕ → ℕ
number_by (Ok _) = 0
number_by (Err number) = number

abbrev pub stopped_of : Foreseen ℕ → Paper.Foreseen
stopped_of r = record { number = number_by r.ended; place = r.place; spent = spent_of r.spent; registers = [] }

-- what a script comes to with any supply that these counts are of
abbrev pub Foresees : Frame → List ℕ → Counts → Foreseen Refusal → Type 0
Foresees f script supply r =
    (u : Supply) → Supplied u supply → foreseen_of r ≡ Paper.script_foreseen f.l u (script_of f.p f.largest script)

-- of a header and script that neither 1, 2, 3 nor the limits of 4 refuse: 4 for the length, or what the script comes to
abbrev pub by_length : List ℕ → Paper.Foreseen
by_length s =
    let h = header_of s in
    let number = first_failed (Paper.head_length_tests h s) in
    given number (Paper.script_foreseen (mask_bits h) (Paper.ample_supply h) (sheet_script s)) (Paper.nothing_foreseen number 0)
