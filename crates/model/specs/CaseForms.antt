-- The forms of the rows in SheetCases, ScriptCases, RunCases, MaskCases, PresentCases, EntryCases, CallCases, ColumnCases, ForecastCases and ReplayCases: what
-- the definitions give, and what the reference answers by paper and requests.
-- Assumes nothing.
use Rattle.std.specs.Prelude.{◌≡◌, Bool, true, false, cond, List, [], ◌∷◌, ◌++◌, map, ℕ, suc, eqb, ℤ, pos, length, get_or, replicate}
use Rattle.std.proofs.Math.Option.{Option, none, some}
use Rattle.algebra.specs.Lists.{from, same_list}
use Rattle.model.specs.Entries.{share_number, share_left, recover_number, recover_value, recover_left, sum_number, sum_value, encode_number, encode_value, decode_number, decode_value}
use Rattle.model.specs.Presence.{everyone}
use Rattle.model.specs.Steps.{Row}
use Rattle.model.specs.Sheet.{share_bytes}
use Rattle.model.specs.Counts.{listed}
use Rattle.model.specs.Run.{Outcome, run}
use Rattle.model.specs.Calls.{Imported, imported}
use Rattle.model.specs.Columns.{column_form, sheet_form, turn_number, output_left}
use Rattle.model.specs.Forecast.{Forecast, forecast}
use Rattle.model.specs.Replay.{Replayed, replay}

-- a register that is set, its number before its cells; one that is unset is left out where its cells are 0
abbrev pub one_seen : ℕ → Bool → Row → List (List ℕ)
one_seen r true x = (r ∷ x) ∷ []
one_seen r false x = cond (same_list x (replicate 7 0)) [] (x ∷ [])

unfoldable pub registers_seen : ℕ → List Bool → List Row → List (List ℕ)
registers_seen r [] rows = []
registers_seen r (mark ∷ marks) [] = []
registers_seen r (mark ∷ marks) (x ∷ rows) = one_seen r mark x ++ registers_seen (suc r) marks rows

-- all that a run leaves: number, place, inputs, masks, triples, openings and how many values were revealed; the record; the revealed list; the
-- registers
unfoldable pub seen : Outcome → List (List ℕ)
seen x =
    (x.number ∷ x.place ∷ listed x.counts) ∷ x.log ∷ x.revealed ∷ registers_seen 0 x.marks x.registers

-- what the definitions give, and what the reference tells
pub record Told (A : Type 0) : Type 0 where
  pub computed : A
  pub told : A

-- the definitions give what the reference tells, row by row
abbrev pub Hold : {A : Type 0} → List (Told A) → Type 0
Hold cases = map (λ c. c.computed) cases ≡ map (λ c. c.told) cases

-- a run, by all that it leaves
abbrev pub Case : Type 0
Case = Told (List (List ℕ))

-- A sheet by its header's bytes, its script and its shares, run with the byte that says who is present, and with a record and a revealed list of these
-- lengths, each filled with 99.
abbrev pub ran_by : ℕ → List ℕ → List ℕ → List ℕ → ℕ → ℕ → List (List ℕ) → Case
ran_by present header script shares log shown told =
    record { computed = seen (run present (header ++ (script ++ share_bytes shares)) (replicate log 99) (replicate shown 99)); told = told }

-- the same with everyone present, by the header's n
abbrev pub ran : List ℕ → List ℕ → List ℕ → ℕ → ℕ → List (List ℕ) → Case
ran header = ran_by (everyone (get_or header 1 0)) header

-- A run that leaves nothing but its number and place: the counts are 0, both buffers keep their contents and no register is set. Of a
-- refused input: "Nothing is run. Both output buffers keep their contents, all registers are unset, all counts 0."
abbrev pub stopped_by : ℕ → List ℕ → List ℕ → List ℕ → ℕ → ℕ → Case
stopped_by present header script shares number place =
    ran_by present header script shares 3 1 ((number ∷ place ∷ 0 ∷ 0 ∷ 0 ∷ 0 ∷ 0 ∷ []) ∷ (99 ∷ 99 ∷ 99 ∷ []) ∷ (99 ∷ []) ∷ [])

-- the same with everyone present
abbrev pub stopped : List ℕ → List ℕ → List ℕ → ℕ → ℕ → Case
stopped header = stopped_by (everyone (get_or header 1 0)) header

-- and of a script in field f, with n = 3 and t = 1 and no row
abbrev pub scripted : ℕ → List ℕ → ℕ → ℕ → Case
scripted f script number place = stopped (f ∷ 3 ∷ 1 ∷ 0 ∷ 0 ∷ 0 ∷ 0 ∷ 0 ∷ 0 ∷ length script ∷ 0 ∷ []) script [] number place

-- what an entry answers: the number; the value, which share and turning over or back do not have; and the lent list that it leaves, which sum,
-- encode and decode do not have
pub record Answer : Type 0 where
  pub number : ℕ
  pub value : Option ℤ
  pub left : List ℕ

abbrev pub answer : ℕ → Option ℤ → List ℕ → Answer
answer number value left = record { number = number; value = value; left = left }

-- a call of an entry
abbrev pub Entry : Type 0
Entry = Told Answer

-- share with field, n, t, secret and coefficients; recover with field, n, t and shares. The lent list has this length and is filled with 99.
abbrev pub shared : ℕ → ℕ → ℕ → ℕ → List ℕ → ℕ → ℕ → List ℕ → Entry
shared f n t s cs lent number left =
    let out : List ℕ = replicate lent 99 in
    record { computed = answer (share_number f n t s cs out) none (share_left f n t s cs out); told = answer number none left }

abbrev pub recovered : ℕ → ℕ → ℕ → List ℕ → ℕ → ℕ → ℤ → List ℕ → Entry
recovered f n t xs lent number value left =
    let out : List ℕ = replicate lent 99 in
    record {
      computed = answer (recover_number f n t xs out) (some (pos (recover_value f n t xs out))) (recover_left f n t xs out);
      told = answer number (some value) left;
    }

-- sum with field, n, t and shares
abbrev pub summed : ℕ → ℕ → ℕ → List ℕ → ℕ → ℤ → Entry
summed f n t xs number value =
    record { computed = answer (sum_number f n t xs) (some (pos (sum_value f n t xs))) []; told = answer number (some value) [] }

-- encode with field, k and number; decode with field and value
abbrev pub encoded : ℕ → ℕ → ℤ → ℕ → ℤ → Entry
encoded f k a number value =
    record { computed = answer (encode_number f k a) (some (pos (encode_value f k a))) []; told = answer number (some value) [] }

abbrev pub decoded : ℕ → ℕ → ℕ → ℤ → Entry
decoded f v number value =
    record { computed = answer (decode_number f v) (some (decode_value f v)) []; told = answer number (some value) [] }

-- an import of a list
abbrev pub CallCase : Type 0
CallCase = Told Imported

-- The buffer has this length and is filled with 99: number, how many calls, and the whole buffer after the import.
abbrev pub took : List ℕ → ℕ → ℕ → ℕ → List ℕ → CallCase
took list lent number calls left =
    record { computed = imported list (replicate lent 99); told = record { number = number; calls = calls; out = left } }

-- A call that turns an input over or back: "the number alone", and the whole output after it. The output has this length, and 100 + i stands at place i.
abbrev pub turned : (List ℕ → List ℕ) → List ℕ → ℕ → ℕ → List ℕ → Entry
turned form s lent number left =
    let out : List ℕ = from 100 lent in
    record { computed = answer (turn_number s out) none (output_left form s out); told = answer number none left }

-- to the column form, and to the sheet
abbrev pub as_columns : List ℕ → ℕ → ℕ → List ℕ → Entry
as_columns = turned column_form

abbrev pub as_sheet : List ℕ → ℕ → ℕ → List ℕ → Entry
as_sheet = turned sheet_form

-- a forecast of a header and script: number and place
abbrev pub ForecastCase : Type 0
ForecastCase = Told Forecast

abbrev pub forecast_of : List ℕ → ℕ → ℕ → ForecastCase
forecast_of head number place = record { computed = forecast head; told = record { number = number; place = place } }

-- the cells that are not 0, each with its register before it, in rising order of register
unfoldable pub cells_seen : ℕ → List ℕ → List (List ℕ)
cells_seen r [] = []
cells_seen r (v ∷ cells) = let rest = cells_seen (suc r) cells in cond (eqb v 0) rest ((r ∷ v ∷ []) ∷ rest)

-- all that a replay leaves: number, place, inputs, masks, triples, openings and how many values were revealed; and the cells
unfoldable pub replay_seen : Replayed → List (List ℕ)
replay_seen x = (x.number ∷ x.place ∷ listed x.counts) ∷ cells_seen 0 x.cells

-- A replay by a party, from a header's bytes, a script, the bytes of the party's part, and the record.
abbrev pub replay_of : ℕ → List ℕ → List ℕ → List ℕ → List ℕ → List (List ℕ) → Case
replay_of party header script part log told = record { computed = replay_seen (replay party (header ++ script) part log); told = told }
