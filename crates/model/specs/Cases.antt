-- The definitions held by computed cases: numbers, places, orders, limits, ranges and operands, which the theorems take as given.
-- Assumes nothing.
use Rattle.std.specs.Prelude.{◌≡◌, Bool, true, false, List, [], ◌∷◌, ◌++◌, map, ℕ, ◌*◌, ◌%◌, ◌^◌, length, take, replicate}
use Rattle.algebra.specs.Lists.{from, total}
use Rattle.model.specs.Fields.{modulus}
use Rattle.model.specs.Sharing.{weight}
use Rattle.model.specs.Presence.{present_in, openers}
use Rattle.model.specs.Sheet.{header_of, share_bytes}
use Rattle.model.specs.Counts.{no_counts}
use Rattle.model.specs.Costs.{Cost}
use Rattle.model.specs.Run.{check}
use Rattle.model.specs.Calls.{found, read_line, imported}
use Rattle.model.specs.Columns.{column_form, part_of, shares_in}
use Rattle.model.specs.CaseForms.{Hold}
use Rattle.model.specs.SheetCases.{sheet_cases}
use Rattle.model.specs.ScriptCases.{script_cases}
use Rattle.model.specs.RunCases.{run_cases}
use Rattle.model.specs.MaskCases.{mask_cases}
use Rattle.model.specs.PresentCases.{present_cases}
use Rattle.model.specs.EntryCases.{entry_cases}
use Rattle.model.specs.CallCases.{call_cases}
use Rattle.model.specs.ColumnCases.{column_cases}
use Rattle.model.specs.ForecastCases.{forecast_cases}
use Rattle.model.specs.ReplayCases.{replay_cases}

-- "Tried before a command changes anything, in this order": 21 to 26. No command takes both an input row and a mask, so no sheet shows where 22
-- stands in the order. Here a command reads register 0 and takes one of everything.
abbrev pub taking : Cost
taking = record { reads = 0 ∷ []; writes = []; counts = record { inputs = 1; masks = 1; triples = 1; openings = 1; revealed = 1 } }

-- its number with three parties, register 0 being set or not, and so many input rows, masks and triples, and room in record and revealed list
abbrev pub checked : Bool → ℕ → ℕ → ℕ → ℕ → ℕ → ℕ
checked mark inputs masks triples log shown =
    check (record { inputs = inputs; masks = masks; triples = triples; parties = 3; log = log; shown = shown }) taking
    (record { counts = no_counts; marks = mark ∷ [] })

-- each number before all those after it; then 0, where nothing is missing; then 21 to 25 alone
unfoldable pub checks : List ℕ
checks =
    checked false 0 0 0 0 0 ∷ checked true 0 0 0 0 0 ∷ checked true 1 0 0 0 0 ∷ checked true 1 1 0 0 0 ∷ checked true 1 1 1 2 0
    ∷ checked true 1 1 1 3 0 ∷ checked true 1 1 1 3 1 ∷ checked false 1 1 1 3 1 ∷ checked true 0 1 1 3 1 ∷ checked true 1 0 1 3 1
    ∷ checked true 1 1 0 3 1 ∷ checked true 1 1 1 2 1 ∷ []

-- the shares in the parts of a sheet's column form, party 1's first
unfoldable pub parts_seen : List ℕ → List (List ℕ)
parts_seen s =
    let h = header_of s in
    map (λ j. shares_in h (part_of h j (column_form s))) (from 1 h.n)

-- Of the parties that a byte says present, of seven, in a field: the sums, modulo p, of weight times 1, of weight times party, times its square, and so on,
-- as many as there are parties. They are the values at 0 that the weights give the polynomials 1, X, X² and so on.
unfoldable pub weights_seen : ℕ → ℕ → List ℕ
weights_seen f b =
    let p = modulus f in
    let xs = present_in b (from 1 7) in
    map (λ e. total xs (λ x. weight p xs x * x ^ e) % p) (from 0 (length xs))

-- Each row of the ten tables computes to what the reference, a separately written program, answers by paper and requests. It writes the tables, and
-- the proved programs `cases`, `entries`, `call_cases`, `column_cases`, `forecast_cases` and `replay_cases` answer the same sheets, calls, lists, inputs, heads
-- and replays.
pub record Cases : Type 0 where
  pub sheets : Hold sheet_cases
  pub scripts : Hold script_cases
  pub runs : Hold run_cases
  pub masked : Hold mask_cases
  pub presents : Hold present_cases
  pub order : checks ≡ 21 ∷ 22 ∷ 23 ∷ 24 ∷ 25 ∷ 26 ∷ 0 ∷ 21 ∷ 22 ∷ 23 ∷ 24 ∷ 25 ∷ []
  pub entries : Hold entry_cases
  pub calls : Hold call_cases
  pub columns : Hold column_cases
  pub forecasts : Hold forecast_cases
  pub replays : Hold replay_cases
  -- "all of party 1's shares (inputs, masks, triples in sheet order), then party 2's, and so on": of three parties, a script of two bytes, one input row,
  -- one mask of 4 rows and one triple, with the shares 1 to 24 in the sheet's order
  pub parts : parts_seen (0 ∷ 3 ∷ 1 ∷ 1 ∷ 0 ∷ 1 ∷ 0 ∷ 1 ∷ 0 ∷ 2 ∷ 0 ∷ 201 ∷ 202 ∷ share_bytes (from 1 24))
      ≡ (1 ∷ 4 ∷ 7 ∷ 10 ∷ 13 ∷ 16 ∷ 19 ∷ 22 ∷ []) ∷ (2 ∷ 5 ∷ 8 ∷ 11 ∷ 14 ∷ 17 ∷ 20 ∷ 23 ∷ []) ∷ (3 ∷ 6 ∷ 9 ∷ 12 ∷ 15 ∷ 18 ∷ 21 ∷ 24 ∷ []) ∷ []
  -- request 5: the weights of all sets of seven parties, for each field. 1 has the value 1 at 0, and the powers of X have the value 0.
  pub weights : map (λ f. map (weights_seen f) (from 0 128)) (from 0 4)
      ≡ replicate 4 (map (λ b. take (length (present_in b (from 1 7))) (1 ∷ replicate 6 0)) (from 0 128))
  -- "the lowest t + 1 present parties": of five parties three, and of seven four
  pub opened_of_five : map (openers 5 2) (7 ∷ 11 ∷ 21 ∷ 26 ∷ 28 ∷ 30 ∷ 31 ∷ [])
      ≡ (1 ∷ 2 ∷ 3 ∷ []) ∷ (1 ∷ 2 ∷ 4 ∷ []) ∷ (1 ∷ 3 ∷ 5 ∷ []) ∷ (2 ∷ 4 ∷ 5 ∷ []) ∷ (3 ∷ 4 ∷ 5 ∷ []) ∷ (2 ∷ 3 ∷ 4 ∷ []) ∷ (1 ∷ 2 ∷ 3 ∷ []) ∷ []
  pub opened_of_seven : map (openers 7 3) (85 ∷ 94 ∷ 120 ∷ 127 ∷ [])
      ≡ (1 ∷ 3 ∷ 5 ∷ 7 ∷ []) ∷ (2 ∷ 3 ∷ 4 ∷ 5 ∷ []) ∷ (4 ∷ 5 ∷ 6 ∷ 7 ∷ []) ∷ (1 ∷ 2 ∷ 3 ∷ 4 ∷ []) ∷ []
  -- the values of fields, of which an import shows the times alone: "a""b","<CR><LF>,"<CR><LF>c
  pub values : read_line (34 ∷ 97 ∷ 34 ∷ 34 ∷ 98 ∷ 34 ∷ 44 ∷ 34 ∷ 13 ∷ 10 ∷ 44 ∷ 34 ∷ 13 ∷ 10 ∷ 99 ∷ [])
      ≡ found ((97 ∷ 34 ∷ 98 ∷ []) ∷ (13 ∷ 10 ∷ 44 ∷ []) ∷ []) (13 ∷ 10 ∷ 99 ∷ [])
  -- every byte as a name, without quotes and between quotes: 31, or 33 for a good line, since there is no buffer
  pub plain_names : map (λ b. (imported (b ∷ 44 ∷ 49 ∷ 44 ∷ 50 ∷ 44 ∷ 53 ∷ []) []).number) (from 0 256)
      ≡ replicate 32 31 ++ (replicate 2 33 ++ (replicate 1 31 ++ (replicate 9 33 ++ (replicate 1 31 ++ (replicate 82 33 ++ replicate 129 31)))))
  pub quoted_names : map (λ b. (imported (34 ∷ b ∷ 34 ∷ 44 ∷ 49 ∷ 44 ∷ 50 ∷ 44 ∷ 53 ∷ []) []).number) (from 0 256)
      ≡ replicate 10 31 ++ (replicate 1 33 ++ (replicate 2 31 ++ (replicate 1 33 ++ (replicate 18 31 ++ (replicate 2 33 ++ (replicate 1 31 ++ (replicate 92 33 ++ replicate 129 31)))))))
