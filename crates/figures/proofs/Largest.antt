-- The largest sheet, and that a longer input is refused by its first 59,724 bytes.
-- Assumes nothing.
use mathlib.Core.Path.{◌≡◌, refl, sym, ap, ◌∙◌}
use mathlib.Core.Logic.{◌≢◌}
use mathlib.Core.Bool.{Bool, true, false}
use mathlib.Core.List.{List, [], ◌∷◌, ◌++◌}
use Prim.Native.Nat.{ℕ, zero, suc, ◌+◌, ◌≤◌, ◌<◌}
use native.Mathlib.Nat.{min-eq_left}
use native.Mathlib.Omega.{arith}
use borrow.Author.Tests.{le-leb, ne_eqb}
use lib.Dec.{eqb}
use lib.ListN.{length, take, length-take}
use lib.Seq.{get_or-take}
use Rattle.model.specs.Presence.{permitted_set}
use Rattle.model.specs.Bytes.{number}
use Rattle.model.specs.Fields.{bits, in_use, field_tests, setting_tests}
use Rattle.model.specs.Refusing.{first_failed}
use Rattle.model.specs.Sheet.{Header, header_of, input_in, deal_in, header_size, mask_bits, limits, implied_length, header_tests, present_tests, limit_tests, length_tests, row_tests, sheet_tests, sheet_number, Permitted, setting_with}
use Rattle.model.specs.Run.{Outcome, refused_input, outcome, stop_of, run}
use Rattle.model.specs.Columns.{shape_tests, turn_number}
use Rattle.model.specs.Forecast.{forecast}
use Rattle.model.specs.Exactness.{Accepted}
use Rattle.model.proofs.Trying.{given_refused, passes, fails, numbered, holding, all_hold, first_decide, others_decide, after, setting_numbered, setting_field, setting_people}
use Rattle.model.proofs.Lengths.{header_read, fitting, length_most}
use Rattle.model.proofs.Acceptance.{sound}
use Rattle.model.proofs.ColumnForms.{every_form}
use Rattle.model.proofs.Forecasts.{forecasts}
use Rattle.figures.specs.Largest.{largest_sheet, largest_header, long_number, long_turned, LargestSheet}

most : (h : Header) → Permitted h → implied_length h ≤ largest_sheet
most h P = length_most h P

permitted : Permitted largest_header
unfolding in_use limits
permitted = record { field = tt; people = omega arith; counts = tt }

reached : implied_length largest_header ≡ largest_sheet
unfolding header_size mask_bits implied_length bits
reached = refl

accepted : (present : ℕ) (s : List ℕ) → Accepted present s → length s ≤ largest_sheet
accepted present s a = let Q = sound present s a.number in rw Q.size (most (header_of s) Q.permitted)

-- where 2 and 3 do not refuse, the limits or the length do
module _ (s : List ℕ) (long : largest_sheet < length s) where
  abbrev h : Header
  h = header_of s

  length_fails : Permitted h → eqb (length s) (implied_length h) ≡ false
  length_fails P = ne_eqb (length s) (implied_length h) (λ e. omega (arith, most h P))

  limits_or_length : (rest : List (Bool × ℕ)) → first_failed (setting_tests h.field h.n h.t) ≡ 0
      → first_failed (limit_tests h ++ (length_tests h s ++ rest)) ≡ 4
  unfolding limit_tests length_tests
  limits_or_length rest z = go (limits h) refl
    where
      go : (b : Bool) → limits h ≡ b → first_failed ((b, 4) ∷ (eqb (length s) (implied_length h), 4) ∷ rest) ≡ 4
      go false e = sym (fails 4 _ refl)
      go true e =
          let P : Permitted h = record { field = setting_field h.field h.n h.t (sym z) refl; people = setting_people h.field h.n h.t (sym z) refl; counts = rw e tt } in
          sym (passes 4 _ refl (fails 4 rest (length_fails P)))

  -- 12, and then 4
  after_set : (present : ℕ) → first_failed (setting_tests h.field h.n h.t) ≡ 0
      → first_failed (present_tests h present ++ (limit_tests h ++ (length_tests h s ++ row_tests (setting_with present h) (input_in h s) (deal_in h s))))
      ≡ first_failed ((permitted_set h.n h.t present, 12) ∷ (false, 4) ∷ [])
  unfolding present_tests
  after_set present z = go (permitted_set h.n h.t present)
    where
      go : (b : Bool) → first_failed ((b, 12) ∷ (limit_tests h ++ (length_tests h s ++ row_tests (setting_with present h) (input_in h s) (deal_in h s))))
          ≡ first_failed ((b, 12) ∷ (false, 4) ∷ [])
      go true = sym (passes 12 _ refl refl) ∙ limits_or_length _ z ∙ fails 4 [] refl ∙ passes 12 _ refl refl
      go false = sym (fails 12 _ refl) ∙ fails 12 _ refl

  long_sheet : (present : ℕ) → sheet_number present s ≡ long_number present h
  unfolding header_size sheet_tests header_tests field_tests setting_tests
  long_sheet present =
      sym (passes 1 _ (le-leb 11 (length s) (omega arith)) refl)
      ∙ after (setting_tests h.field h.n h.t) _ _ (setting_numbered h.field h.n h.t) (λ z. after_set present z)

  long_shape : first_failed (shape_tests s) ≡ long_turned h
  unfolding header_size shape_tests header_tests field_tests setting_tests length_tests
  long_shape =
      sym (passes 1 _ (le-leb 11 (length s) (omega arith)) refl)
      ∙ after (setting_tests h.field h.n h.t) _ _ (setting_numbered h.field h.n h.t) (λ z. limits_or_length [] z ∙ fails 4 [] refl)

long_number_lem : (present : ℕ) (h : Header) → long_number present h ≢ 0
unfolding field_tests setting_tests numbered holding
long_number_lem present h e = all_hold 4 (setting_tests h.field h.n h.t ++ ((permitted_set h.n h.t present, 12) ∷ (false, 4) ∷ [])) tt e

long_stop : (present : ℕ) (s : List ℕ) (log shown : ℕ) → largest_sheet < length s → stop_of present s log shown ≡ refused_input (long_number present (header_of s)) 0
unfolding stop_of
long_stop present s log shown l = rw (long_sheet s l present) (given_refused (long_number present (header_of s)) _ _ (long_number_lem present (header_of s)))

long_run : (present : ℕ) (s log revealed : List ℕ) → largest_sheet < length s
    → run present s log revealed ≡ outcome (setting_with present (header_of s)) log revealed (refused_input (long_number present (header_of s)) 0)
unfolding run
long_run present s log revealed l = ap (outcome (setting_with present (header_of s)) log revealed) (long_stop present s (length log) (length revealed) l)

-- the header stands in the first bytes
module _ (m : ℕ) (s : List ℕ) where
  number_cut : (w i : ℕ) → i + w ≤ m → number w (take m s) i ≡ number w s i
  unfolding number
  number_cut zero i h = refl
  number_cut (suc w) i h = rw (get_or-take m s i 0 (omega arith), number_cut w (i + 1) (omega arith))

  header_cut : header_size (header_of s) ≤ m → header_of (take m s) ≡ header_of s
  unfolding header_size header_of
  header_cut h =
      λ i. record {
        field = get_or-take m s 0 0 (omega arith) i;
        n = get_or-take m s 1 0 (omega arith) i;
        t = get_or-take m s 2 0 (omega arith) i;
        inputs = number_cut 2 3 (omega arith) i;
        masks = number_cut 2 5 (omega arith) i;
        triples = number_cut 2 7 (omega arith) i;
        script = number_cut 2 9 (omega arith) i;
      }

cut : (present : ℕ) (s log revealed : List ℕ) → largest_sheet < length s → run present (take (suc largest_sheet) s) log revealed ≡ run present s log revealed
cut present s log revealed l =
    let m : largest_sheet < length (take (suc largest_sheet) s) = omega (arith, length-take (suc largest_sheet) s, min-eq_left l) in
    long_run present (take (suc largest_sheet) s) log revealed m
    ∙ ap (λ (h : Header). outcome (setting_with present h) log revealed (refused_input (long_number present h) 0)) (header_cut (suc largest_sheet) s (unfold header_size in omega arith))
    ∙ sym (long_run present s log revealed l)

longer : (present : ℕ) (s log revealed : List ℕ) → largest_sheet < length s
    → ((run present s log revealed).number ≡ long_number present (header_of s)) × ((run present s log revealed).place ≡ 0)
unfolding outcome
longer present s log revealed l =
    let e = long_run present s log revealed l in
    (ap (λ (x : Outcome). x.number) e, ap (λ (x : Outcome). x.place) e)

-- the column form answers 1 to 4 as a run does
long_turned_lem : (h : Header) → long_turned h ≢ 0
unfolding field_tests setting_tests numbered holding
long_turned_lem h e = all_hold 4 (setting_tests h.field h.n h.t ++ ((false, 4) ∷ [])) tt e

turned : (s out : List ℕ) → largest_sheet < length s → turn_number s out ≡ long_turned (header_of s)
turned s out l =
    let q = long_shape s l in
    (every_form.numbers s out).first (λ z. long_turned_lem (header_of s) (sym q ∙ z)) ∙ q

-- so does a forecast
module _ (s : List ℕ) (l : largest_sheet < length s) where
  long_header : first_failed (header_tests s) ≡ first_failed (setting_tests (header_of s).field (header_of s).n (header_of s).t)
  unfolding header_size header_tests
  long_header = sym (passes 1 _ (le-leb 11 (length s) (omega arith)) refl)

  -- by the limits, or since header and script are at most 1,035 bytes
  long_four : first_failed (header_tests s) ≡ 0 → forecast s ≡ record { number = 4; place = 0 }
  unfolding limit_tests header_size
  long_four e = go (limits (header_of s)) refl
    where
      go : (b : Bool) → limits (header_of s) ≡ b → forecast s ≡ record { number = 4; place = 0 }
      go false q =
          let z : 4 ≡ first_failed ((limits (header_of s), 4) ∷ []) = fails 4 [] q in
          forecasts.limits_next s e (λ e. omega arith)
      go true q =
          let R = header_read s refl e in
          let P : Permitted (header_of s) = record { field = R.field; people = R.people; counts = rw q tt } in
          forecasts.other_length s e (λ z. omega (arith, (fitting (header_of s) P).script_most))

  forecast_long : forecast s ≡ record { number = long_turned (header_of s); place = 0 }
  unfolding field_tests setting_tests
  forecast_long = go (first_failed (header_tests s)) refl
    where
      go : (n : ℕ) → first_failed (header_tests s) ≡ n → forecast s ≡ record { number = long_turned (header_of s); place = 0 }
      go zero e =
          long_four e
          ∙ ap (λ (n : ℕ). record { number = n; place = 0 })
          (others_decide (setting_tests (header_of s).field (header_of s).n (header_of s).t) ((false, 4) ∷ []) (setting_numbered (header_of s).field (header_of s).n (header_of s).t) long_header e (fails 4 [] refl))
      go (suc n) e =
          let z : first_failed (header_tests s) ≢ 0 = λ q. omega arith in
          forecasts.header_first s z
          ∙ ap (λ (n : ℕ). record { number = n; place = 0 })
          (first_decide (setting_tests (header_of s).field (header_of s).n (header_of s).t) ((false, 4) ∷ []) long_header z)

forecast_cut : (s : List ℕ) → largest_sheet < length s → forecast (take (suc largest_sheet) s) ≡ forecast s
forecast_cut s l =
    let m : largest_sheet < length (take (suc largest_sheet) s) = omega (arith, length-take (suc largest_sheet) s, min-eq_left l) in
    forecast_long (take (suc largest_sheet) s) m
    ∙ ap (λ (h : Header). record { number = long_turned h; place = 0 }) (header_cut (suc largest_sheet) s (unfold header_size in omega arith))
    ∙ sym (forecast_long s l)

pub largest_sheet_lem : LargestSheet
largest_sheet_lem = record { most = most; permitted = permitted; reached = reached; accepted = accepted; longer = longer; cut = cut; turned = turned; forecasts = forecast_long; forecast_cut = forecast_cut }
