-- The statements of specs/Forecasts: a sheet's head has the sheet's header and script, so its forecast ends as the run does.
-- Assumes nothing.
use mathlib.Core.Path.{◌≡◌, refl, sym, ap, subst, ◌∙◌}
use mathlib.Core.Logic.{◌≢◌, ◌⊎◌, inl, inr}
use mathlib.Core.Bool.{Bool, true, false}
use mathlib.Core.List.{List, [], ◌∷◌, ◌++◌, append_assoc}
use Prim.Native.Nat.{ℕ, zero, suc, ◌+◌, ◌-◌, ◌*◌, ◌≤◌, ◌<◌}
use native.Mathlib.Nat.{zero-add, suc-add, mul-le-mul}
use native.Mathlib.Decide.{dec_le}
use native.Mathlib.Omega.{arith}
use borrow.Author.Tests.{eq-eqb, ne_eqb, le-leb}
use lib.Dec.{T, eqb, eqb→eq}
use lib.ListN.{length, get_or, take, drop, replicate, length-append, length-replicate}
use lib.Seq.{take_at, take-take, take_all, take-nil, length-take-le, get_or-append-add}
use Rattle.algebra.specs.Lists.{none, one}
use Rattle.algebra.proofs.Tests.{and_left}
use Rattle.model.specs.Fields.{field_tests, setting_tests}
use Rattle.model.specs.Refusing.{first_failed, given}
use Rattle.model.specs.Presence.{everyone, PermittedSet}
use Rattle.model.specs.Script.{Script, accepted, refused, script_of}
use Rattle.model.specs.Sheet.{Header, header_of, header_size, mask_bits, largest_in, setting_of, inputs_at, limits, implied_length, row_count, script_in, input_in, deal_in, header_tests, limit_tests, length_tests, row_tests, sheet_number, Permitted}
use Rattle.model.specs.Run.{start, refused_input, run_script, sheet_script, stop_of, outcome, run}
use Rattle.model.specs.Buffers.{record_length, revealed_length}
use Rattle.model.specs.Refusals.{From}
use Rattle.model.specs.Columns.{shape_tests}
use Rattle.model.specs.Forecast.{Foreseen, head_in, head_length_tests, head_tests, nothing_foreseen, lines_foreseen, script_foreseen, ample_supply, foreseen, Forecast, forecast}
use Rattle.model.specs.Forecasts.{end_of, RightSheet, filled, OfForecast, GoodHead, Forecasts}
use Rattle.model.proofs.Trying.{given_refused, numbered, holding, appended, all_hold, failed_in, passes, fails, nothing_left, first_decide, others_decide, front_passes, others_pass, both_pass}
use Rattle.model.proofs.Lengths.{header_numbered, header_read, fitting}
use Rattle.model.proofs.SheetDeal.{implied}
use Rattle.model.proofs.Acceptance.{sound}
use Rattle.model.proofs.PresentTests.{later, without_set, everyone_permitted}
use Rattle.model.proofs.PresentRuns.{present_runs}
use Rattle.model.proofs.Refusals.{numbers}
use Rattle.model.proofs.Held.{all_same}
use Rattle.model.proofs.Buffers.{at_start, script_length, no_run_outgrows}
use Rattle.model.proofs.ColumnForms.{head_header, shaped_length}
use Rattle.model.proofs.Filled.{rows_pass}
use Rattle.model.proofs.Foreseeing.{Follows, follows}

-- the front of a list without its first elements
drop_take : (n m : ℕ) (l : List ℕ) → drop n (take (n + m) l) ≡ take m (drop n l)
drop_take zero m l = rw zero-add refl
drop_take (suc n) m [] = rw (suc-add, take-nil) refl
drop_take (suc n) m (x ∷ l) = rw suc-add (drop_take n m l)

-- what 1, 2, 3 and the limits of 4 test
abbrev counted : List ℕ → List (Bool × ℕ)
counted s = header_tests s ++ limit_tests (header_of s)

counted_numbered : (s : List ℕ) → T (numbered (counted s))
unfolding field_tests setting_tests header_tests limit_tests numbered
counted_numbered s = tt

head_tests_lem : (s : List ℕ) → first_failed (head_tests s) ≡ given (first_failed (counted s)) (first_failed (head_length_tests (header_of s) s)) (first_failed (counted s))
unfolding head_tests
head_tests_lem s =
    let h = header_of s in
    ap first_failed (sym (append_assoc (header_tests s) (limit_tests h) (head_length_tests h s))) ∙ appended (counted s) (head_length_tests h s) (counted_numbered s)

-- a sheet's head, and the sheet
module _ (s : List ℕ) where
  abbrev h : Header
  h = header_of s

  pub same_header : header_of (head_in s) ≡ h
  unfolding head_in
  same_header = sym (head_header s (head_in s) (sym (take-take (inputs_at h) (inputs_at h) s (omega arith))))

  pub same_script : sheet_script (head_in s) ≡ sheet_script s
  unfolding head_in script_in
  same_script =
      rw same_header
      (ap (λ (x : List ℕ). script_of (setting_of h).p (largest_in h) x)
      (ap (take h.script) (drop_take (header_size h) h.script s) ∙ take-take h.script h.script _ (omega arith)))

  -- as many bytes as header and script have, or the sheet itself where it has fewer
  pub whole_head : inputs_at h ≤ length s → length (head_in s) ≡ inputs_at h
  unfolding head_in
  whole_head = length-take-le (inputs_at h) s

  same_counted : first_failed (counted (head_in s)) ≡ first_failed (counted s)
  unfolding header_tests head_in
  same_counted = go (dec_le (inputs_at h) (length s))
    where
      go : Dec (inputs_at h ≤ length s) → first_failed (counted (head_in s)) ≡ first_failed (counted s)
      go (no k) = ap (λ (x : List ℕ). first_failed (counted x)) (take_all (inputs_at h) s (omega arith))
      go (yes k) =
          rw (same_header, whole_head k, le-leb (header_size h) (inputs_at h) (omega arith), le-leb (header_size h) (length s) (omega arith)) refl

  abbrev all : ℕ
  all = everyone h.n

  -- the sheet's other tests
  abbrev others : List (Bool × ℕ)
  others = length_tests h s ++ row_tests (setting_of h) (input_in h s) (deal_in h s)

  sheet_tests_lem : sheet_number all s ≡ given (first_failed (counted s)) (first_failed others) (first_failed (counted s))
  sheet_tests_lem =
      without_set all s (everyone_permitted s) ∙ sym (appended (header_tests s) (later all s) (header_numbered s))
      ∙ ap first_failed (sym (append_assoc (header_tests s) (limit_tests h) others)) ∙ appended (counted s) others (counted_numbered s)

  -- where 1, 2, 3 and the limits do not refuse, the others do not refuse either
  others_pass_both : RightSheet s → first_failed (counted s) ≡ 0 → (first_failed (head_length_tests h (head_in s)) ≡ 0) × (first_failed others ≡ 0)
  unfolding head_length_tests length_tests first_failed
  others_pass_both R e =
      let L = R e in
      rw (eq-eqb (length (head_in s)) (inputs_at h) (whole_head (omega (arith, implied h, L.0))), eq-eqb (length s) (implied_length h) L.0) (refl, L.1)

  same_number : RightSheet s → first_failed (head_tests (head_in s)) ≡ sheet_number all s
  same_number R = head_tests_lem (head_in s) ∙ rw (same_counted, same_header) (go (first_failed (counted s)) refl) ∙ sym sheet_tests_lem
    where
      go : (n : ℕ) → first_failed (counted s) ≡ n → given n (first_failed (head_length_tests h (head_in s))) n ≡ given n (first_failed others) n
      go zero e = let L = others_pass_both R e in L.0 ∙ sym L.1
      go (suc n) e = refl

  module _ (log shown : ℕ) (log-long : record_length ≤ log) (shown-long : revealed_length ≤ shown) where
    script_ends : sheet_number all s ≡ 0 → (x : Script) → sheet_script s ≡ x → Follows (run_script all h s log shown x) (script_foreseen (mask_bits h) (ample_supply h) x)
    unfolding run_script script_foreseen lines_foreseen start
    script_ends e (refused number place) q = record { number = refl; place = refl; spent = refl }
    script_ends e (accepted xs end) q =
        let P = (sound all s e).permitted in
        let F = fitting h P in
        follows h F P.people.most log shown log-long shown-long all (input_in h s) end xs (start (deal_in h s))
        (at_start _ _ (script_in h s) q (omega (arith, script_length h s)))

    ends_alike : RightSheet s → Follows (stop_of all s log shown) (foreseen (head_in s))
    unfolding stop_of foreseen start
    ends_alike R = rw (same_number R, same_script, same_header) (go (sheet_number all s) refl)
      where
        go : (n : ℕ) → sheet_number all s ≡ n
            → Follows (given n (run_script all h s log shown (sheet_script s)) (refused_input n 0)) (given n (script_foreseen (mask_bits h) (ample_supply h) (sheet_script s)) (nothing_foreseen n 0))
        go zero e = script_ends e (sheet_script s) refl
        go (suc n) e = record { number = refl; place = refl; spent = refl }

module _ (s log revealed : List ℕ) (R : RightSheet s) (l : record_length ≤ length log) (k : revealed_length ≤ length revealed) where
  alike : Follows (stop_of (everyone (header_of s).n) s (length log) (length revealed)) (foreseen (head_in s))
  alike = ends_alike s (length log) (length revealed) l k R

  as_run : forecast (head_in s) ≡ end_of (run (everyone (header_of s).n) s log revealed)
  unfolding run outcome forecast
  as_run = let F = alike in λ i. record { number = F.number i; place = F.place i }

  spent_as_run : let x = run (everyone (header_of s).n) s log revealed in
      (foreseen (head_in s)).spent ≡ record { counts = x.counts; marks = x.marks }
  unfolding run outcome
  spent_as_run = alike.spent

  as_run_with : (present : ℕ) → PermittedSet (header_of s).n (header_of s).t present → forecast (head_in s) ≡ end_of (run present s log revealed)
  as_run_with present Q =
      let x = present_runs.same_run present s log revealed Q in
      as_run ∙ λ i. record { number = sym x.number i; place = sym x.place i }

-- where 1 to 4 do not refuse, and only there
pub good_head : (s : List ℕ) → GoodHead s → first_failed (head_tests s) ≡ 0
unfolding head_tests head_length_tests
good_head s G =
    let h = header_of s in
    both_pass (header_tests s) _ G.header (both_pass (limit_tests h) _ G.limits (sym (passes 4 [] (eq-eqb (length s) (inputs_at h) G.size) nothing_left)))

-- a head that 1 to 4 do not refuse, and the sheet that is filled up from it
module _ (s : List ℕ) (e : first_failed (head_tests s) ≡ 0) where
  counted_pass : first_failed (counted s) ≡ 0
  unfolding head_tests
  counted_pass =
      front_passes (counted s) (head_length_tests (header_of s) s) (counted_numbered s)
      (ap first_failed (append_assoc (header_tests s) (limit_tests (header_of s)) (head_length_tests (header_of s) s)) ∙ e)

  long : length s ≡ inputs_at (header_of s)
  unfolding head_tests head_length_tests limit_tests numbered holding
  long =
      let h = header_of s in
      let more = others_pass (header_tests s) (limit_tests h ++ head_length_tests h s) (header_numbered s) e in
      let last = others_pass (limit_tests h) (head_length_tests h s) tt more in
      eqb→eq (length s) (inputs_at h) (and_left (eqb (length s) (inputs_at h)) true (all_hold 4 (head_length_tests h s) tt last))

  permitted : Permitted (header_of s)
  unfolding limit_tests numbered holding
  permitted =
      let h = header_of s in
      let R = header_read s refl (front_passes (header_tests s) (limit_tests h) (header_numbered s) counted_pass) in
      let more = others_pass (header_tests s) (limit_tests h) (header_numbered s) counted_pass in
      record { field = R.field; people = R.people; counts = and_left (limits h) true (all_hold 4 (limit_tests h) tt more) }

  abbrev count : ℕ
  count = 4 * ((header_of s).n * row_count (header_of s))

  abbrev zeros : List ℕ
  zeros = replicate count 0

  front : take (inputs_at (header_of s)) (filled s) ≡ s
  unfolding filled
  front = take_at s zeros (inputs_at (header_of s)) long

  filled_header : header_of (filled s) ≡ header_of s
  filled_header = sym (head_header s (filled s) (take_all (inputs_at (header_of s)) s (omega (arith, long)) ∙ sym front))

  filled_head : head_in (filled s) ≡ s
  unfolding head_in
  filled_head = rw filled_header front

  filled_length : length (filled s) ≡ implied_length (header_of s)
  unfolding filled
  filled_length = rw (length-append, length-replicate, long) (omega (arith, implied (header_of s)))

  filled_zeros : (i : ℕ) → inputs_at (header_of s) ≤ i → get_or (filled s) i 0 ≡ 0
  unfolding filled
  filled_zeros i k =
      let j = i - length s in
      let q : i ≡ length s + j = omega (arith, long) in
      rw q (get_or-append-add s zeros j 0 ∙ all_same count j 0)

  filled_rows : first_failed (row_tests (setting_of (header_of s)) (input_in (header_of s) (filled s)) (deal_in (header_of s) (filled s))) ≡ 0
  filled_rows = rows_pass (header_of s) (filled s) permitted filled_zeros

  filled_right : RightSheet (filled s)
  filled_right _ = rw filled_header (filled_length, filled_rows)

  filled_passes : sheet_number (everyone (header_of (filled s)).n) (filled s) ≡ 0
  filled_passes = sym (same_number (filled s) filled_right) ∙ ap (λ (x : List ℕ). first_failed (head_tests x)) filled_head ∙ e

  filled_number : sheet_number (everyone (header_of s).n) (filled s) ≡ 0
  filled_number = rw filled_header at filled_passes

foreseen_ends : (s : List ℕ) → forecast s ≡ record { number = (foreseen s).number; place = (foreseen s).place }
unfolding forecast
foreseen_ends s = refl

-- what is refused
head_refused : (s : List ℕ) {n : ℕ} → n ≢ 0 → n ≡ first_failed (head_tests s) → forecast s ≡ record { number = n; place = 0 }
unfolding forecast foreseen
head_refused s {n} z e =
    rw e (ap (λ (e : Foreseen). record { number = e.number; place = e.place }) (given_refused (first_failed (head_tests s)) _ _ (λ q. z (e ∙ q))))

header_first : (s : List ℕ) → first_failed (header_tests s) ≢ 0 → forecast s ≡ record { number = first_failed (header_tests s); place = 0 }
unfolding head_tests
header_first s z = head_refused s z (first_decide (header_tests s) _ refl z)

-- the limits, and the length after them: both answer 4
fours : (b : Bool) (xs : List (Bool × ℕ)) → 4 ≡ first_failed xs → 4 ≡ first_failed ((b, 4) ∷ xs)
fours true xs k = passes 4 xs refl k
fours false xs k = fails 4 xs refl

limits_next : (s : List ℕ) → first_failed (header_tests s) ≡ 0 → first_failed (limit_tests (header_of s)) ≢ 0 → forecast s ≡ record { number = 4; place = 0 }
unfolding head_tests limit_tests
limits_next s e z =
    let h = header_of s in
    head_refused s (λ q. omega arith) (others_decide (header_tests s) _ (header_numbered s) (sym e) refl (go (limits h) z _))
  where
    go : (b : Bool) → first_failed ((b, 4) ∷ []) ≢ 0 → (xs : List (Bool × ℕ)) → 4 ≡ first_failed ((b, 4) ∷ xs)
    go true z xs = absurd (z (sym (passes 4 [] refl nothing_left)))
    go false z xs = fails 4 xs refl

other_length : (s : List ℕ) → first_failed (header_tests s) ≡ 0 → length s ≢ inputs_at (header_of s) → forecast s ≡ record { number = 4; place = 0 }
unfolding head_tests head_length_tests limit_tests
other_length s e z =
    let h = header_of s in
    head_refused s (λ q. omega arith)
    (others_decide (header_tests s) _ (header_numbered s) (sym e) refl (fours (limits h) _ (fails 4 [] (ne_eqb (length s) (inputs_at h) z))))

whole_sheet : (s : List ℕ) → first_failed (shape_tests s) ≡ 0 → 0 < row_count (header_of s) → forecast s ≡ record { number = 4; place = 0 }
unfolding shape_tests
whole_sheet s w k =
    let e = front_passes (header_tests s) _ (header_numbered s) w in
    let P = (header_read s refl e).people in
    let rows : 1 ≤ (header_of s).n * row_count (header_of s) = mul-le-mul {n₁ = 1} {m₁ = 1} (omega arith) (omega arith) in
    other_length s e (λ q. omega (arith, shaped_length s w))

script_next : (s : List ℕ) (number place : ℕ) → GoodHead s → sheet_script s ≡ refused number place → forecast s ≡ record { number = number; place = place }
unfolding forecast foreseen script_foreseen
script_next s number place G q = rw (good_head s G, q) refl

head_most : (s : List ℕ) → first_failed (head_tests s) ≢ 0 → From 1 4 (first_failed (head_tests s))
unfolding field_tests setting_tests header_tests limit_tests head_length_tests head_tests
head_most s =
    failed_in (λ k. (k ≢ 0) → From 1 4 k) (λ z. absurd (z refl))
    (one (λ _. omega arith) (one (λ _. omega arith) (one (λ _. omega arith) (one (λ _. omega arith) (one (λ _. omega arith) none)))))

-- the number of a run that 1 to 8 do not refuse, with buffers that it does not outgrow
run_number : (s log revealed : List ℕ) → sheet_number (everyone (header_of s).n) s ≡ 0 → record_length ≤ length log → revealed_length ≤ length revealed
    → OfForecast (run (everyone (header_of s).n) s log revealed).number
run_number s log revealed e l k = go (sheet_script s) refl
  where
    late : {n : ℕ} → (n ≢ 25) × (n ≢ 26) → (n ≡ 0) ⊎ From 21 26 n → OfForecast n
    late o (inl z) = inl z
    late {n} o (inr h) = choose (dec_le n 24) (dec_le n 25)
      where
        choose : Dec (n ≤ 24) → Dec (n ≤ 25) → OfForecast n
        choose (yes a) b = inr (inr (inr (omega arith)))
        choose (no a) (yes b) = absurd (o.0 (omega arith))
        choose (no a) (no b) = absurd (o.1 (omega arith))

    go : (x : Script) → sheet_script s ≡ x → OfForecast (run (everyone (header_of s).n) s log revealed).number
    go (refused c i) q = let r = (numbers.of_run (everyone (header_of s).n) s log revealed).script c i e q in inr (inr (inl (omega (arith, r.0, r.2))))
    go (accepted xs end) q =
        late (no_run_outgrows (everyone (header_of s).n) s log revealed l k)
        ((numbers.of_run (everyone (header_of s).n) s log revealed).state.1 (record { lines = xs; end = end; number = e; script = q }))

-- the sheet that is filled up from a head is such a sheet
module _ (s log revealed : List ℕ) (e : first_failed (head_tests s) ≡ 0) (l : record_length ≤ length log) (k : revealed_length ≤ length revealed) where
  own_run : forecast s ≡ end_of (run (everyone (header_of (filled s)).n) (filled s) log revealed)
  own_run = ap forecast (sym (filled_head s e)) ∙ as_run (filled s) log revealed (filled_right s e) l k

  as_filled : forecast s ≡ end_of (run (everyone (header_of s).n) (filled s) log revealed)
  as_filled = own_run ∙ ap (λ (h : Header). end_of (run (everyone h.n) (filled s) log revealed)) (filled_header s e)

  own_number : OfForecast (forecast s).number
  own_number = subst (λ (x : Forecast). OfForecast x.number) (sym own_run) (run_number (filled s) log revealed (filled_passes s e) l k)

of_forecast : (s : List ℕ) → OfForecast (forecast s).number
of_forecast s = go (first_failed (head_tests s)) refl
  where
    go : (n : ℕ) → first_failed (head_tests s) ≡ n → OfForecast (forecast s).number
    go zero e = own_number s (replicate record_length 0) (replicate revealed_length 0) e (rw length-replicate (omega arith)) (rw length-replicate (omega arith))
    go (suc n) e =
        let z : first_failed (head_tests s) ≢ 0 = λ q. omega arith in
        rw (head_refused s z refl) (inr (inl (head_most s z)))

pub forecasts : Forecasts
forecasts =
    record {
      as_run = as_run;
      as_run_with = λ present s log revealed Q R l k. as_run_with s log revealed R l k present Q;
      spent_as_run = spent_as_run;
      foreseen_ends = foreseen_ends;
      header_first = header_first;
      limits_next = limits_next;
      other_length = other_length;
      whole_sheet = whole_sheet;
      script_next = script_next;
      has_sheet = λ s G. let e = good_head s G in (filled_head s e, filled_header s e, filled_right s e, filled_number s e);
      as_filled = λ s log revealed G l k. as_filled s log revealed (good_head s G) l k;
      numbers = of_forecast;
    }
