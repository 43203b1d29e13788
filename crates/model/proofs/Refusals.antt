-- Which numbers refuse an input: by the tests of the sheet, of the script's places, and of the commands.
-- Assumes nothing.
use mathlib.Core.Path.{◌≡◌, refl, sym, ap, subst, ◌∙◌}
use mathlib.Core.Logic.{◌↔◌, ◌≢◌, ◌⊎◌, inl, inr, ⊎_elim}
use mathlib.Core.List.{List, [], ◌∷◌}
use Prim.Native.Nat.{ℕ, zero, suc}
use native.Mathlib.Omega.{arith}
use lib.Dec.{T, leb, eqb, leb→le, le→leb, eqb→eq}
use lib.ListN.{length}
use Rattle.algebra.specs.Lists.{onto, none, one}
use Rattle.algebra.proofs.Tests.{or_either, or_right}
use Rattle.model.specs.Fields.{field_tests, setting_tests}
use Rattle.model.specs.Steps.{Setting, Row}
use Rattle.model.specs.Script.{Line, Script, accepted, refused, script_of}
use Rattle.model.specs.Refusing.{given}
use Rattle.model.specs.Costs.{Cost, cost}
use Rattle.model.specs.Sheet.{header_of, header_tests, present_tests, limit_tests, length_tests, row_tests, sheet_tests, sheet_number, setting_with}
use Rattle.model.specs.Run.{Spent, State, Supply, Stop, check, finish, run_lines, nothing_spent, start, outcome, refused_input, written, run_script, sheet_script, stop_of, run}
use Rattle.model.specs.Exactness.{Accepted}
use Rattle.model.specs.Refusals.{is_run, From, OfSheet, Numbered, Numbers, Untouched, NothingRun}
use Rattle.model.proofs.Trying.{failed_in}
use Rattle.model.proofs.StepLaws.{run_end, run_line}
use Rattle.model.proofs.Readings.{every_script}

-- 1 to 8, 12, or 0
of_sheet : (present : ℕ) (s : List ℕ) → (sheet_number present s ≢ 0) → OfSheet (sheet_number present s)
unfolding sheet_tests header_tests field_tests setting_tests present_tests limit_tests length_tests row_tests
of_sheet present s =
    failed_in (λ k. (k ≢ 0) → OfSheet k) (λ z. absurd (z refl))
    (one (low 1 (omega arith)) (one (low 2 (omega arith)) (one (low 3 (omega arith)) (one (λ _. inr refl) (one (low 4 (omega arith)) (one (low 4 (omega arith))
    (one (low 5 (omega arith)) (one (low 6 (omega arith)) (one (low 7 (omega arith)) (one (low 8 (omega arith)) none))))))))))
  where
    low : (k : ℕ) → From 1 8 k → (k ≢ 0) → OfSheet k
    low k h _ = inl h

-- a script is refused with 9 to 11
abbrev Late : Script → Type 0
Late (accepted xs end) = Unit {0}
Late (refused number place) = From 9 11 number

pub script_late : (p K : ℕ) (s : List ℕ) {number place : ℕ} → script_of p K s ≡ refused number place → From 9 11 number
unfolding script_of
script_late p K s e =
    subst Late e
    (every_script p K s (λ i. Late) (record { ended = λ i S. tt; line = λ i next c S xs end k. tt; refuses = λ i number place h. h }) (suc (length s)) 0)

-- The lines of a script stop with 0, or with 21 to 26.
abbrev OfState : ℕ → Type 0
OfState number = (number ≢ 0) → From 21 26 number

checked : (u : Supply) (c : Cost) (s : Spent) → OfState (check u c s)
unfolding check
checked u c s =
    failed_in OfState (λ z. absurd (z refl))
    (one (λ _. omega arith) (one (λ _. omega arith) (one (λ _. omega arith) (one (λ _. omega arith) (one (λ _. omega arith) (one (λ _. omega arith) none))))))

-- what holds of the number of a stop: of the rest's where the number is 0, else of a refusal's
pub either : (P : ℕ → Type 0) (number : ℕ) (x y : Stop) → (number ≡ 0 → P x.number) → P y.number → P (given number x y).number
either P zero x y h k = h refl
either P (suc number) x y h k = k

lines : (S : Setting) (u : Supply) (input : List Row) (end : ℕ) (xs : List Line) (s : State) → OfState (run_lines S u input end xs s).number
lines S u input end [] s = rw (run_end S u input end s) (λ k. absurd (k refl))
lines S u input end (x ∷ xs) s =
    rw (run_line S u input end x xs s)
    (either OfState (check u (cost S x.command) s.spent) _ _ (λ _. lines S u input end xs (finish S input x.command s)) (checked u _ _))

-- How a sheet's stop comes about.
data Way (present : ℕ) (s : List ℕ) (x : Stop) : Type 0 where
  by_sheet : sheet_number present s ≢ 0 → x ≡ refused_input (sheet_number present s) 0 → Way present s x
  by_script : {number place : ℕ} → sheet_number present s ≡ 0 → sheet_script s ≡ refused number place → x ≡ refused_input number place → Way present s x
  by_run : Accepted present s → OfState x.number → Way present s x

way : (present : ℕ) (s : List ℕ) (log shown : ℕ) → Way present s (stop_of present s log shown)
unfolding stop_of run_script
way present s log shown = go (sheet_number present s) refl
  where
    script : sheet_number present s ≡ 0 → (x : Script) → sheet_script s ≡ x → Way present s (run_script present (header_of s) s log shown x)
    script e (refused number place) q = by_script e q refl
    script e (accepted xs end) q = by_run (record { lines = xs; end = end; number = e; script = q }) (lines _ _ _ end xs _)

    go : (n : ℕ) → sheet_number present s ≡ n → Way present s (given n (run_script present (header_of s) s log shown (sheet_script s)) (refused_input n 0))
    go zero e = script e (sheet_script s) refl
    go (suc n) e = by_sheet (λ z. omega arith) (rw e)

-- a script is not both refused and accepted
not_late : {present : ℕ} {s : List ℕ} {number place : ℕ} → sheet_script s ≡ refused number place → Accepted present s → ⊥
not_late e a = apart (sym e ∙ a.script)
  where
    told_apart : Script → Type 0
    told_apart (accepted xs end) = ⊥
    told_apart (refused number place) = Unit {0}

    apart : {number place : ℕ} {xs : List Line} {end : ℕ} → refused number place ≡ accepted xs end → ⊥
    apart q = subst told_apart q tt

-- and it has one number and one place
same_refusal : {c i number place : ℕ} → refused c i ≡ refused number place → (c ≡ number) × (i ≡ place)
same_refusal {c} {i} e = (ap number_in e, ap place_in e)
  where
    number_in : Script → ℕ
    number_in (accepted xs end) = c
    number_in (refused number place) = number

    place_in : Script → ℕ
    place_in (accepted xs end) = i
    place_in (refused number place) = place

-- `is_run` tells the numbers of the one list from those of the other
refuses : (number : ℕ) → From 1 20 number → T (is_run number) → ⊥
unfolding is_run
refuses number h t =
    ⊎_elim (λ a. omega (arith, eqb→eq number 0 a)) (λ a. omega (arith, leb→le 21 number a)) (or_either (eqb number 0) (leb 21 number) t)

runs : (number : ℕ) → OfState number → T (is_run number)
unfolding is_run
runs zero h = tt
runs (suc number) h = or_right (eqb (suc number) 0) (leb 21 (suc number)) (le→leb 21 (suc number) (h (λ e. omega arith)).0)

zero_or : (number : ℕ) → OfState number → (number ≡ 0) ⊎ From 21 26 number
zero_or zero h = inl refl
zero_or (suc number) h = inr (h (λ e. omega arith))

sheet_input : {number : ℕ} → OfSheet number → From 1 12 number
sheet_input = ⊎_elim (λ h. omega arith) (λ e. omega arith)

-- of a sheet that is not accepted, and of one that is
of_input_lem : {present : ℕ} {s : List ℕ} {number place : ℕ} → (Accepted present s → ⊥) → From 1 12 number → OfSheet number ↔ (sheet_number present s ≢ 0)
    → (OfSheet number → (number ≡ sheet_number present s) × (place ≡ 0))
    → ((c i : ℕ) → sheet_number present s ≡ 0 → sheet_script s ≡ refused c i → (number ≡ c) × (place ≡ i) × From 9 11 c) → Numbered present s number place
of_input_lem fails h first at script =
    record {
      input = (λ _. fails, λ _. h);
      state = (λ z. absurd (⊎_elim (λ e. omega arith) (λ e. omega arith) z), λ a. absurd (fails a));
      is_run_lem = (λ t. absurd (refuses _ (omega arith) t), λ a. absurd (fails a));
      sheet_first = first;
      sheet_place_lem = at;
      script = script;
    }

of_state : {present : ℕ} {s : List ℕ} {number place : ℕ} → Accepted present s → OfState number → Numbered present s number place
of_state {number = number} a h =
    record {
      input = (λ z. absurd (both z (zero_or number h)), λ fails. absurd (fails a));
      state = (λ _. a, λ _. zero_or number h);
      is_run_lem = (λ _. a, λ _. runs number h);
      sheet_first = (λ z. absurd (both (sheet_input z) (zero_or number h)), λ fails. absurd (fails a.number));
      sheet_place_lem = λ z. absurd (both (sheet_input z) (zero_or number h));
      script = λ c i z q. absurd (not_late q a);
    }
  where
    both : From 1 12 number → (number ≡ 0) ⊎ From 21 26 number → ⊥
    both z = ⊎_elim (λ e. omega arith) (λ e. omega arith)

numbered : (present : ℕ) (s : List ℕ) (x : Stop) → Way present s x → Numbered present s x.number x.place
numbered present s x (by_sheet fails e) =
    let n : x.number ≡ sheet_number present s = ap (λ (x : Stop). x.number) e in
    let h : OfSheet x.number = rw n (of_sheet present s fails) in
    of_input_lem (λ a. fails a.number) (sheet_input h) (λ _. fails, λ _. h) (λ _. (n, ap (λ (x : Stop). x.place) e))
    (λ c i z q. absurd (fails z))
numbered present s x (by_script z q e) =
    let n = ap (λ (x : Stop). x.number) e in
    let h = script_late _ _ _ q in
    let late : OfSheet x.number → ⊥ = ⊎_elim (λ l. omega arith) (λ l. omega arith) in
    of_input_lem (not_late q) (omega arith) (λ l. absurd (late l), λ fails. absurd (fails z)) (λ l. absurd (late l))
    (λ c i z' q'.
    let r = same_refusal (sym q ∙ q') in
    (n ∙ r.0, ap (λ (x : Stop). x.place) e ∙ r.1, script_late _ _ _ q'))
numbered present s x (by_run a h) = of_state a h

pub numbers : Numbers
unfolding run outcome
numbers =
    record {
      of_stop = λ present s log shown. numbered present s _ (way present s log shown);
      of_run = λ present s log revealed. numbered present s _ (way present s (length log) (length revealed));
    }

-- what a refused input leaves
kept : (S : Setting) (log revealed : List ℕ) (number place : ℕ) → Untouched log revealed (outcome S log revealed (refused_input number place))
unfolding outcome written start nothing_spent onto
kept S log revealed number place =
    record {
      log_kept = refl;
      revealed_kept = refl;
      unset = refl;
      cells = refl;
      counts = refl;
    }

untouched : (S : Setting) (present : ℕ) (log revealed s : List ℕ) (x : Stop) → (Accepted present s → ⊥) → Way present s x → Untouched log revealed (outcome S log revealed x)
untouched S present log revealed s x fails (by_sheet k e) = rw e (kept S log revealed _ _)
untouched S present log revealed s x fails (by_script z q e) = rw e (kept S log revealed _ _)
untouched S present log revealed s x fails (by_run a h) = absurd (fails a)

pub nothing_run : NothingRun
unfolding run
nothing_run present s log revealed fails =
    untouched (setting_with present (header_of s)) present log revealed s _ fails (way present s (length log) (length revealed))
