-- A header and script: the tests of their header and length, and the script that they have.
-- Assumes nothing.
use mathlib.Core.Path.{◌≡◌, refl, sym, ap, ◌∙◌}
use mathlib.Core.Logic.{◌≢◌}
use mathlib.Core.Bool.{Bool}
use mathlib.Core.List.{List, ◌++◌, append_assoc}
use Prim.Native.Nat.{ℕ, ◌≤◌}
use native.Mathlib.Omega.{arith}
use borrow.Author.Tests.{eq-eqb, ne_eqb}
use lib.ListN.{length}
use Rattle.refusals.specs.declared.Refusal.{Refusal}
use Rattle.refusals.specs.declared.Refused.{Refused}
use Rattle.refusals.specs.Numbers.{number_of, told}
use Rattle.refusals.proofs.Numbers.{numbered}
use Rattle.model.specs.Refusing.{first_failed}
use Rattle.model.specs.Script.{Script, accepted, refused, script_of}
use Rattle.model.specs.Sheet.{Header, header_of, inputs_at, header_tests, limit_tests}
use Rattle.model.specs.Forecast as Paper
use Rattle.model.specs.Forecast.{head_length_tests, head_tests, script_foreseen, nothing_foreseen, foreseen, forecast}
use Rattle.model.proofs.Trying.{given_refused, first_decide, others_decide}
use Rattle.model.proofs.Lengths.{header_field}
use Rattle.sheet.specs.declared.frame.Frame.{Frame}
use Rattle.sheet.specs.Framed.{Headed}
use Rattle.sheet.proofs.Answers.{header_tests_numbered}
use Rattle.sheet.proofs.Scripts.{script_part, script_read}
use Rattle.script.specs.Meaning.{script_number, script_place}
use Rattle.costs.specs.declared.counts.Counts.{Counts}
use Rattle.costs.specs.Costing.{Supplied, supply_in}
use Rattle.forecasting.specs.declared.lines.Foreseen.{Foreseen}
use Rattle.forecasting.specs.Forecasting.{foreseen_of, Foresees, by_length}

-- a script that 9 to 11 refuse
pub script_refused : (f : Frame) (script : List ℕ) (supply : Counts) (e : Refused) (r : Foreseen Refusal) → number_of e.refusal ≡ script_number (script_of f.p f.largest script)
    → e.place ≡ script_place (script_of f.p f.largest script) → foreseen_of r ≡ nothing_foreseen (number_of e.refusal) e.place → Foresees f script supply r
unfolding script_foreseen
script_refused f script supply e r a b q u U = q ∙ go (script_of f.p f.largest script) a b
  where
    go : (x : Script) → number_of e.refusal ≡ script_number x → e.place ≡ script_place x → nothing_foreseen (number_of e.refusal) e.place ≡ script_foreseen f.l u x
    go (accepted xs end) a b = absurd (omega (arith, numbered e.refusal, a))
    go (refused n i) a b = rw (a, b) refl

module _ (s : List ℕ) {f : Frame} (H : Headed (header_of s) f) where
  abbrev h : Header
  h = header_of s

  pub bounds : (f.l ≤ 31) × (f.largest ≤ 30)
  bounds = let F = header_field h H.in_use in rw (H.l_is, H.k_is) (omega (arith, F.k_most, F.k_is), omega (arith, F.k_most))

  pub right_length : {supply : Counts} (r : Foreseen Refusal) → length s ≡ f.input → Supplied (supply_in f 10850 511) supply
      → Foresees f (script_part s f) supply r → foreseen_of r ≡ by_length s
  unfolding head_length_tests first_failed
  right_length r e U R =
      let q = R (supply_in f 10850 511) U in
      let l : length s ≡ inputs_at h = omega (arith, e, H.inputs_place, H.script_is) in
      rw (eq-eqb (length s) (inputs_at h) l) (q ∙ rw (script_read s H, H.l_is, H.inputs_is, H.masks_is, H.triples_is, H.n_is) refl)

  pub other_length : (r : Foreseen Refusal) → length s ≢ f.input → foreseen_of r ≡ nothing_foreseen 4 0 → foreseen_of r ≡ by_length s
  unfolding head_length_tests first_failed
  other_length r z q =
      let l : length s ≢ inputs_at h = λ e. z (omega (arith, e, H.inputs_place, H.script_is)) in
      rw (ne_eqb (length s) (inputs_at h) l) q

in_order : (s : List ℕ) → head_tests s ≡ (header_tests s ++ limit_tests (header_of s)) ++ head_length_tests (header_of s) s
unfolding head_tests
in_order s = sym (append_assoc (header_tests s) (limit_tests (header_of s)) (head_length_tests (header_of s) s))

module _ (s : List ℕ) where
  abbrev tests : List (Bool × ℕ)
  tests = header_tests s ++ limit_tests (header_of s)

  pub header_passes : {a : Paper.Foreseen} → 0 ≡ first_failed tests → a ≡ by_length s → a ≡ foreseen s
  unfolding foreseen
  header_passes e q =
      let n = others_decide tests (head_length_tests (header_of s) s) (header_tests_numbered s) e refl refl in
      q ∙ rw (in_order s, ← n) refl

  pub header_refused : (r : Refusal) {a : Paper.Foreseen} → number_of r ≡ first_failed tests → a ≡ nothing_foreseen (number_of r) 0 → a ≡ foreseen s
  unfolding foreseen
  header_refused r e q =
      let z : number_of r ≢ 0 = λ e. omega (arith, numbered r) in
      let n = first_decide tests (head_length_tests (header_of s) s) e z in
      q ∙ rw (in_order s, ← n) (sym (given_refused (number_of r) _ _ z))

-- number and place of what is foreseen
pub answer_is : (s : List ℕ) (r : Foreseen Refusal) {number : ℕ} → foreseen_of r ≡ foreseen s → told r.ended ≡ number → record { number = number; place = r.place } ≡ forecast s
unfolding forecast
answer_is s r e q = rw (← q) (ap (λ (x : Paper.Foreseen). record { number = x.number; place = x.place }) e)
