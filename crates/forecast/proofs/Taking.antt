-- What is taken of an input, by its header and length.
-- Assumes nothing.
use mathlib.Core.Path.{◌≡◌, refl, sym, ap, ◌∙◌}
use mathlib.Core.Logic.{◌≢◌}
use mathlib.Core.Bool.{Bool, true, false}
use mathlib.Core.List.{List, [], ◌++◌, append_assoc}
use Prim.Native.Nat.{ℕ}
use native.Mathlib.Omega.{arith}
use lib.Dec.{eqb}
use lib.ListN.{length, take}
use lib.Seq.{take-length, length-take-le}
use Rattle.refusals.specs.declared.Refusal.{Refusal}
use Rattle.refusals.specs.Numbers.{number_of}
use Rattle.refusals.proofs.Numbers.{numbered}
use Rattle.model.specs.Refusing.{first_failed}
use Rattle.model.specs.Sheet.{header_of, inputs_at, implied_length, header_tests, limit_tests, length_tests}
use Rattle.model.specs.Columns.{shape_tests}
use Rattle.model.specs.Forecast.{head_in, Foreseen, foreseen}
use Rattle.model.proofs.Trying.{given_refused, passes, fails, nothing_left, first_decide, others_decide, told}
use Rattle.sheet.specs.declared.frame.Frame.{Frame}
use Rattle.sheet.specs.Framed.{Headed}
use Rattle.sheet.proofs.Answers.{whole, header_tests_numbered}
use Rattle.forecast.specs.Taken.{taken, taken_by, Cut}

all_of : (s : List ℕ) {n : ℕ} → n ≡ length s → Cut s s n
all_of s e = rw e (record { within = omega arith; is = take-length s })

module _ (s : List ℕ) {f : Frame} (H : Headed (header_of s) f) {a : Bool} (q : a ≡ eqb (length s) (implied_length (header_of s))) where
  pub whole_sheet : a ≡ true → Cut s (taken_by s) f.input
  unfolding taken_by length_tests head_in
  whole_sheet t =
      let n = passes 4 [] (told q t) nothing_left in
      let W = whole s H q t in
      let e : f.input ≡ inputs_at (header_of s) = H.inputs_place ∙ rw H.script_is in
      rw (← n, ← e) (record { within = omega (arith, W, H.masks_place, H.triples_place); is = refl })

  pub other_input : a ≡ false → {n : ℕ} → n ≡ length s → Cut s (taken_by s) n
  unfolding taken_by length_tests
  other_input t e = rw (← fails 4 [] (told q t)) (all_of s e)

in_order : (s : List ℕ) → shape_tests s ≡ (header_tests s ++ limit_tests (header_of s)) ++ length_tests (header_of s) s
unfolding shape_tests
in_order s = sym (append_assoc (header_tests s) (limit_tests (header_of s)) (length_tests (header_of s) s))

pub header_passes : (s : List ℕ) {n : ℕ} → 0 ≡ first_failed (header_tests s ++ limit_tests (header_of s)) → Cut s (taken_by s) n → Cut s (taken s) n
unfolding taken taken_by
header_passes s e C =
    let n = others_decide (header_tests s ++ limit_tests (header_of s)) (length_tests (header_of s) s) (header_tests_numbered s) e refl refl in
    rw (in_order s, ← n) C

pub header_refused : (s : List ℕ) (r : Refusal) {n : ℕ} → number_of r ≡ first_failed (header_tests s ++ limit_tests (header_of s)) → n ≡ length s → Cut s (taken s) n
unfolding taken
header_refused s r e q =
    let z : number_of r ≢ 0 = λ q. omega (arith, numbered r, q) in
    let n = first_decide (header_tests s ++ limit_tests (header_of s)) (length_tests (header_of s) s) e z in
    rw (in_order s, ← n, given_refused (number_of r) (head_in s) s z) (all_of s q)

-- as many bytes as are taken
pub part_length : (s : List ℕ) {part : List ℕ} {n : ℕ} → Cut s part n → n ≡ length (take n s)
part_length s {n = n} C = sym (length-take-le n s C.within)

-- what is foreseen of the bytes that are taken
pub of_part : (s : List ℕ) {part : List ℕ} {n : ℕ} {a : Foreseen} → Cut s part n → a ≡ foreseen (take n s) → a ≡ foreseen part
of_part s C e = e ∙ ap foreseen C.is
