-- What `find` answers, by the tests of header, length and output; and what the entries leave by it.
-- Assumes nothing.
use mathlib.Core.Path.{◌≡◌, sym, ap, ◌∙◌}
use mathlib.Core.Bool.{Bool, true, false}
use mathlib.Core.List.{List, [], ◌++◌, append_assoc}
use Prim.Native.Nat.{ℕ, ◌+◌, ◌*◌, ◌≤◌, ◌<◌}
use native.Mathlib.Omega.{arith}
use borrow.Author.Tests.{le-leb, lt-leb}
use lib.Dec.{eqb}
use lib.ListN.{length}
use Rattle.algebra.specs.Lists.{onto}
use Rattle.model.specs.Refusing.{first_failed}
use Rattle.model.specs.Sheet.{header_of, implied_length, header_tests, limit_tests, length_tests}
use Rattle.model.specs.Columns.{shape_tests, output_tests, turn_tests, turn_number, output_left}
use Rattle.model.proofs.Trying.{given_done, given_refused, passes, fails, nothing_left}
use Rattle.refusals.specs.Numbers.{number_of}
use Rattle.refusals.specs.declared.Refusal.{Refusal}
use Rattle.sheet.specs.Framed.{Headed, Whole}
use Rattle.sheet.proofs.Headers.{row_count, end_most}
use Rattle.sheet.proofs.Answers.{header, header_tests_numbered, refused_first, passed_first}
use Rattle.sheet.specs.declared.frame.Frame.{Frame}
use Rattle.column_form.specs.Laid.{LaidOut}
use Rattle.column_form.specs.declared.layout.Layout.{Layout}

-- where the shares of a frame stand
pub stands_in : (s : List ℕ) {f : Frame} {room : ℕ} {r : Layout} → Headed (header_of s) f → Whole s f → length s ≤ room → r.place ≡ f.input
    → r.rows ≡ f.inputs + f.l * f.masks + 3 * f.triples → r.parties ≡ f.n → LaidOut s room r
stands_in s {f} {room} H W h place rows parties =
    record {
      place = place ∙ H.inputs_place ∙ rw H.script_is;
      rows = rows ∙ rw (H.inputs_is, H.l_is, H.masks_is, H.triples_is) (omega arith);
      parties = parties ∙ H.n_is;
      whole = W ∙ rw (place, rows, parties, H.triples_place, H.masks_place) (omega arith);
      fits = h;
      most = rw W (end_most H);
      most_rows = rw rows (row_count H);
      most_parties = rw parties H.parties.most;
    }

-- all tests: those of the header, and then of the lengths
module _ (s : List ℕ) (room : ℕ) where
  abbrev lengths : List (Bool × ℕ)
  lengths = length_tests (header_of s) s ++ output_tests s room

  all_tests : turn_tests s room ≡ header s ++ lengths
  unfolding shape_tests turn_tests
  all_tests =
      let h = header_of s in
      ap (λ (x : List (Bool × ℕ)). x ++ output_tests s room) (sym (append_assoc (header_tests s) (limit_tests h) (length_tests h s)))
      ∙ append_assoc (header s) (length_tests h s) (output_tests s room)

  pub header_refuses : (r : Refusal) → number_of r ≡ first_failed (header s) → number_of r ≡ first_failed (turn_tests s room)
  header_refuses r e = rw all_tests (refused_first (header s) lengths r e)

  -- 4 for the length, then 15
  module _ (e : 0 ≡ first_failed (header s)) where
    pub lengths_decide : {n : ℕ} → n ≡ first_failed lengths → n ≡ first_failed (turn_tests s room)
    lengths_decide k = rw all_tests (passed_first (header s) lengths (header_tests_numbered s) e k)

    pub length_wrong : false ≡ eqb (length s) (implied_length (header_of s)) → 4 ≡ first_failed (turn_tests s room)
    length_wrong q = lengths_decide (unfold length_tests in fails 4 _ (sym q))

    module _ (q : true ≡ eqb (length s) (implied_length (header_of s))) where
      pub too_short : room < length s → 15 ≡ first_failed (turn_tests s room)
      too_short h = lengths_decide (unfold length_tests output_tests in passes 4 _ (sym q) (fails 15 [] (lt-leb (length s) room h)))

      pub long_enough : length s ≤ room → 0 ≡ first_failed (turn_tests s room)
      long_enough h = lengths_decide (unfold length_tests output_tests in passes 4 _ (sym q) (passes 15 [] (le-leb (length s) room h) nothing_left))

-- what is left in the output: the form that was made, or what was there
module _ (s out : List ℕ) (form : List ℕ → List ℕ) where
  pub form_left : 0 ≡ turn_number s out → {left : List ℕ} → left ≡ onto (form s) out → left ≡ output_left form s out
  unfolding output_left
  form_left z e = e ∙ sym (given_done (turn_number s out) _ out (sym z))

  pub left_alone : 0 < turn_number s out → out ≡ output_left form s out
  unfolding output_left
  left_alone h = sym (given_refused (turn_number s out) (onto (form s) out) out (λ z. omega arith))
