-- check_script, turn by turn: number and place of the script are those from the loop's place on, and what is answered where it returns.
-- Assumes nothing.
use Rattle.std.specs.Prelude.{Option, Some, None, Result, Ok, Err}
use mathlib.Core.Path.{◌≡◌, refl, sym, ap, ◌∙◌}
use mathlib.Core.List.{List}
use Prim.Native.Nat.{ℕ, ◌-◌, ◌<◌}
use lib.ListN.{length}
use Rattle.refusals.specs.declared.Refused.{Refused}
use Rattle.refusals.specs.Numbers.{number_of}
use Rattle.model.specs.Script.{Script, accepted, refused, says, reading_at, with_line, script_of}
use Rattle.model.specs.Script as Paper
use Rattle.model.proofs.WholeScript.{from, at_reading, from_next, nearer}
use Rattle.script.specs.declared.command.Line.{Line}
use Rattle.script.specs.Meaning.{meant, standing, stops, standing_of, script_number, script_place}
use Rattle.script.proofs.Decoding.{goes_on, stops_there}

-- number and place of two scripts are the same
pub record Alike (x y : Script) : Type 0 where
  pub number : script_number x ≡ script_number y
  pub place : script_place x ≡ script_place y

after_line : (l : Paper.Line) (x : Script) {y : Script} → Alike (with_line l x) y → Alike x y
after_line l (accepted xs end) A = record { number = A.number; place = A.place }
after_line l (refused number place) A = record { number = A.number; place = A.place }

module _ (p K : ℕ) (s : List ℕ) where
  abbrev pub From : ℕ → Type 0
  From i = Alike (from p K s i) (script_of p K s)

  abbrev Answers : ℕ → ℕ → Type 0
  Answers number place = (number ≡ script_number (script_of p K s)) × (place ≡ script_place (script_of p K s))

  pub from_start : From 0
  unfolding script_of
  from_start = record { number = refl; place = refl }

  module _ (i : ℕ) (W : From i) where
    -- by what the decoder answers
    pub at_stop : {number place : ℕ} → stops number place ≡ standing (reading_at p K s i) (length s) i → Answers number place
    at_stop f =
        let z = stops_there (reading_at p K s i) (length s) i _ f in
        let w = at_reading p K s i refl in
        (z.0 ∙ sym (ap script_number w) ∙ W.number, z.1 ∙ sym (ap script_place w) ∙ W.place)

    pub at_refusal : {d : Result (Option Line) Refused} → standing_of i d ≡ standing (reading_at p K s i) (length s) i → {r : Refused} → d ≡ Err r
        → Answers (number_of r.refusal) r.place
    at_refusal e f = at_stop (sym (ap (standing_of i) f) ∙ e)

    module _ {d : Option Line} (e : standing_of i (Ok d) ≡ standing (reading_at p K s i) (length s) i) where
      pub at_end : d ≡ None → Answers 0 i
      at_end f = at_stop (rw f at e)

      module _ {line : Line} (f : d ≡ Some line) where
        here : reading_at p K s i ≡ says (meant line.command) line.next
        here = goes_on (reading_at p K s i) (length s) i (rw f at e)

        pub closer : length s - line.next < length s - i
        closer = nearer p K s i here

        pub go_on : From line.next
        go_on = after_line _ _ (rw (from_next p K s i here) at W)
