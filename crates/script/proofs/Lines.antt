-- A script that is accepted, from a place on: where it ends, no line is left, and at a command its line comes first.
-- Assumes nothing.
use Rattle.std.specs.Prelude.{Option, Some, None, Result, Ok, Err}
use mathlib.Core.Path.{◌≡◌, refl, sym, ap, ◌∙◌}
use mathlib.Core.Bool.{Bool, true, false, cond}
use mathlib.Core.List.{List, [], ◌∷◌}
use Prim.Native.Nat.{ℕ, ◌+◌, ◌-◌, ◌<◌}
use native.Mathlib.Omega.{arith}
use lib.Dec.{T, eqb}
use lib.ListN.{length}
use Rattle.model.specs.Script as Paper
use Rattle.model.specs.Script.{Script, accepted, refused, Reading, ends, says, refusal, reading_at, with_line, script_step, in_ranges}
use Rattle.model.proofs.Readings.{read}
use Rattle.model.proofs.WholeScript.{from, at_reading, from_next, nearer}
use Rattle.refusals.specs.declared.Refused.{Refused}
use Rattle.refusals.proofs.Numbers.{numbered}
use Rattle.script.specs.declared.command.Line.{Line}
use Rattle.script.specs.Meaning.{meant, standing, goes, stops, standing_of, script_number}
use Rattle.script.proofs.Decoding.{goes_on, stops_there}

not_refused : {n i end : ℕ} {xs : List Paper.Line} → refused n i ≡ accepted xs end → ⊥
not_refused e = let z : ◌≡◌ {A = ℕ} 0 1 = cc in omega arith

lines_in : Script → List Paper.Line
lines_in (accepted xs end) = xs
lines_in (refused number place) = []

end_in : Script → ℕ
end_in (accepted xs end) = end
end_in (refused number place) = 0

-- a script that is accepted ends where no command stands, at END's offset
end_here : (b : Bool) (i next : ℕ) {end : ℕ} {xs : List Paper.Line} → cond b (accepted [] i) (refused 10 next) ≡ accepted xs end → (xs ≡ []) × (end ≡ i)
unfolding lines_in end_in
end_here true i next e = (sym (ap lines_in e), sym (ap end_in e))
end_here false i next e = absurd (not_refused e)

stop_here : (r : Reading) (n i : ℕ) (rest : Script) {number place end : ℕ} {xs : List Paper.Line} → stops number place ≡ standing r n i → script_step r n i rest ≡ accepted xs end
    → (xs ≡ []) × (end ≡ i)
stop_here (says c next) n i rest e q = absurd (goes_apart e)
  where
    goes_apart : {c : Paper.Command} {next number place : ℕ} → stops number place ≡ goes c next → ⊥
    goes_apart e = let z : ◌≡◌ {A = ℕ} 0 1 = cc in omega arith
stop_here (ends next) n i rest e q = end_here (eqb next n) i next q
stop_here (refusal number) n i rest e q = absurd (not_refused q)

line_here : (x : Paper.Line) (rest : Script) {end : ℕ} {xs : List Paper.Line} → with_line x rest ≡ accepted xs end → List Paper.Line
line_here x (accepted ys _) e = ys
line_here x (refused n i) e = absurd (not_refused e)

line_is : (x : Paper.Line) (rest : Script) {end : ℕ} {xs : List Paper.Line} (e : with_line x rest ≡ accepted xs end) → (xs ≡ x ∷ line_here x rest e) × (rest ≡ accepted (line_here x rest e) end)
unfolding lines_in end_in line_here
line_is x (accepted ys end') e = (sym (ap lines_in e), ap (accepted ys) (ap end_in e))
line_is x (refused n i) e = absurd (not_refused e)

-- where the decoder answers with a command
module _ (p K : ℕ) (s : List ℕ) (at : ℕ) {d : Result (Option Line) Refused} (e : standing_of at d ≡ standing (reading_at p K s at) (length s) at)
    {line : Line} (q : d ≡ Ok (Some line)) where
  here : reading_at p K s at ≡ says (meant line.command) line.next
  here = goes_on (reading_at p K s at) (length s) at (sym (ap (standing_of at) q) ∙ e)

  pub closer : length s - line.next < length s - at
  closer = nearer p K s at here

  pub in_range_lem : T (in_ranges p K (meant line.command))
  in_range_lem = (read p K s at (says (meant line.command) line.next) here).in_range_lem

-- the lines xs are left from a place on, by what the decoder answers there
module _ (p K : ℕ) (s : List ℕ) (at : ℕ) {xs : List Paper.Line} {end : ℕ} (left : from p K s at ≡ accepted xs end) where
  abbrev There : Result (Option Line) Refused → Type 0
  There d = standing_of at d ≡ standing (reading_at p K s at) (length s) at

  step : script_step (reading_at p K s at) (length s) at (from p K s (at + Paper.size_at s at)) ≡ accepted xs end
  step = sym (at_reading p K s at refl) ∙ left

  -- END: no line is left, and the place is END's
  pub at_end : There (Ok None) → (xs ≡ []) × (end ≡ at)
  at_end e = stop_here (reading_at p K s at) (length s) at _ e step

  -- nothing is refused there
  pub none_refused : (r : Refused) → There (Err r) → ⊥
  none_refused r e = omega (arith, (stops_there (reading_at p K s at) (length s) at _ e).0 ∙ ap script_number step, numbered r.refusal)

  -- so where no command stands, END does
  pub ends_here : {d : Result (Option Line) Refused} → There d → ((line : Line) → d ≡ Ok (Some line) → ⊥) → (xs ≡ []) × (end ≡ at)
  ends_here {d = Ok (Some line)} e never = absurd (never line refl)
  ends_here {d = Ok None} e never = at_end e
  ends_here {d = Err r} e never = absurd (none_refused r e)

  -- a command: its line comes first, and the others are left from the place after it on
  module _ {d : Result (Option Line) Refused} (e : There d) {line : Line} (q : d ≡ Ok (Some line)) where
    abbrev first : Paper.Line
    first = record { place = at; command = meant line.command }

    is_line_lem : with_line first (from p K s line.next) ≡ accepted xs end
    is_line_lem = sym (from_next p K s at (here p K s at e q)) ∙ left

    pub others : List Paper.Line
    others = line_here first (from p K s line.next) is_line_lem

    pub line_first : xs ≡ record { place = at; command = meant line.command } ∷ others
    unfolding others
    line_first = (line_is first (from p K s line.next) is_line_lem).0

    pub others_left : from p K s line.next ≡ accepted others end
    unfolding others
    others_left = (line_is first (from p K s line.next) is_line_lem).1
