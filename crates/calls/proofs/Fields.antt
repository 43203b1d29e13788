-- Fields by what the loops over their bytes found.
-- Assumes nothing.
use Rattle.std.proofs.Common.{Option, Some, None}
use mathlib.Core.Path.{◌≡◌, refl, sym, ap, ◌∙◌}
use mathlib.Core.Bool.{Bool, true, false}
use mathlib.Core.List.{List, [], ◌∷◌}
use Prim.Native.Nat.{ℕ, suc, ◌+◌, ◌-◌, ◌≤◌, ◌<◌}
use native.Mathlib.Decide.{dec_lt}
use native.Mathlib.Omega.{arith}
use lib.ListN.{length, take, drop, length-drop, drop_of_length-le}
use lib.Seq.{take_all, drop-drop}
use Rattle.algebra.proofs.Tests.{true_false}
use Rattle.model.specs.Calls as Calls
use Rattle.model.specs.Calls.{COMMA, DQUOTE, Parsed, found, unread, plain, quoted, field, time}
use Rattle.calls.specs.declared.time.Time.{Time}
use Rattle.calls.specs.declared.field.Field.{Field}
use Rattle.calls.specs.Meaning.{time_of, field_as_time, closed_at, field_of, after_comma, is_first}

-- what is left of a text from a place on, as a part that is lent
pub rest_from : (a : ℕ) (s : List ℕ) → take (length s - a) (drop a s) ≡ drop a s
rest_from a s = take_all (length s - a) (drop a s) (rw length-drop (omega arith))

-- a field in quotes, of which the first stands at the text's start, by the place of the last in what follows it
module _ (text : List ℕ) (place : Option ℕ) (e : closed_at (take (length text - 1) (drop 1 text)) place ≡ field_as_time (quoted (take (length text - 1) (drop 1 text)))) where
  here : closed_at (drop 1 text) place ≡ field_as_time (quoted (drop 1 text))
  here = rw (rest_from 1 text) at e

  pub not_closed : place ≡ None → field_of text None ≡ field_as_time (quoted (drop 1 text))
  unfolding closed_at field_of
  not_closed q = rw q at here

  pub closed : (size : ℕ) (t : Time) → place ≡ Some size → time_of t ≡ time (take (1 + size - 1) (drop 1 text))
      → field_of text (Some (record { time = t; next = size + 2 })) ≡ field_as_time (quoted (drop 1 text))
  unfolding closed_at field_of
  closed size t h q =
      let z : 1 + size - 1 ≡ size = omega arith in
      let k : 1 + suc size ≡ size + 2 = omega arith in
      let d : drop (suc size) (drop 1 text) ≡ drop (size + 2) text = drop-drop (suc size) 1 text ∙ ap (λ m. drop m text) k in
      rw (q, z, ← d) (rw h at here)

-- a field by whether a quote stands at the text's start
pub quote_some : (text : List ℕ) {r : Bool} → r ≡ is_first DQUOTE (drop 0 text) → r ≡ true → 1 ≤ length text
unfolding is_first
quote_some [] q e = absurd (true_false (sym e ∙ q))
quote_some (b ∷ s) q e = omega arith

pub is_escaped : (text : List ℕ) {r : Bool} {x : Parsed Calls.Time} → r ≡ is_first DQUOTE (drop 0 text) → r ≡ true → x ≡ field_as_time (quoted (drop 1 text))
    → x ≡ field_as_time (field text)
unfolding field is_first
is_escaped [] q e f = absurd (true_false (sym e ∙ q))
is_escaped (b ∷ s) q e f = f ∙ rw (← q, e) refl

pub is_plain : (text : List ℕ) {r : Bool} {x : Parsed Calls.Time} → r ≡ is_first DQUOTE (drop 0 text) → r ≡ false → x ≡ field_as_time (plain text)
    → x ≡ field_as_time (field text)
unfolding field plain is_first
is_plain [] q e f = f
is_plain (b ∷ s) q e f = f ∙ rw (← q, e) refl

-- a field from a place on
module _ (text : List ℕ) (at : ℕ) (r : Option Field) (e : field_of (take (length text - at) (drop at text)) r ≡ field_as_time (field (take (length text - at) (drop at text)))) where
  from : field_of (drop at text) r ≡ field_as_time (field (drop at text))
  from = rw (rest_from at text) at e

  pub none_from : r ≡ None → field_of text None ≡ field_as_time (field (drop at text))
  unfolding field_of
  none_from q = rw q at from

  pub field_from : (t : Time) (next : ℕ) → r ≡ Some (record { time = t; next = next })
      → field_of text (Some (record { time = t; next = at + next })) ≡ field_as_time (field (drop at text))
  unfolding field_of
  field_from t next q = rw (← drop-drop next at text) (rw q at from)

-- after a comma, and where there is none
after_it : {x : Parsed Calls.Time} (t : Calls.Time) (s : List ℕ) → is_first COMMA s ≡ true → x ≡ field_as_time (field (drop 1 s)) → x ≡ after_comma (found t s)
unfolding is_first after_comma
after_it t [] q e = absurd (true_false (sym q))
after_it t (b ∷ s) q e = rw q e

none_after : (t : Calls.Time) (s : List ℕ) → is_first COMMA s ≡ false → unread ≡ after_comma (found t s)
unfolding is_first after_comma
none_after t [] q = refl
none_after t (b ∷ s) q = rw q refl

module _ (text : List ℕ) (before : Field) {p : Bool} (q : p ≡ is_first COMMA (drop before.next text)) where
  pub within : p ≡ true → before.next + 1 ≤ length text
  unfolding is_first
  within e = go (dec_lt before.next (length text))
    where
      go : Dec (before.next < length text) → before.next + 1 ≤ length text
      go (yes h) = omega arith
      go (no h) = absurd (true_false (sym e ∙ q ∙ ap (is_first COMMA) (drop_of_length-le text {i = before.next} (omega arith))))

  pub comma : {x : Parsed Calls.Time} → p ≡ true → x ≡ field_as_time (field (drop (before.next + 1) text)) → x ≡ after_comma (field_of text (Some before))
  unfolding field_of
  comma e f = after_it (time_of before.time) (drop before.next text) (sym q ∙ e) (f ∙ ap (λ s. field_as_time (field s)) (sym (drop-drop 1 before.next text)))

  pub no_comma : p ≡ false → field_of text None ≡ after_comma (field_of text (Some before))
  unfolding field_of
  no_comma e = none_after (time_of before.time) (drop before.next text) (sym q ∙ e)
