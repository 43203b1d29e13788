-- A line by the four fields that the code reads, one after another.
-- Assumes nothing.
use Rattle.std.proofs.Common.{Option, Some, None}
use mathlib.Core.Path.{◌≡◌, refl, sym, ap, ◌∙◌}
use mathlib.Core.List.{List, [], ◌∷◌, ◌++◌}
use Prim.Native.Nat.{ℕ, suc}
use Rattle.model.specs.Calls as Calls
use Rattle.model.specs.Calls.{field, line_at}
use Rattle.calls.specs.declared.field.Field.{Field}
use Rattle.calls.specs.Meaning.{time_of, field_as_time, field_of, after_comma, EndsAt, call_of, line_of}
use Rattle.calls.proofs.Lines.{call_by, line_from, line_from_lem, from_missing}

-- what is left of the line, with so many fields after the one that was read, by the times of those before it
pub record Left (text : List ℕ) (n : ℕ) (ts : List Calls.Time) (r : Option Field) : Type 0 where
  pub is : line_at text ≡ line_from n ts (field_of text r)

pub first_field : (text : List ℕ) (r : Option Field) → field_of text r ≡ field_as_time (field text) → Left text 3 [] r
first_field text r e = record { is = line_from_lem text ∙ ap (line_from 3 []) (sym e) }

module _ {text : List ℕ} {n : ℕ} {ts : List Calls.Time} {r : Option Field} (l : Left text n ts r) where
  pub no_field : r ≡ None → line_of text None ≡ line_at text
  unfolding line_of field_of
  no_field w = sym ((rw w at l.is) ∙ from_missing n ts)

pub next_field : {text : List ℕ} {n : ℕ} {ts : List Calls.Time} {r : Option Field} → Left text (suc n) ts r → {f : Field} → r ≡ Some f → (q : Option Field)
    → field_of text q ≡ after_comma (field_of text (Some f)) → Left text n (ts ++ (time_of f.time ∷ [])) q
unfolding line_from field_of
next_field l w q e = record { is = (rw w at l.is) ∙ rw e refl }

module _ {text : List ℕ} {ts : List Calls.Time} {r : Option Field} (l : Left text 0 ts r) {f : Field} (w : r ≡ Some f) where
  pub line_ends : (call : Option ℕ) (next : ℕ) → EndsAt text f.next (Some next) → call_of call ≡ call_by (ts ++ (time_of f.time ∷ []))
      → line_of text (Some (record { call = call; next = next })) ≡ line_at text
  unfolding line_from field_of line_of
  line_ends call next e q = rw (q, e.1) (sym ((rw w at l.is) ∙ rw e.0 refl))

  pub no_end : EndsAt text f.next None → line_of text None ≡ line_at text
  unfolding line_from field_of line_of
  no_end e = sym ((rw w at l.is) ∙ rw e refl)
