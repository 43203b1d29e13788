-- What the code's types say in the model's words.
-- Assumes nothing.
use Rattle.std.specs.Prelude.{◌≡◌, Bool, true, false, cond, List, [], ◌∷◌, ℕ, suc, ◌≤◌, eqb, length, take, drop, Option, Some, None, Result, IfOk}
use Rattle.model.specs.Calls as Calls
use Rattle.model.specs.Calls.{Parsed, found, unread, COMMA}
use Rattle.refusals.specs.declared.Refusal.{Refusal}
use Rattle.refusals.specs.Numbers.{told}
use Rattle.calls.specs.declared.time.Time.{Time}
use Rattle.calls.specs.declared.time.Time.TheVariants.{Absent, At, Malformed}
use Rattle.calls.specs.declared.field.Field.{Field}
use Rattle.calls.specs.declared.line.Line.{Line}
use Rattle.calls.specs.declared.Turn.{Turn}
use Rattle.calls.specs.declared.Imported.{Imported}

abbrev pub time_of : Time → Calls.Time
time_of Absent = Calls.absent
time_of (At x) = Calls.second x
time_of Malformed = Calls.malformed

-- a field by its value as a time: all that is looked at
unfoldable pub field_as_time : Parsed (List ℕ) → Parsed Calls.Time
field_as_time (found v rest) = found (Calls.time v) rest
field_as_time unread = unread

-- a field in quotes, after the opening quote, by the place of the closing one
unfoldable pub closed_at : List ℕ → Option ℕ → Parsed Calls.Time
closed_at s (Some i) = found (Calls.time (take i s)) (drop (suc i) s)
closed_at s None = unread

unfoldable pub field_of : List ℕ → Option Field → Parsed Calls.Time
field_of s (Some field) = found (time_of field.time) (drop field.next s)
field_of s None = unread

-- the field after a comma, by the field before it
unfoldable pub after_comma : Parsed Calls.Time → Parsed Calls.Time
after_comma unread = unread
after_comma (found t []) = unread
after_comma (found t (b ∷ s)) = cond (eqb b COMMA) (field_as_time (Calls.field s)) unread

-- whether a byte stands at the start of a text
unfoldable pub is_first : ℕ → List ℕ → Bool
is_first b [] = false
is_first b (c ∷ s) = eqb c b

-- whether a line ends at a place, and the text after its line break
abbrev pub EndsAt : List ℕ → ℕ → Option ℕ → Type 0
EndsAt s at (Some next) = (Calls.is_end (drop at s) ≡ true) × (drop next s ≡ drop 2 (drop at s)) × (next ≤ length s)
EndsAt s at None = Calls.is_end (drop at s) ≡ false

abbrev pub call_of : Option ℕ → Calls.Call
call_of (Some seconds) = Calls.lasted seconds
call_of None = Calls.wrong

unfoldable pub line_of : List ℕ → Option Line → Parsed Calls.Call
line_of s (Some line) = found (call_of line.call) (drop line.next s)
line_of s None = unread

-- The line from a place on, with so many places left in the buffer: its number, and where that is 0 its call and the text after it.
pub record Turned (list : List ℕ) (at room : ℕ) (r : Result Turn Refusal) : Type 0 where
  pub number : told r ≡ Calls.line_number room (Calls.line_at (drop at list))
  pub seconds : IfOk r (λ turn. turn.seconds ≡ Calls.seconds_of (Calls.line_at (drop at list)))
  pub next : IfOk r (λ turn. drop turn.next list ≡ Calls.next_of (Calls.line_at (drop at list)))
  pub within : IfOk r (λ turn. turn.next ≤ length list)

-- an answer, and the buffer after the import
abbrev pub import_of : Imported → List ℕ → Calls.Imported
import_of r out = record { number = told r.ended; calls = r.calls; out = out }
