-- The request "Calls from the exchange's own list": the reader of Calls.antt against the RFC's grammar, and what an import is in terms of the grammar
-- alone.
-- Assumes nothing.
use Rattle.std.specs.Prelude.{◌≡◌, ◌↔◌, ◌≢◌, List, [], ◌∷◌, ◌++◌, ℕ, ◌+◌, ◌*◌, ◌-◌, ◌≤◌, ◌<◌, length}
use Rattle.algebra.specs.Lists.{All, onto}
use Rattle.model.specs.Calls.{Derives, found, read_line, second, time, lasted, call, line_at, line_number, Imported, imported}

-- The reader finds fields and a rest exactly where the grammar derives them, and no text has two readings.
pub record Reads : Type 0 where
  pub exact : (text rest : List ℕ) (fs : List (List ℕ)) → (read_line text ≡ found fs rest) ↔ Derives text fs rest
  pub one_reading : (text rest rest' : List ℕ) (fs fs' : List (List ℕ)) → Derives text fs rest → Derives text fs' rest' → (fs ≡ fs') × (rest ≡ rest')

-- "four fields (line name, dialled, answered, ended)": the text begins with a line that has these, before rest
abbrev pub FourFields : List ℕ → (name dialled answered ended rest : List ℕ) → Type 0
FourFields text name dialled answered ended rest = Derives text (name ∷ dialled ∷ answered ∷ ended ∷ []) rest

-- "31 the line breaks RFC 4180 or has not four fields": no derivation with four fields
abbrev pub NoFourFields : List ℕ → Type 0
NoFourFields text = (name dialled answered ended rest : List ℕ) → FourFields text name dialled answered ended rest → ⊥

-- the number that decimal digits spell, the last digit being the ones; 48 is the byte of the digit 0
pub data Decimal : List ℕ → ℕ → Type 0 where
  no_digit : Decimal [] 0
  digit : {s : List ℕ} {x d : ℕ} → Decimal s x → d ≤ 9 → Decimal (s ++ ((48 + d) ∷ [])) (10 * x + d)

-- "A time is one to seven digits": the text s, and the number that its digits spell
pub record Spells (s : List ℕ) (x : ℕ) : Type 0 where
  pub one : 1 ≤ length s
  pub seven : length s ≤ 7
  pub decimal : Decimal s x

-- "ended minus answered, or 0 for no answer": a call with these fields is good and lasted c seconds
pub data Lasted : (dialled answered ended : List ℕ) → ℕ → Type 0 where
  picked_up : {dialled answered ended : List ℕ} {x y z c : ℕ} → Spells dialled x → Spells answered y → Spells ended z → x ≤ y → y + c ≡ z
      → Lasted dialled answered ended c
  nobody : {dialled ended : List ℕ} {x z : ℕ} → Spells dialled x → Spells ended z → x ≤ z → Lasted dialled [] ended 0

-- "lines are taken in turn": the text begins with lines of good calls that lasted so long, and left is the text after these
pub data Lines : List ℕ → List ℕ → List ℕ → Type 0 where
  nothing_taken : {text : List ℕ} → Lines text [] text
  line : {text name dialled answered ended rest seconds left : List ℕ} {c : ℕ} (D : FourFields text name dialled answered ended rest)
      → Lasted dialled answered ended c → Lines D.next seconds left → Lines text (c ∷ seconds) left

-- the number of a list whose good lines were taken, by the text that is left and the room in the buffer
pub data NumberOf (room : ℕ) (left : List ℕ) : ℕ → Type 0 where
  -- "0 when done"
  done : left ≡ [] → NumberOf room left 0
  -- "31 the line breaks RFC 4180 or has not four fields"
  not_four_fields : left ≢ [] → NoFourFields left → NumberOf room left 31
  -- "32 a time is malformed, answered comes before dialled, or ended before answered (before dialled if unanswered)"
  bad_times : {name dialled answered ended rest : List ℕ} → FourFields left name dialled answered ended rest
      → ((c : ℕ) → Lasted dialled answered ended c → ⊥) → NumberOf room left 32
  -- "33 the buffer is full"
  full : {name dialled answered ended rest : List ℕ} {c : ℕ} → FourFields left name dialled answered ended rest → Lasted dialled answered ended c → room ≡ 0
      → NumberOf room left 33

-- what an import answers and leaves
pub record Imports (list out : List ℕ) (x : Imported) : Type 0 where
  pub seconds : List ℕ
  pub left : List ℕ
  pub lines : Lines list seconds left
  pub number : NumberOf (length out - length seconds) left x.number
  pub calls : x.calls ≡ length seconds
  pub fits : length seconds ≤ length out
  -- "one 32-bit number a call": a time has at most seven digits
  pub numbers : All (λ c. c ≤ 9999999) seconds
  -- "the rest of the buffer is left"
  pub out_is : x.out ≡ onto seconds out

-- for every list and every buffer
pub record CallLists : Type 0 where
  pub reads : Reads
  -- "A time is one to seven digits": a field is read as a time exactly where it spells one
  pub times : (s : List ℕ) (x : ℕ) → (time s ≡ second x) ↔ Spells s x
  -- "ended minus answered, or 0 for no answer": the fields of a line are read as a good call exactly where they tell one
  pub calls : (dialled answered ended : List ℕ) (c : ℕ) → (call dialled answered ended ≡ lasted c) ↔ Lasted dialled answered ended c
  -- A line's number is 31 exactly where no derivation with four fields exists, whatever the buffer; of an empty text no line is asked for.
  pub refused : (room : ℕ) (text : List ℕ) → (line_number room (line_at text) ≡ 31) ↔ NoFourFields text
  pub imports : (list out : List ℕ) → Imports list out (imported list out)
  -- "The number (0 when done) and the calls written are returned; the rest of the buffer is left": `Imports` fixes all of it
  pub one_import : (list out : List ℕ) (x y : Imported) → Imports list out x → Imports list out y → x ≡ y
  -- "33 the buffer is full": a line with a good call has at least five bytes, as ,0,,0 has, and a line break of two bytes before the next. So n + 1
  -- of them have at least 7 * (n + 1) - 2 bytes, and for a shorter list n places are enough.
  pub ample : (list out : List ℕ) → length list + 2 < 7 * (length out + 1) → (imported list out).number ≢ 33
