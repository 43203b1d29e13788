-- The request "Calls from the exchange's own list": "Members' exchanges export comma-separated lists as RFC 4180 describes". The RFC's grammar under
-- its own names, from record down: its `file` is taken line by line, since the lines before a refused one count. Then the reader of a line, the call that
-- a line tells, and what the import of a whole list answers and leaves. A field here is the RFC's, a part of a line.
-- Assumes nothing.
use Rattle.std.specs.Prelude.{◌≡◌, Bool, true, false, ◌&&◌, ◌||◌, cond, List, [], ◌∷◌, ◌++◌, ℕ, zero, suc, ◌+◌, ◌*◌, ◌-◌, ◌≤◌, leb, ltb, eqb, length, get_or, drop}
use Rattle.algebra.specs.Lists.{All, onto}
use Rattle.model.specs.Refusing.{first_failed, given}

-- "COMMA = %x2C", "CR = %x0D", "DQUOTE = %x22", "LF = %x0A": a text is a list of bytes
abbrev pub COMMA : ℕ
COMMA = 44

abbrev pub CR : ℕ
CR = 13

abbrev pub DQUOTE : ℕ
DQUOTE = 34

abbrev pub LF : ℕ
LF = 10

-- "CRLF = CR LF"
abbrev pub CRLF : List ℕ
CRLF = CR ∷ LF ∷ []

-- "TEXTDATA = %x20-21 / %x23-2B / %x2D-7E"
pub data TEXTDATA (b : ℕ) : Type 0 where
  x20_21 : 32 ≤ b → b ≤ 33 → TEXTDATA b
  x23_2_b : 35 ≤ b → b ≤ 43 → TEXTDATA b
  x2_d_7_e : 45 ≤ b → b ≤ 126 → TEXTDATA b

-- "*(TEXTDATA / COMMA / CR / LF / 2DQUOTE)": s stands between the quotes of an escaped field, and v is the field's value. "2DQUOTE" is two quotes
-- one after the other, which stand for one.
pub data Quoted : List ℕ → List ℕ → Type 0 where
  nothing : Quoted [] []
  a_textdata : {b : ℕ} {s v : List ℕ} → TEXTDATA b → Quoted s v → Quoted (b ∷ s) (b ∷ v)
  a_comma : {s v : List ℕ} → Quoted s v → Quoted (COMMA ∷ s) (COMMA ∷ v)
  a_cr : {s v : List ℕ} → Quoted s v → Quoted (CR ∷ s) (CR ∷ v)
  a_lf : {s v : List ℕ} → Quoted s v → Quoted (LF ∷ s) (LF ∷ v)
  a_2_dquote : {s v : List ℕ} → Quoted s v → Quoted (DQUOTE ∷ DQUOTE ∷ s) (DQUOTE ∷ v)

-- "field = (escaped / non-escaped)": the text s is such a field, and v is its value
pub data Field : List ℕ → List ℕ → Type 0 where
  -- "escaped = DQUOTE *(TEXTDATA / COMMA / CR / LF / 2DQUOTE) DQUOTE"
  escaped : {s v : List ℕ} → Quoted s v → Field (DQUOTE ∷ (s ++ (DQUOTE ∷ []))) v
  -- "non-escaped = *TEXTDATA"
  non_escaped : {s : List ℕ} → All TEXTDATA s → Field s s

-- "record = field *(COMMA field)", and the values of its fields
pub data Record : List ℕ → List (List ℕ) → Type 0 where
  last : {s v : List ℕ} → Field s v → Record s (v ∷ [])
  more : {s r v : List ℕ} {vs : List (List ℕ)} → Field s v → Record r vs → Record (s ++ (COMMA ∷ r)) (v ∷ vs)

-- where a line may end, and the text after its line break: "The last line break may be missing"
pub data Ends : List ℕ → List ℕ → Type 0 where
  at_end : Ends [] []
  at_crlf : {next : List ℕ} → Ends (CRLF ++ next) next

-- "A line is one record of the RFC's grammar": the text begins with a record whose fields have the values fs, before rest, where the line ends. The next
-- line begins after its line break.
pub record Derives (text : List ℕ) (fs : List (List ℕ)) (rest : List ℕ) : Type 0 where
  pub line : List ℕ
  pub derived : Record line fs
  pub text_is : text ≡ line ++ rest
  pub next : List ℕ
  pub ends : Ends rest next

-- What a reader finds at the start of a text, and the text after it; or that it does not find it.
pub data Parsed (A : Type 0) : Type 0 where
  found : A → List ℕ → Parsed A
  unread : Parsed A

-- TEXTDATA as a test, and what may stand alone between quotes
unfoldable pub is_textdata : ℕ → Bool
is_textdata b = (leb 32 b && leb b 33) || ((leb 35 b && leb b 43) || (leb 45 b && leb b 126))

unfoldable pub alone : ℕ → Bool
alone b = is_textdata b || (eqb b COMMA || (eqb b CR || eqb b LF))

-- one byte more before a value
abbrev pub with_byte : ℕ → Parsed (List ℕ) → Parsed (List ℕ)
with_byte b (found v rest) = found (b ∷ v) rest
with_byte b unread = unread

-- a field without quotes: as many bytes as are TEXTDATA
unfoldable pub plain : List ℕ → Parsed (List ℕ)
plain [] = found [] []
plain (b ∷ s) = cond (is_textdata b) (with_byte b (plain s)) (found [] (b ∷ s))

-- a field in quotes, after the opening quote: up to a quote that no quote follows
unfoldable pub quoted : List ℕ → Parsed (List ℕ)
quoted [] = unread
quoted (b ∷ []) = cond (eqb b DQUOTE) (found [] []) unread
quoted (b ∷ c ∷ s) =
    cond (eqb b DQUOTE) (cond (eqb c DQUOTE) (with_byte DQUOTE (quoted s)) (found [] (c ∷ s)))
    (cond (alone b) (with_byte b (quoted (c ∷ s))) unread)

-- "any field may be quoted"
unfoldable pub field : List ℕ → Parsed (List ℕ)
field [] = found [] []
field (b ∷ s) = cond (eqb b DQUOTE) (quoted s) (plain (b ∷ s))

-- whether a line may end before this text
unfoldable pub is_end : List ℕ → Bool
is_end [] = true
is_end (b ∷ []) = false
is_end (b ∷ c ∷ s) = eqb b CR && eqb c LF

-- one field more before those of a record
abbrev pub with_field : List ℕ → Parsed (List (List ℕ)) → Parsed (List (List ℕ))
with_field v (found vs rest) = found (v ∷ vs) rest
with_field v unread = unread

-- after a field: a comma and the fields after it, or the line's end
abbrev pub after_field : (List ℕ → Parsed (List (List ℕ))) → Parsed (List ℕ) → Parsed (List (List ℕ))
after_field others unread = unread
after_field others (found v []) = found (v ∷ []) []
after_field others (found v (b ∷ s)) = cond (eqb b COMMA) (with_field v (others s)) (cond (is_end (b ∷ s)) (found (v ∷ []) (b ∷ s)) unread)

-- the fields of a line, at most so many
unfoldable pub fields : ℕ → List ℕ → Parsed (List (List ℕ))
fields zero text = unread
fields (suc most) text = after_field (fields most) (field text)

-- The reader of a line. Each field but the last has a comma after it, so a text has at most one field more than bytes.
unfoldable pub read_line : List ℕ → Parsed (List (List ℕ))
read_line text = fields (suc (length text)) text

-- "A time is one to seven digits. The answered field may be empty, which means nobody picked up.": a field's value as a time, "in seconds of the
-- quarter". How many seconds a quarter has is not asked.
pub data Time : Type 0 where
  absent : Time
  second : ℕ → Time
  malformed : Time

-- whether a byte is a digit, 0 to 9, 48 being the byte of 0; whether all bytes are; and the number that digits spell where they follow those of v
unfoldable pub is_digit : ℕ → Bool
is_digit b = leb 48 b && leb b 57

unfoldable pub all_digits : List ℕ → Bool
all_digits [] = true
all_digits (b ∷ s) = is_digit b && all_digits s

unfoldable pub decimal_from : ℕ → List ℕ → ℕ
decimal_from v [] = v
decimal_from v (b ∷ s) = decimal_from (10 * v + (b - 48)) s

unfoldable pub time : List ℕ → Time
time [] = absent
time (b ∷ s) = cond (leb (length (b ∷ s)) 7 && all_digits (b ∷ s)) (second (decimal_from 0 (b ∷ s))) malformed

-- how long a call lasted, or that its times are refused
pub data Call : Type 0 where
  lasted : ℕ → Call
  wrong : Call

-- "ended minus answered, or 0 for no answer"; and in the list of "32", "answered comes before dialled, or ended before answered (before dialled if
-- unanswered)"
unfoldable pub lasting : ℕ → Time → ℕ → Call
lasting dialled (second answered) ended = cond (leb dialled answered && leb answered ended) (lasted (ended - answered)) wrong
lasting dialled absent ended = cond (leb dialled ended) (lasted 0) wrong
lasting dialled malformed ended = wrong

-- "32 a time is malformed": only the answered field may be empty
abbrev pub with_time : Time → (ℕ → Call) → Call
with_time (second x) f = f x
with_time absent f = wrong
with_time malformed f = wrong

-- the call of a line by the values of its fields dialled, answered and ended
unfoldable pub call : List ℕ → List ℕ → List ℕ → Call
call dialled answered ended = with_time (time dialled) (λ x. with_time (time ended) (λ z. lasting x (time answered) z))

-- "four fields (line name, dialled, answered, ended)": the line's call, where it has four fields, and the text after its line break. "The last line break
-- may be missing"
unfoldable pub four_fields : Parsed (List (List ℕ)) → Parsed Call
four_fields (found fs rest) = cond (eqb (length fs) 4) (found (call (get_or fs 1 []) (get_or fs 2 []) (get_or fs 3 [])) (drop (length CRLF) rest)) unread
four_fields unread = unread

-- the line at the start of a text that is not empty
unfoldable pub line_at : List ℕ → Parsed Call
line_at text = four_fields (read_line text)

-- whether there is such a line, whether its times are good, how long its call lasted, and the text after it
abbrev pub is_line : Parsed Call → Bool
is_line (found c next) = true
is_line unread = false

abbrev pub is_good : Parsed Call → Bool
is_good (found (lasted c) next) = true
is_good (found wrong next) = false
is_good unread = false

abbrev pub seconds_of : Parsed Call → ℕ
seconds_of (found (lasted c) next) = c
seconds_of (found wrong next) = 0
seconds_of unread = 0

abbrev pub next_of : Parsed Call → List ℕ
next_of (found c next) = next
next_of unread = []

-- "lines are taken in turn, and for each:" the number, or 0; room is how many places of the buffer are left
unfoldable pub line_number : ℕ → Parsed Call → ℕ
line_number room x =
    first_failed
    -- "31 the line breaks RFC 4180 or has not four fields"
    ((is_line x, 31)
    -- "32 a time is malformed, answered comes before dialled, or ended before answered (before dialled if unanswered)"
    ∷ (is_good x, 32)
    -- "33 the buffer is full"
    ∷ (ltb 0 room, 33) ∷ [])

-- the number that a list's lines end with, and the calls of those before
pub record Taken : Type 0 where
  pub number : ℕ
  pub seconds : List ℕ

abbrev pub stops_with : ℕ → Taken
stops_with number = record { number = number; seconds = [] }

abbrev pub with_call : ℕ → Taken → Taken
with_call c x = record { number = x.number; seconds = c ∷ x.seconds }

-- the line at the start of a text, and the lines after it, by what these give: "an empty file has no calls". There is "no header line": the first line is
-- taken like the others.
abbrev pub turn : ℕ → (List ℕ → Taken) → List ℕ → Taken
turn room others [] = stops_with 0
turn room others (b ∷ s) =
    let x = line_at (b ∷ s) in
    let number = line_number room x in
    given number (with_call (seconds_of x) (others (next_of x))) (stops_with number)

-- "lines are taken in turn", each into a place of the buffer. With no room a line's number is never 0, so the lines after it are not asked for.
unfoldable pub taken : ℕ → List ℕ → Taken
taken zero text = turn zero (λ next. stops_with 0) text
taken (suc room) text = turn (suc room) (taken room) text

-- "The import writes one 32-bit number a call"; "The number (0 when done) and the calls written are returned; the rest of the buffer is left."
pub record Imported : Type 0 where
  pub number : ℕ
  pub calls : ℕ
  pub out : List ℕ

unfoldable pub imported : List ℕ → List ℕ → Imported
imported list out =
    let x = taken (length out) list in
    record { number = x.number; calls = length x.seconds; out = onto x.seconds out }
