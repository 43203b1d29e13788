-- How long a call lasts at most, and how many bytes so many lines of good calls have at least.
-- Assumes nothing.
use mathlib.Core.Path.{◌≡◌, refl, ap}
use mathlib.Core.Logic.{◌≢◌}
use mathlib.Core.List.{List, [], ◌∷◌}
use Prim.Native.Nat.{ℕ, ◌+◌, ◌*◌, ◌≤◌}
use native.Mathlib.Omega.{arith}
use lib.ListN.{length, drop, length-append, length-drop}
use Rattle.algebra.specs.Lists.{All, none, one}
use Rattle.model.specs.Calls.{COMMA, DQUOTE, CRLF, Quoted, nothing, a_textdata, a_comma, a_cr, a_lf, a_2_dquote, Field, escaped, non_escaped, Record, last, more, Ends, at_end, at_crlf}
use Rattle.model.specs.CallLists.{FourFields, Lasted, picked_up, nobody, Lines, nothing_taken, line, NumberOf, done, not_four_fields, bad_times, full}
use Rattle.model.proofs.CallDigits.{at_most}

-- the text after a line break, or nothing at the text's end
pub next_is : {rest next : List ℕ} → Ends rest next → next ≡ drop (length CRLF) rest
next_is at_end = refl
next_is at_crlf = refl

-- a call lasts no longer than the time of its end says
seconds_most : {dialled answered ended : List ℕ} {c : ℕ} → Lasted dialled answered ended c → c ≤ 9999999
seconds_most (picked_up D A E h q) = omega (arith, at_most E)
seconds_most (nobody D E h) = omega arith

pub all_seconds : {text seconds left : List ℕ} → Lines text seconds left → All (λ c. c ≤ 9999999) seconds
all_seconds nothing_taken = none
all_seconds (line F L Ls) = one (seconds_most L) (all_seconds Ls)

-- a field is at least as long as its value
quoted_length : {s v : List ℕ} → Quoted s v → length v ≤ length s
quoted_length nothing = omega arith
quoted_length (a_textdata t q) = omega (arith, quoted_length q)
quoted_length (a_comma q) = omega (arith, quoted_length q)
quoted_length (a_cr q) = omega (arith, quoted_length q)
quoted_length (a_lf q) = omega (arith, quoted_length q)
quoted_length (a_2_dquote q) = omega (arith, quoted_length q)

field_length : {s v : List ℕ} → Field s v → length v ≤ length s
field_length (escaped {s} q) = omega (arith, quoted_length q, length-append s (DQUOTE ∷ []))
field_length (non_escaped a) = omega arith

-- four fields have three commas between them
record_length_lem : {s name dialled answered ended : List ℕ} → Record s (name ∷ dialled ∷ answered ∷ ended ∷ []) → 3 + length dialled + length ended ≤ length s
record_length_lem (more {s = a} {r = r} F (more {s = b} {r = q} G (more {s = c} {r = d} H (last K)))) =
    omega (arith, length-append a (COMMA ∷ r), length-append b (COMMA ∷ q), length-append c (COMMA ∷ d), field_length G, field_length K)
record_length_lem {name = name} {dialled = dialled} {answered = answered} {ended = ended} (more {s = a} F (more {s = b} G (more {s = c} H (more {s = s} {r = r} _ x20)))) = elim x20 [ ]

four_length : {text name dialled answered ended rest : List ℕ} → FourFields text name dialled answered ended rest
    → 3 + length dialled + length ended + length rest ≤ length text
four_length {rest = rest} F = omega (arith, ap length F.text_is, length-append F.line rest, record_length_lem F.derived)

pub not_empty : {text name dialled answered ended rest : List ℕ} → FourFields text name dialled answered ended rest → text ≢ []
not_empty F e = omega (arith, four_length F, ap length e)

-- a line with a good call has at least five bytes
good_length : {text name dialled answered ended rest : List ℕ} {c : ℕ} → FourFields text name dialled answered ended rest → Lasted dialled answered ended c
    → 5 + length rest ≤ length text
good_length F (picked_up D A E h q) = omega (arith, four_length F, D.one, E.one)
good_length F (nobody D E h) = omega (arith, four_length F, D.one, E.one)

-- and where five bytes or more are left after it, a line break of two
lines_length : {text seconds left : List ℕ} → Lines text seconds left → 5 ≤ length left → 7 * length seconds + length left ≤ length text
lines_length nothing_taken h = omega arith
lines_length (line {rest = rest} F L Ls) h = omega (arith, good_length F L, lines_length Ls h, ap length (next_is F.ends), length-drop (length CRLF) rest)

-- so a buffer that is full was too small for the list
pub full_length : {room : ℕ} {text seconds left : List ℕ} {number : ℕ} → Lines text seconds left → NumberOf room left number → number ≡ 33
    → (room ≡ 0) × (7 * length seconds + 5 ≤ length text)
full_length Ls (done e) z = absurd (omega arith)
full_length Ls (not_four_fields e n) z = absurd (omega arith)
full_length Ls (bad_times F n) z = absurd (omega arith)
full_length Ls (full F L e) z = (e, omega (arith, good_length F L, lines_length Ls (omega (arith, good_length F L))))
