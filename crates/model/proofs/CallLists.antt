-- The lines of a list of calls: where there is none, what the import of a list answers and leaves, and that `Imports` fixes this.
-- Assumes nothing.
use mathlib.Core.Path.{◌≡◌, refl, sym, ap, ◌∙◌}
use mathlib.Core.Logic.{◌↔◌, ◌≢◌}
use mathlib.Core.List.{List, [], ◌∷◌}
use Prim.Native.Nat.{ℕ, zero, suc, ◌-◌, ◌≤◌}
use native.Mathlib.Nat.{sub-zero, suc-sub-suc}
use native.Mathlib.Omega.{arith}
use borrow.Author.Tests.{lt-ltb, eqb-true, eqb-false}
use lib.Dec.{ltb, eqb}
use lib.ListN.{length, get_or, drop}
use Rattle.algebra.proofs.Tests.{choice}
use Rattle.model.specs.Refusing.{first_failed, given}
use Rattle.model.specs.Calls.{CRLF, Derives, Parsed, found, unread, read_line, Call, lasted, wrong, call, four_fields, line_at, is_good, seconds_of, next_of, line_number, Taken, stops_with, with_call, turn, taken, Imported, imported}
use Rattle.model.specs.CallLists.{FourFields, NoFourFields, Lasted, Lines, nothing_taken, line, NumberOf, done, not_four_fields, bad_times, full, Imports, CallLists}
use Rattle.model.proofs.CallFound.{line_read}
use Rattle.model.proofs.CallReading.{line_found, same_found, reads}
use Rattle.model.proofs.CallTimes.{times_exact, Tells, tells, calls_exact, call_wrong}
use Rattle.model.proofs.CallRoom.{next_is, all_seconds, not_empty, full_length}

-- the four fields of the line at the start of a text, what the call c says of them, and the text after its line break
record Line (text : List ℕ) (c : Call) (next : List ℕ) : Type 0 where
  name : List ℕ
  dialled : List ℕ
  answered : List ℕ
  ended : List ℕ
  rest : List ℕ
  fields_are : FourFields text name dialled answered ended rest
  told : Tells dialled answered ended c
  next_here : next ≡ fields_are.next

-- what each reading of a line says of the text
abbrev Says : List ℕ → Parsed Call → Type 0
Says text (found c next) = Line text c next
Says text unread = NoFourFields text

-- of the fields of a line, where they are four
four : {text rest : List ℕ} (fs : List (List ℕ)) → length fs ≡ 4 → Derives text fs rest → Line text (call (get_or fs 1 []) (get_or fs 2 []) (get_or fs 3 [])) (drop (length CRLF) rest)
four [] h D = absurd (omega arith)
four (a ∷ []) h D = absurd (omega arith)
four (a ∷ b ∷ []) h D = absurd (omega arith)
four (a ∷ b ∷ c ∷ []) h D = absurd (omega arith)
four {rest = rest} (a ∷ b ∷ c ∷ d ∷ []) h D = record { name = a; dialled = b; answered = c; ended = d; rest = rest; fields_are = D; told = tells b c d; next_here = sym (next_is D.ends) }
four (a ∷ b ∷ c ∷ d ∷ e ∷ fs) h D = absurd (omega arith)

says : (text : List ℕ) → Says text (line_at text)
unfolding line_at four_fields
says text = go (read_line text) refl
  where
    go : (r : Parsed (List (List ℕ))) → read_line text ≡ r → Says text (four_fields r)
    go (found fs rest) e =
        choice (Says text) (eqb (length fs) 4) (λ q. four fs (eqb-true (length fs) 4 q) (line_found text rest fs e))
        (λ q name dialled answered ended rest' D. eqb-false (length fs) 4 q (ap length (same_found e (line_read D)).0))
    go unread e = λ name dialled answered ended rest D. let z : ◌≡◌ {A = ℕ} 0 1 = cc (line_read D) in omega arith

-- a line that there is ends with 0, 32 or 33
refused : (room : ℕ) (text : List ℕ) (x : Parsed Call) → Says text x → (line_number room x ≡ 31) ↔ NoFourFields text
unfolding line_number first_failed
refused room text (found c next) L = (
  λ e. absurd (choice (◌≢ 31) (is_good (found c next)) (λ _. choice (◌≢ 31) (ltb 0 room) (λ _. omega arith) (λ _. omega arith)) (λ _. omega arith) e),
  λ n. absurd (n _ _ _ _ _ L.fields_are),
)
refused room text unread L = (λ _. L, λ _. refl)

-- what the lines of a text give, with so much room
record Takes (room : ℕ) (text : List ℕ) (x : Taken) : Type 0 where
  left : List ℕ
  lines : Lines text x.seconds left
  number : NumberOf (room - length x.seconds) left x.number
  fits : length x.seconds ≤ room

-- nothing is taken
none_taken : {room : ℕ} {text : List ℕ} {number : ℕ} → NumberOf room text number → Takes room text (stops_with number)
none_taken {text = text} A = record { left = text; lines = nothing_taken; number = rw sub-zero A; fits = omega arith }

-- the line is taken, and then the lines after it
one_taken : {room : ℕ} {text : List ℕ} {c : ℕ} {next : List ℕ} {x : Taken} → Line text (lasted c) next → Takes room next x → Takes (suc room) text (with_call c x)
one_taken L X = record { left = X.left; lines = line L.fields_are L.told (rw L.next_here at X.lines); number = rw suc-sub-suc X.number; fits = omega arith }

-- what the lines after the first give, where there is room for it
abbrev Others : ℕ → (List ℕ → Taken) → Type 0
Others zero others = Unit {0}
Others (suc room) others = (next : List ℕ) → Takes room next (others next)

-- the turn of a text that is not empty, by its line
abbrev by_line : ℕ → (List ℕ → Taken) → Parsed Call → Taken
by_line room others x = given (line_number room x) (with_call (seconds_of x) (others (next_of x))) (stops_with (line_number room x))

turns : (room : ℕ) (others : List ℕ → Taken) → Others room others → (text : List ℕ) → Takes room text (turn room others text)
unfolding line_number first_failed
turns room others k [] = none_taken (done refl)
turns room others k (b ∷ s) = go room others k (line_at (b ∷ s)) (says (b ∷ s))
  where
    go : (room : ℕ) (others : List ℕ → Taken) → Others room others → (x : Parsed Call) → Says (b ∷ s) x → Takes room (b ∷ s) (by_line room others x)
    go room others k unread N = none_taken (not_four_fields (λ q. omega (arith, ap length q)) N)
    go room others k (found wrong next) L = none_taken (bad_times L.fields_are L.told)
    go zero others k (found (lasted c) next) L = none_taken (full L.fields_are L.told refl)
    go (suc room) others k (found (lasted c) next) L = rw (lt-ltb 0 (suc room) (omega arith)) (one_taken L (k next))

takes : (room : ℕ) (text : List ℕ) → Takes room text (taken room text)
unfolding taken
takes zero text = turns zero (λ next. stops_with 0) tt text
takes (suc room) text = turns (suc room) (taken room) (takes room) text

-- a good line at the start of a text, and one with bad times, as they are read
good_line : {text name dialled answered ended rest : List ℕ} {c : ℕ} (F : FourFields text name dialled answered ended rest) → Lasted dialled answered ended c
    → line_at text ≡ found (lasted c) F.next
unfolding line_at four_fields
good_line {dialled = dialled} {answered} {ended} {c = c} F L = rw (line_read F, (calls_exact dialled answered ended c).1 L, next_is F.ends)

bad_line : {text name dialled answered ended rest : List ℕ} (F : FourFields text name dialled answered ended rest)
    → ((c : ℕ) → Lasted dialled answered ended c → ⊥) → line_at text ≡ found wrong F.next
unfolding line_at four_fields
bad_line {dialled = dialled} {answered} {ended} F n = rw (line_read F, call_wrong dialled answered ended n, next_is F.ends)

turn_at : (room : ℕ) (others : List ℕ → Taken) (text : List ℕ) → text ≢ [] → turn room others text ≡ by_line room others (line_at text)
turn_at room others [] n = absurd (n refl)
turn_at room others (b ∷ s) n = refl

-- the lines stop where a text has a number, and go on after a good line
turn_stops : {room : ℕ} (others : List ℕ → Taken) {text : List ℕ} {number : ℕ} → NumberOf room text number → turn room others text ≡ stops_with number
unfolding line_number first_failed
turn_stops others (done e) = rw e
turn_stops {room} others {text} (not_four_fields e n) = rw (turn_at room others text e, (refused room text (line_at text) (says text)).1 n)
turn_stops {room} others {text} (bad_times F n) = rw (turn_at room others text (not_empty F), bad_line F n)
turn_stops {room} others {text} (full F L e) = rw (turn_at room others text (not_empty F), good_line F L, e)

stops : (room : ℕ) {text : List ℕ} {number : ℕ} → NumberOf room text number → taken room text ≡ stops_with number
unfolding taken
stops zero A = turn_stops (λ next. stops_with 0) A
stops (suc room) A = turn_stops (taken room) A

goes_on : (room : ℕ) {text name dialled answered ended rest : List ℕ} {c : ℕ} (F : FourFields text name dialled answered ended rest) → Lasted dialled answered ended c
    → taken (suc room) text ≡ with_call c (taken room F.next)
unfolding taken line_number first_failed
goes_on room {text} F L = rw (turn_at (suc room) (taken room) text (not_empty F), good_line F L, lt-ltb 0 (suc room) (omega arith))

-- so the lines of a list and its number say what is taken, and an import is what `imported` says
taken_is : (room : ℕ) {text seconds left : List ℕ} {number : ℕ} → Lines text seconds left → length seconds ≤ room → NumberOf (room - length seconds) left number
    → taken room text ≡ record { number = number; seconds = seconds }
taken_is room nothing_taken h A = stops room (rw sub-zero at A)
taken_is zero (line F L Ls) h A = absurd (omega arith)
taken_is (suc room) (line F L Ls) h A = goes_on room F L ∙ ap (with_call _) (taken_is room Ls (omega arith) (rw suc-sub-suc at A))

import_is : {list out : List ℕ} {x : Imported} → Imports list out x → imported list out ≡ x
unfolding imported
import_is {list} {out} {x} I =
    rw (taken_is (length out) I.lines I.fits I.number) (λ i. record { number = x.number; calls = sym I.calls i; out = sym I.out_is i })

pub call_lists : CallLists
unfolding imported
call_lists =
    record {
      reads = reads;
      times = times_exact;
      calls = calls_exact;
      refused = λ room text. refused room text (line_at text) (says text);
      imports = λ list out.
          let X = takes (length out) list in
          record {
            seconds = (taken (length out) list).seconds;
            left = X.left;
            lines = X.lines;
            number = X.number;
            calls = refl;
            fits = X.fits;
            numbers = all_seconds X.lines;
            out_is = refl;
          };
      one_import = λ list out x y I J. sym (import_is I) ∙ import_is J;
      ample = λ list out h z.
          let X = takes (length out) list in
          omega (arith, X.fits, full_length X.lines X.number z);
    }
