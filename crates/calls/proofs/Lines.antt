-- A line of four fields, field by field. After a field that is not there none is, so the line is read as if each were there.
-- Assumes nothing.
use mathlib.Core.Path.{◌≡◌, refl, sym, ap, ◌∙◌}
use mathlib.Core.Logic.{◌≢◌}
use mathlib.Core.Bool.{Bool, true, false, cond}
use mathlib.Core.List.{List, [], ◌∷◌, ◌++◌, map, append_assoc, map-append}
use Prim.Native.Nat.{ℕ, zero, suc, ◌+◌, ◌≤◌, ◌<◌}
use native.Mathlib.Omega.{arith}
use borrow.Author.Tests.{eq-eqb, ne_eqb, eqb-true}
use lib.Dec.{eqb}
use lib.ListN.{length, get_or, drop, length-append}
use Rattle.algebra.proofs.Tests.{choice}
use Rattle.model.specs.Calls.{COMMA, CRLF, Parsed, found, unread, with_byte, is_textdata, alone, DQUOTE, plain, quoted, field, is_end, with_field, after_field, fields, read_line, Time, absent, malformed, time, Call, lasting, with_time, call, four_fields, line_at}
use Rattle.calls.specs.Meaning.{field_as_time, after_comma}

-- what a field leaves is no longer than the text
abbrev Within : ℕ → Parsed (List ℕ) → Type 0
Within n (found v rest) = length rest ≤ n
Within n unread = Unit {0}

within_byte : (n b : ℕ) (x : Parsed (List ℕ)) → Within n x → Within (suc n) (with_byte b x)
within_byte n b (found v rest) h = omega arith
within_byte n b unread h = tt

within_plain : (s : List ℕ) → Within (length s) (plain s)
unfolding plain
within_plain [] = omega arith
within_plain (b ∷ s) = choice (Within (suc (length s))) (is_textdata b) (λ e. within_byte (length s) b (plain s) (within_plain s)) (λ e. omega arith)

within_more : (n m : ℕ) (x : Parsed (List ℕ)) → n ≤ m → Within n x → Within m x
within_more n m (found v rest) k h = omega arith
within_more n m unread k h = tt

within_quoted : (s : List ℕ) → Within (length s) (quoted s)
unfolding quoted
within_quoted [] = tt
within_quoted (b ∷ []) = choice (Within 1) (eqb b DQUOTE) (λ e. omega arith) (λ e. tt)
within_quoted (b ∷ c ∷ s) =
    choice (Within (suc (suc (length s)))) (eqb b DQUOTE)
    (λ e. choice (Within (suc (suc (length s)))) (eqb c DQUOTE)
    (λ f. within_more (suc (length s)) (suc (suc (length s))) (with_byte DQUOTE (quoted s)) (omega arith) (within_byte (length s) DQUOTE (quoted s) (within_quoted s))) (λ f. omega arith))
    (λ e. choice (Within (suc (suc (length s)))) (alone b) (λ f. within_byte (suc (length s)) b (quoted (c ∷ s)) (within_quoted (c ∷ s))) (λ f. tt))

within_field : (s : List ℕ) → Within (length s) (field s)
unfolding field
within_field [] = omega arith
within_field (b ∷ s) =
    choice (Within (suc (length s))) (eqb b DQUOTE) (λ e. within_more (length s) (suc (length s)) (quoted s) (omega arith) (within_quoted s)) (λ e. within_plain (b ∷ s))

-- the call of four fields by their times alone
abbrev pub call_by : List Time → Call
call_by ts = with_time (get_or ts 1 absent) (λ dialled. with_time (get_or ts 3 absent) (λ ended. lasting dialled (get_or ts 2 absent) ended))

get_or_times : (fs : List (List ℕ)) (i : ℕ) → get_or (map time fs) i absent ≡ time (get_or fs i [])
unfolding time
get_or_times [] i = refl
get_or_times (f ∷ fs) zero = refl
get_or_times (f ∷ fs) (suc i) = get_or_times fs i

call_by_lem : (fs : List (List ℕ)) → call (get_or fs 1 []) (get_or fs 2 []) (get_or fs 3 []) ≡ call_by (map time fs)
unfolding call
call_by_lem fs = rw (get_or_times fs 1, get_or_times fs 2, get_or_times fs 3) refl

-- a field's time, where there is a field
abbrev pub time_in : Parsed Time → Time
time_in (found t rest) = t
time_in unread = malformed

-- the line from a field on, with so many fields after it, by the times of those before it
unfoldable pub line_from : ℕ → List Time → Parsed Time → Parsed Call
line_from zero ts (found t rest) = cond (is_end rest) (found (call_by (ts ++ (t ∷ []))) (drop (length CRLF) rest)) unread
line_from zero ts unread = unread
line_from (suc n) ts x = line_from n (ts ++ (time_in x ∷ [])) (after_comma x)

pub from_missing : (n : ℕ) (ts : List Time) → line_from n ts unread ≡ unread
unfolding line_from after_comma
from_missing zero ts = refl
from_missing (suc n) ts = from_missing n (ts ++ (malformed ∷ []))

-- fields before those that are found
abbrev before : List (List ℕ) → Parsed (List (List ℕ)) → Parsed (List (List ℕ))
before us (found vs rest) = found (us ++ vs) rest
before us unread = unread

before_none : (x : Parsed (List (List ℕ))) → before [] x ≡ x
before_none (found vs rest) = refl
before_none unread = refl

before_field : (us : List (List ℕ)) (v : List ℕ) (x : Parsed (List (List ℕ))) → before us (with_field v x) ≡ before (us ++ (v ∷ [])) x
before_field us v (found vs rest) = ap (λ fs. found fs rest) (sym (append_assoc us (v ∷ []) vs))
before_field us v unread = refl

-- a line with another number of fields is none of four
not_four : (fs : List (List ℕ)) (rest : List ℕ) → length fs ≢ 4 → four_fields (found fs rest) ≡ unread
unfolding four_fields
not_four fs rest h = rw (ne_eqb (length fs) 4 h) refl

-- a line has a field at least
abbrev Some : Parsed (List (List ℕ)) → Type 0
Some (found vs rest) = 1 ≤ length vs
Some unread = Unit {0}

some_more : (v : List ℕ) (x : Parsed (List (List ℕ))) → Some (with_field v x)
some_more v (found vs rest) = omega arith
some_more v unread = tt

some_after : (others : List ℕ → Parsed (List (List ℕ))) (x : Parsed (List ℕ)) → Some (after_field others x)
some_after others unread = tt
some_after others (found v []) = omega arith
some_after others (found v (b ∷ s)) =
    choice Some (eqb b COMMA) (λ e. some_more v (others s)) (λ e. choice Some (is_end (b ∷ s)) (λ f. omega arith) (λ f. tt))

some_fields : (m : ℕ) (s : List ℕ) → Some (fields m s)
unfolding fields
some_fields zero s = tt
some_fields (suc m) s = some_after (fields m) (field s)

too_many : (us : List (List ℕ)) (x : Parsed (List (List ℕ))) → 4 ≤ length us → Some x → four_fields (before us x) ≡ unread
unfolding four_fields
too_many us (found vs rest) h k = not_four (us ++ vs) rest (λ e. omega (arith, e, length-append us vs))
too_many us unread h k = refl

one_more : (us : List (List ℕ)) (v : List ℕ) → length (us ++ (v ∷ [])) ≡ length us + 1
one_more us v = length-append us (v ∷ [])

times_more : (us : List (List ℕ)) (v : List ℕ) → map time (us ++ (v ∷ [])) ≡ map time us ++ (time v ∷ [])
times_more us v = map-append time us (v ∷ [])

four : (us : List (List ℕ)) (v rest : List ℕ) → length us ≡ 3
    → four_fields (found (us ++ (v ∷ [])) rest) ≡ found (call_by (map time us ++ (time v ∷ []))) (drop (length CRLF) rest)
unfolding four_fields
four us v rest h = rw (eq-eqb (length (us ++ (v ∷ []))) 4 (omega (arith, h, one_more us v))) (ap (λ c. found c (drop (length CRLF) rest)) (call_by_lem (us ++ (v ∷ [])) ∙ ap call_by (times_more us v)))

comma_no_end : (b : ℕ) (s : List ℕ) → eqb b COMMA ≡ true → is_end (b ∷ s) ≡ false
unfolding is_end
comma_no_end b [] e = refl
comma_no_end b (c ∷ s) e = rw (eqb-true b COMMA e) refl

-- the last field, and one with fields after it
module _ (m : ℕ) (us : List (List ℕ)) where
  abbrev Reads : ℕ → Parsed (List ℕ) → Type 0
  Reads n x = four_fields (before us (after_field (fields m) x)) ≡ line_from n (map time us) (field_as_time x)

  -- by whether a comma follows, and whether the line ends
  last_by : (v : List ℕ) (b : ℕ) (s : List ℕ) → length us ≡ 3 → (r e : Bool) → eqb b COMMA ≡ r → is_end (b ∷ s) ≡ e → Reads 0 (found v (b ∷ s))
  unfolding four_fields line_from field_as_time
  last_by v b s h true e q z =
      rw (q, comma_no_end b s q) (ap four_fields (before_field us v (fields m s)) ∙ too_many (us ++ (v ∷ [])) (fields m s) (omega (arith, one_more us v)) (some_fields m s))
  last_by v b s h false true q z = rw (q, z) (four us v (b ∷ s) h)
  last_by v b s h false false q z = rw (q, z) refl

  last_field : (x : Parsed (List ℕ)) → length us ≡ 3 → Reads 0 x
  unfolding four_fields line_from field_as_time is_end
  last_field unread h = refl
  last_field (found v []) h = four us v [] h
  last_field (found v (b ∷ s)) h = last_by v b s h (eqb b COMMA) (is_end (b ∷ s)) refl refl

  module _ (n : ℕ) (after : (vs : List (List ℕ)) (s : List ℕ) → length vs + n ≡ 3 → length s < m → four_fields (before vs (fields m s)) ≡ line_from n (map time vs) (field_as_time (field s))) where
    ends_short : (v rest : List ℕ) → length us + suc n ≡ 3 → (ts : List Time) → four_fields (found (us ++ (v ∷ [])) rest) ≡ line_from n ts unread
    ends_short v rest h ts = not_four (us ++ (v ∷ [])) rest (λ e. omega (arith, e, h, one_more us v)) ∙ sym (from_missing n ts)

    next_by : (v : List ℕ) (b : ℕ) (s : List ℕ) → length us + suc n ≡ 3 → length s < m → (r e : Bool) → eqb b COMMA ≡ r → is_end (b ∷ s) ≡ e → Reads (suc n) (found v (b ∷ s))
    unfolding four_fields line_from field_as_time after_comma
    next_by v b s h k true e q z =
        rw (q, ← times_more us v) (ap four_fields (before_field us v (fields m s)) ∙ after (us ++ (v ∷ [])) s (omega (arith, h, one_more us v)) k)
    next_by v b s h k false true q z = rw (q, z) (ends_short v (b ∷ s) h _)
    next_by v b s h k false false q z = rw (q, z) (sym (from_missing n _))

    next_field : (x : Parsed (List ℕ)) → Within m x → length us + suc n ≡ 3 → Reads (suc n) x
    unfolding four_fields line_from field_as_time after_comma
    next_field unread w h = sym (from_missing n _)
    next_field (found v []) w h = ends_short v [] h _
    next_field (found v (b ∷ s)) w h = next_by v b s h w (eqb b COMMA) (is_end (b ∷ s)) refl refl

line_read : (n m : ℕ) (us : List (List ℕ)) (text : List ℕ) → length us + n ≡ 3 → length text < m
    → four_fields (before us (fields m text)) ≡ line_from n (map time us) (field_as_time (field text))
unfolding fields
line_read n zero us text h k = absurd (omega arith)
line_read zero (suc m) us text h k = last_field m us (field text) (omega (arith, h))
line_read (suc n) (suc m) us text h k =
    next_field m us n (λ vs s. line_read n m vs s) (field text) (within_more (length text) m (field text) (omega arith) (within_field text)) h

pub line_from_lem : (text : List ℕ) → line_at text ≡ line_from 3 [] (field_as_time (field text))
unfolding line_at read_line
line_from_lem text = ap four_fields (sym (before_none (fields (suc (length text)) text))) ∙ line_read 3 (suc (length text)) [] text refl (omega arith)
