-- What the RFC's grammar derives the reader of a line finds.
-- Assumes nothing.
use mathlib.Core.Path.{◌≡◌, refl, ap, ◌∙◌}
use mathlib.Core.Bool.{false}
use mathlib.Core.List.{List, [], ◌∷◌, ◌++◌, append_assoc}
use Prim.Native.Nat.{ℕ, zero, suc, ◌<◌}
use native.Mathlib.Omega.{arith}
use lib.Dec.{T, eqb}
use lib.ListN.{length, length-append}
use lib.Seq.{append_snoc}
use Rattle.algebra.specs.Lists.{All, none, one}
use Rattle.algebra.proofs.Tests.{is_true}
use Rattle.model.specs.Calls.{COMMA, CR, DQUOTE, LF, TEXTDATA, is_textdata, alone, Quoted, nothing, a_textdata, a_comma, a_cr, a_lf, a_2_dquote, Field, escaped, non_escaped, Record, last, more, Ends, at_end, at_crlf, Derives, Parsed, found, with_byte, plain, quoted, field, is_end, with_field, after_field, fields, read_line}
use Rattle.model.proofs.CallBytes.{textdata, no_quote, textdata_alone}

-- what may stand after a field
data After : List ℕ → Type 0 where
  the_end : {s next : List ℕ} → Ends s next → After s
  a_comma_lem : {s : List ℕ} → After (COMMA ∷ s)

-- a field ends before it: in quotes, without quotes, and an empty one
field_ends : {rest : List ℕ} → After rest → (quoted (DQUOTE ∷ rest) ≡ found [] rest) × (plain rest ≡ found [] rest) × (field rest ≡ found [] rest)
unfolding is_textdata plain quoted field
field_ends (the_end at_end) = (refl, refl, refl)
field_ends (the_end at_crlf) = (refl, refl, refl)
field_ends a_comma_lem = (refl, refl, refl)

-- between quotes: a byte that stands alone, and two quotes
quoted_alone : (b : ℕ) (s : List ℕ) {v rest : List ℕ} → eqb b DQUOTE ≡ false → T (alone b) → quoted s ≡ found v rest → quoted (b ∷ s) ≡ found (b ∷ v) rest
unfolding quoted
quoted_alone b [] e t q = rw e (ap (with_byte b) q)
quoted_alone b (c ∷ s) e t q = rw (e, is_true (alone b) t) (ap (with_byte b) q)

quoted_twice : (s : List ℕ) {v rest : List ℕ} → quoted s ≡ found v rest → quoted (DQUOTE ∷ DQUOTE ∷ s) ≡ found (DQUOTE ∷ v) rest
unfolding quoted
quoted_twice s q = ap (with_byte DQUOTE) q

quoted_found : {s v rest : List ℕ} → Quoted s v → After rest → quoted (s ++ (DQUOTE ∷ rest)) ≡ found v rest
unfolding alone is_textdata
quoted_found nothing A = (field_ends A).0
quoted_found (a_textdata t q) A = quoted_alone _ _ (no_quote t) (textdata_alone t) (quoted_found q A)
quoted_found (a_comma q) A = quoted_alone COMMA _ refl tt (quoted_found q A)
quoted_found (a_cr q) A = quoted_alone CR _ refl tt (quoted_found q A)
quoted_found (a_lf q) A = quoted_alone LF _ refl tt (quoted_found q A)
quoted_found (a_2_dquote q) A = quoted_twice _ (quoted_found q A)

plain_found : {s rest : List ℕ} → All TEXTDATA s → After rest → plain (s ++ rest) ≡ found s rest
unfolding plain
plain_found none A = (field_ends A).1
plain_found (one {x = b} t ts) A = rw (is_true (is_textdata b) ((textdata b).1 t)) (ap (with_byte b) (plain_found ts A))

field_found : {s v rest : List ℕ} → Field s v → After rest → field (s ++ rest) ≡ found v rest
unfolding field
field_found {rest = rest} (escaped {s} q) A = rw (append_snoc s DQUOTE rest) (quoted_found q A)
field_found (non_escaped none) A = (field_ends A).2
field_found (non_escaped (one t ts)) A = rw (no_quote t) (plain_found (one t ts) A)

after_end : (others : List ℕ → Parsed (List (List ℕ))) (v : List ℕ) {rest next : List ℕ} → Ends rest next → after_field others (found v rest) ≡ found (v ∷ []) rest
unfolding is_end
after_end others v at_end = refl
after_end others v at_crlf = refl

fields_found : {s rest next : List ℕ} {fs : List (List ℕ)} (most : ℕ) → Record s fs → Ends rest next → length s < most → fields most (s ++ rest) ≡ found fs rest
unfolding fields
fields_found zero R E h = absurd (omega arith)
fields_found (suc most) (last {v = v} F) E h = ap (after_field (fields most)) (field_found F (the_end E)) ∙ after_end (fields most) v E
fields_found {rest = rest} (suc most) (more {s} {r} {v} F R) E h =
    rw (append_assoc s (COMMA ∷ r) rest)
    (ap (after_field (fields most)) (field_found F a_comma_lem) ∙ ap (with_field v) (fields_found most R E (omega (arith, length-append s (COMMA ∷ r)))))

-- a record is no longer than its text, so that the reader tries enough fields
pub line_read : {text rest : List ℕ} {fs : List (List ℕ)} → Derives text fs rest → read_line text ≡ found fs rest
unfolding read_line
line_read {text} {rest} D =
    rw D.text_is (fields_found (suc (length (D.line ++ rest))) D.derived D.ends (omega (arith, length-append D.line rest)))
