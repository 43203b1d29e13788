-- What the reader of a line finds the RFC's grammar derives; so the two agree, and no text has two readings.
-- Assumes nothing.
use mathlib.Core.Path.{◌≡◌, refl, sym, ap, subst, ◌∙◌}
use mathlib.Core.List.{List, [], ◌∷◌, ◌++◌, append_assoc}
use Prim.Native.Nat.{ℕ, zero, suc}
use borrow.Author.Tests.{eqb-true}
use lib.Dec.{T, eqb, eqb→eq}
use lib.ListN.{length, drop}
use lib.Seq.{append_snoc}
use Rattle.algebra.specs.Lists.{All, none, one}
use Rattle.algebra.proofs.Tests.{and_left, and_right, choice}
use Rattle.model.specs.Calls.{COMMA, CR, CRLF, DQUOTE, LF, TEXTDATA, is_textdata, alone, Quoted, nothing, a_2_dquote, Field, escaped, non_escaped, last, more, Ends, at_end, at_crlf, Derives, Parsed, found, unread, with_byte, plain, quoted, field, is_end, with_field, after_field, fields, read_line}
use Rattle.model.specs.CallLists.{Reads}
use Rattle.model.proofs.CallBytes.{textdata, one_alone}
use Rattle.model.proofs.CallFound.{line_read}

-- a property of what a reader finds and of the text after it
abbrev Finds : {A : Type 0} → (A → List ℕ → Type 0) → Parsed A → Type 0
Finds P (found v rest) = P v rest
Finds P unread = Unit {0}

-- the text begins with a text of which P holds, before rest
record Begins (P : List ℕ → Type 0) (text rest : List ℕ) : Type 0 where
  front : List ℕ
  holds : P front
  text_is : text ≡ front ++ rest

begins : (P : List ℕ → Type 0) {rest : List ℕ} (s : List ℕ) → P s → Begins P (s ++ rest) rest
begins P s h = record { front = s; holds = h; text_is = refl }

-- bytes more before the text
longer : {P Q : List ℕ → Type 0} {text rest : List ℕ} (bs : List ℕ) → ((s : List ℕ) → P s → Q (bs ++ s)) → Begins P text rest → Begins Q (bs ++ text) rest
longer {rest = rest} bs k B =
    record {
      front = bs ++ B.front;
      holds = k B.front B.holds;
      text_is = ap (λ (l : List ℕ). bs ++ l) B.text_is ∙ sym (append_assoc bs B.front rest);
    }

-- what follows from it; and with one byte more before what a field says, and one field more before those of a record
found_in : {A : Type 0} (P Q : A → List ℕ → Type 0) (r : Parsed A) → ((v : A) (rest : List ℕ) → P v rest → Q v rest) → Finds P r → Finds Q r
found_in P Q (found v rest) k h = k v rest h
found_in P Q unread k h = tt

with_byte_lem : (P Q : List ℕ → List ℕ → Type 0) (b : ℕ) (r : Parsed (List ℕ)) → ((v rest : List ℕ) → P v rest → Q (b ∷ v) rest) → Finds P r
    → Finds Q (with_byte b r)
with_byte_lem P Q b (found v rest) k h = k v rest h
with_byte_lem P Q b unread k h = tt

with_field_lem : (P Q : List (List ℕ) → List ℕ → Type 0) (v : List ℕ) (r : Parsed (List (List ℕ)))
    → ((vs : List (List ℕ)) (rest : List ℕ) → P vs rest → Q (v ∷ vs) rest) → Finds P r → Finds Q (with_field v r)
with_field_lem P Q v (found vs rest) k h = k vs rest h
with_field_lem P Q v unread k h = tt

-- what is found between quotes, before the quote that ends it
abbrev Quotes : List ℕ → List ℕ → List ℕ → Type 0
Quotes text v rest = Begins (λ s. Quoted s v) text (DQUOTE ∷ rest)

quotes : (text : List ℕ) → Finds (Quotes text) (quoted text)
unfolding quoted
quotes [] = tt
quotes (b ∷ []) = choice (Finds (Quotes (b ∷ []))) (eqb b DQUOTE) (λ e. rw (eqb-true b DQUOTE e) (begins _ [] nothing)) (λ _. tt)
quotes (b ∷ c ∷ s) =
    choice (Finds (Quotes (b ∷ c ∷ s))) (eqb b DQUOTE)
    (λ e. rw (eqb-true b DQUOTE e) (choice (Finds (Quotes (DQUOTE ∷ c ∷ s))) (eqb c DQUOTE)
    (λ q. subst (λ z. Finds (Quotes (DQUOTE ∷ z ∷ s)) (with_byte DQUOTE (quoted s))) (sym (eqb-true c DQUOTE q))
    (with_byte_lem (Quotes s) (Quotes (DQUOTE ∷ DQUOTE ∷ s)) DQUOTE (quoted s) (λ v rest. longer (DQUOTE ∷ DQUOTE ∷ []) (λ s. a_2_dquote)) (quotes s)))
    (λ _. begins _ [] nothing)))
    (λ _. choice (Finds (Quotes (b ∷ c ∷ s))) (alone b)
    (λ t. with_byte_lem (Quotes (c ∷ s)) (Quotes (b ∷ c ∷ s)) b (quoted (c ∷ s)) (λ v rest. longer (b ∷ []) (λ s. one_alone b (rw t tt))) (quotes (c ∷ s))) (λ _. tt))

-- what is found as TEXTDATA says itself
abbrev Plain : List ℕ → List ℕ → List ℕ → Type 0
Plain text v rest = (All TEXTDATA v) × (text ≡ v ++ rest)

plains : (text : List ℕ) → Finds (Plain text) (plain text)
unfolding plain
plains [] = (none, refl)
plains (b ∷ s) =
    choice (Finds (Plain (b ∷ s))) (is_textdata b)
    (λ t. with_byte_lem (Plain s) (Plain (b ∷ s)) b (plain s) (λ v rest h. (one ((textdata b).0 (rw t tt)) h.0, ap (λ (l : List ℕ). b ∷ l) h.1)) (plains s))
    (λ _. (none, refl))

-- a field, in quotes or without
abbrev Fielded : List ℕ → List ℕ → List ℕ → Type 0
Fielded text v rest = Begins (λ s. Field s v) text rest

-- a quote before and one after what stands between quotes
closed : {text v rest : List ℕ} → Quotes text v rest → Fielded (DQUOTE ∷ text) v rest
closed {rest = rest} B =
    record {
      front = DQUOTE ∷ (B.front ++ (DQUOTE ∷ []));
      holds = escaped B.holds;
      text_is = ap (λ (l : List ℕ). DQUOTE ∷ l) (B.text_is ∙ sym (append_snoc B.front DQUOTE rest));
    }

fielded : (text : List ℕ) → Finds (Fielded text) (field text)
unfolding field
fielded [] = begins _ [] (non_escaped none)
fielded (b ∷ s) =
    choice (Finds (Fielded (b ∷ s))) (eqb b DQUOTE)
    (λ e. rw (eqb-true b DQUOTE e) (found_in (Quotes s) (Fielded (DQUOTE ∷ s)) (quoted s) (λ v rest. closed) (quotes s)))
    (λ _. found_in (Plain (b ∷ s)) (Fielded (b ∷ s)) (plain (b ∷ s)) (λ v rest h. record { front = v; holds = non_escaped h.0; text_is = h.1 }) (plains (b ∷ s)))

ends_here : (s : List ℕ) → T (is_end s) → Ends s (drop (length CRLF) s)
unfolding is_end
ends_here [] t = at_end
ends_here (b ∷ []) t = absurd t
ends_here (b ∷ c ∷ s) t = rw (eqb→eq b CR (and_left (eqb b CR) (eqb c LF) t), eqb→eq c LF (and_right (eqb b CR) (eqb c LF) t)) at_crlf

-- the line of one field that ends here, and that of a field and a comma before another line
last_field : {text v rest next : List ℕ} → Ends rest next → Fielded text v rest → Derives text (v ∷ []) rest
last_field {next = next} E B = record { line = B.front; derived = last B.holds; text_is = B.text_is; next = next; ends = E }

field_more : {text v s rest : List ℕ} {vs : List (List ℕ)} → Fielded text v (COMMA ∷ s) → Derives s vs rest → Derives text (v ∷ vs) rest
field_more {rest = rest} B D =
    record {
      line = B.front ++ (COMMA ∷ D.line);
      derived = more B.holds D.derived;
      text_is = B.text_is ∙ ap (λ (l : List ℕ). B.front ++ (COMMA ∷ l)) D.text_is ∙ sym (append_assoc B.front (COMMA ∷ D.line) rest);
      next = D.next;
      ends = D.ends;
    }

after_field_lem : (others : List ℕ → Parsed (List (List ℕ))) → ((s : List ℕ) → Finds (Derives s) (others s)) → (text : List ℕ) (r : Parsed (List ℕ))
    → Finds (Fielded text) r → Finds (Derives text) (after_field others r)
after_field_lem others k text (found v []) B = last_field at_end B
after_field_lem others k text (found v (b ∷ s)) B =
    choice (Finds (Derives text)) (eqb b COMMA)
    (λ e. with_field_lem (Derives s) (Derives text) v (others s) (λ vs rest. field_more (rw (eqb-true b COMMA e) at B)) (k s))
    (λ _. choice (Finds (Derives text)) (is_end (b ∷ s)) (λ t. last_field (ends_here (b ∷ s) (rw t tt)) B) (λ _. tt))
after_field_lem others k text unread B = tt

derives : (most : ℕ) (text : List ℕ) → Finds (Derives text) (fields most text)
unfolding fields
derives zero text = tt
derives (suc most) text = after_field_lem (fields most) (derives most) text (field text) (fielded text)

pub line_found : (text rest : List ℕ) (fs : List (List ℕ)) → read_line text ≡ found fs rest → Derives text fs rest
unfolding read_line
line_found text rest fs e = rw e at (derives (suc (length text)) text)

-- a reading finds one thing
pub same_found : {A : Type 0} {r : Parsed A} {v v' : A} {rest rest' : List ℕ} → r ≡ found v rest → r ≡ found v' rest' → (v ≡ v') × (rest ≡ rest')
same_found e e' = (cc, cc)

pub reads : Reads
reads =
    record {
      exact = λ text rest fs. (line_found text rest fs, line_read);
      one_reading = λ text rest rest' fs fs' D D'. same_found (line_read D) (line_read D');
    }
