-- Fields in quotes read byte by byte. What stands between the quotes is the same time as the field's value: where they differ there is a quote in both,
-- and that is no digit.
-- Assumes nothing.
use Rattle.std.proofs.Common.{Some, None}
use mathlib.Core.Path.{◌≡◌, refl, sym, ap, ◌∙◌}
use mathlib.Core.Logic.{◌≢◌}
use mathlib.Core.Bool.{Bool, true, false, ◌&&◌, cond}
use mathlib.Core.List.{List, [], ◌∷◌, ◌++◌, append-nil}
use Prim.Native.Nat.{ℕ, suc, ◌+◌, ◌≤◌, ◌<◌}
use native.Mathlib.Decide.{dec_lt}
use native.Mathlib.Numerals.{add-one}
use native.Mathlib.Omega.{arith}
use borrow.Author.Tests.{eq-eqb, ne_eqb, eqb-true}
use lib.Dec.{eqb}
use lib.ListN.{length, get_or, take, drop, drop_of_length-le}
use lib.Seq.{drop-cons, take-suc}
use Rattle.algebra.proofs.Tests.{true_false}
use Rattle.model.specs.Calls.{DQUOTE, Parsed, found, unread, alone, with_byte, quoted, is_digit, all_digits, malformed, time}
use Rattle.calls.specs.Meaning.{field_as_time, closed_at, is_first}
use Rattle.calls.proofs.Times.{no_time}
use Rattle.calls.proofs.Scanning.{after, after_byte, after_nothing}

-- the raw text between quotes and the value that it stands for: equal, or neither is digits
pub data Same (raw said : List ℕ) : Type 0 where
  equal : raw ≡ said → Same raw said
  neither : all_digits raw ≡ false → all_digits said ≡ false → Same raw said

still_false : (r : Bool) {s t : Bool} → r && s ≡ false → (s ≡ false → t ≡ false) → r && t ≡ false
still_false true e f = f e
still_false false e f = refl

digits_left : (x y : List ℕ) → all_digits x ≡ false → all_digits (x ++ y) ≡ false
unfolding all_digits
digits_left [] y e = absurd (true_false e)
digits_left (b ∷ x) y e = still_false (is_digit b) e (digits_left x y)

quote_no_digit : (x y : List ℕ) → all_digits (x ++ (DQUOTE ∷ y)) ≡ false
unfolding all_digits is_digit
quote_no_digit [] y = refl
quote_no_digit (b ∷ x) y = rw (quote_no_digit x y) (go (is_digit b))
  where
    go : (r : Bool) → r && false ≡ false
    go true = refl
    go false = refl

same_byte : {raw said : List ℕ} (b : ℕ) → Same raw said → Same (raw ++ (b ∷ [])) (said ++ (b ∷ []))
same_byte b (equal e) = equal (ap (λ x. x ++ (b ∷ [])) e)
same_byte b (neither e f) = neither (digits_left _ _ e) (digits_left _ _ f)

no_digits : (x : List ℕ) → all_digits x ≡ false → time x ≡ malformed
unfolding all_digits
no_digits [] e = absurd (true_false e)
no_digits (b ∷ x) e = no_time (b ∷ x) (omega arith) e

same_time : {raw said : List ℕ} → Same raw said → time raw ≡ time said
same_time (equal e) = ap time e
same_time (neither e f) = no_digits _ e ∙ sym (no_digits _ f)

-- one byte of a field in quotes
quoted_step : (b : ℕ) (s : List ℕ) → quoted (b ∷ s)
    ≡ cond (eqb b DQUOTE) (cond (is_first DQUOTE s) (with_byte DQUOTE (quoted (drop 1 s))) (found [] s)) (cond (alone b) (with_byte b (quoted s)) unread)
unfolding quoted is_first
quoted_step b [] = ap (λ (x : Parsed (List ℕ)). cond (eqb b DQUOTE) (found [] []) x) (go (alone b))
  where
    go : (r : Bool) → ◌≡◌ {A = Parsed (List ℕ)} unread (cond r unread unread)
    go true = refl
    go false = refl
quoted_step b (c ∷ s) = refl

two : (i : ℕ) → i + 2 ≡ suc (suc i)
two i = omega arith

quote_there : (s : List ℕ) (i : ℕ) → is_first DQUOTE (drop i s) ≡ true → (i < length s) × (get_or s i 0 ≡ DQUOTE)
unfolding is_first
quote_there s i e = go (dec_lt i (length s))
  where
    go : Dec (i < length s) → (i < length s) × (get_or s i 0 ≡ DQUOTE)
    go (yes h) = (h, eqb-true (get_or s i 0) DQUOTE (sym (ap (is_first DQUOTE) (drop-cons s i 0 h)) ∙ e))
    go (no h) = absurd (true_false (sym e ∙ ap (is_first DQUOTE) (drop_of_length-le s {i = i} (omega arith))))

-- after i bytes between the quotes
pub record Quoting (text : List ℕ) (i : ℕ) : Type 0 where
  pub within : i ≤ length text
  pub said : List ℕ
  pub same : Same (take i text) said
  pub rest : quoted text ≡ after said (quoted (drop i text))

pub quoting_start : (text : List ℕ) → Quoting text 0
quoting_start text = record { within = omega arith; said = []; same = equal refl; rest = after_nothing (quoted text) }

module _ {text : List ℕ} {i : ℕ} (Q : Quoting text i) where
  -- by the byte that stands here
  step : i < length text → quoted text ≡ after Q.said
      (cond (eqb (get_or text i 0) DQUOTE)
      (cond (is_first DQUOTE (drop (suc i) text)) (with_byte DQUOTE (quoted (drop 1 (drop (suc i) text)))) (found [] (drop (suc i) text)))
      (cond (alone (get_or text i 0)) (with_byte (get_or text i 0) (quoted (drop (suc i) text))) unread))
  step h = Q.rest ∙ ap (after Q.said) (ap quoted (drop-cons text i 0 h) ∙ quoted_step _ _)

  pub quoting_more : {r : Bool} → i < length text → get_or text i 0 ≢ DQUOTE → r ≡ alone (get_or text i 0) → r ≡ true → Quoting text (i + 1)
  quoting_more h n q e =
      record {
        within = omega arith;
        said = Q.said ++ (get_or text i 0 ∷ []);
        same = rw (add-one, take-suc text i 0 h) (same_byte (get_or text i 0) Q.same);
        rest = step h ∙ rw (add-one, ne_eqb _ DQUOTE n, ← q, e) (after_byte Q.said (get_or text i 0) (quoted (drop (suc i) text)));
      }

  pub quoting_two : {r : Bool} → i < length text → get_or text i 0 ≡ DQUOTE → r ≡ is_first DQUOTE (drop (i + 1) text) → r ≡ true → Quoting text (i + 2)
  quoting_two h d q e =
      let Z = quote_there text (suc i) (rw (← add-one i) (sym q ∙ e)) in
      record {
        within = omega (arith, Z.0);
        said = Q.said ++ (DQUOTE ∷ []);
        same = rw (two i, take-suc text (suc i) 0 Z.0, Z.1) (neither (quote_no_digit (take (suc i) text) []) (quote_no_digit Q.said []));
        rest =
            step h
            ∙ rw (eq-eqb _ DQUOTE d, ← add-one i, ← q, e, add-one i, two i, drop-cons text (suc i) 0 Z.0) (after_byte Q.said DQUOTE (quoted (drop (suc (suc i)) text)));
      }

  pub quoting_closed : {r : Bool} → i < length text → get_or text i 0 ≡ DQUOTE → r ≡ is_first DQUOTE (drop (i + 1) text) → r ≡ false
      → closed_at text (Some i) ≡ field_as_time (quoted text)
  unfolding closed_at field_as_time
  quoting_closed h d q e =
      rw (step h, eq-eqb _ DQUOTE d, ← add-one i, ← q, e) (ap (λ t. found t (drop (i + 1) text)) (same_time Q.same ∙ ap time (sym (append-nil Q.said))))

  open_end : quoted text ≡ unread → closed_at text None ≡ field_as_time (quoted text)
  unfolding closed_at field_as_time
  open_end e = rw e refl

  pub quoting_breaks : {r : Bool} → i < length text → get_or text i 0 ≢ DQUOTE → r ≡ alone (get_or text i 0) → r ≡ false
      → closed_at text None ≡ field_as_time (quoted text)
  quoting_breaks h n q e = open_end (step h ∙ rw (ne_eqb _ DQUOTE n, ← q, e) refl)

  pub quoting_ends : length text ≤ i → closed_at text None ≡ field_as_time (quoted text)
  unfolding quoted
  quoting_ends h = open_end (Q.rest ∙ rw (drop_of_length-le text {i = i} h) refl)
