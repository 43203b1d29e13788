-- Fields read byte by byte: what was read stands before what the reader finds from the next place on.
-- Assumes nothing.
use Rattle.std.specs.Prelude.{Option, Some, None, unwrap_or, ltb}
use Rattle.std.proofs.lemmas.Bool.Decides.{nat_tests}
use Rattle.std.specs.List.{position_or_len}
use mathlib.Core.Path.{◌≡◌, refl, sym, ap, subst, ◌∙◌}
use mathlib.Core.Bool.{Bool, true, false, not, cond}
use mathlib.Core.List.{List, [], ◌∷◌, ◌++◌, append_assoc}
use Prim.Native.Nat.{ℕ, suc, ◌+◌, ◌≤◌}
use native.Mathlib.Omega.{arith}
use lib.ListN.{length, take, drop}
use Rattle.model.specs.Calls.{Parsed, found, unread, is_textdata, with_byte, plain, time}
use Rattle.calls.specs.declared.time.Time.{Time}
use Rattle.calls.specs.Meaning.{time_of, field_as_time, field_of}

-- bytes u that were read before
abbrev pub after : List ℕ → Parsed (List ℕ) → Parsed (List ℕ)
after u (found v rest) = found (u ++ v) rest
after u unread = unread

pub after_byte : (u : List ℕ) (b : ℕ) (x : Parsed (List ℕ)) → after u (with_byte b x) ≡ after (u ++ (b ∷ [])) x
after_byte u b (found v rest) = ap (λ w. found w rest) (sym (append_assoc u (b ∷ []) v))
after_byte u b unread = refl

pub after_nothing : (x : Parsed (List ℕ)) → x ≡ after [] x
after_nothing (found v rest) = refl
after_nothing unread = refl

-- where a plain field ends: at the first byte that is not TEXTDATA
abbrev pub stops : ℕ → Bool
stops b = not (is_textdata b)

abbrev Found : List ℕ → ℕ → Type 0
Found s n = (n ≤ length s) × (plain s ≡ found (take n s) (drop n s))

one_plus : (n : ℕ) → 1 + n ≡ suc n
one_plus n = omega arith

found_more : (b : ℕ) (s : List ℕ) (n : ℕ) → Found s n → (t : Bool) → (cond (not (not t)) (1 + n) 0 ≤ suc (length s))
    × (cond t (with_byte b (plain s)) (found [] (b ∷ s)) ≡ found (take (cond (not (not t)) (1 + n) 0) (b ∷ s)) (drop (cond (not (not t)) (1 + n) 0) (b ∷ s)))
found_more b s n f true = (omega (arith, f.0), rw (f.1, one_plus n) refl)
found_more b s n f false = (omega arith, refl)

pub plain_stops : (s : List ℕ) → Found s (position_or_len stops s)
unfolding plain
plain_stops [] = (omega arith, refl)
plain_stops (b ∷ s) = found_more b s (position_or_len stops s) (plain_stops s) (is_textdata b)

-- the same by the place of that byte, where there is one
pub by_place : (s : List ℕ) (r : Option ℕ) {n : ℕ} → r ≡ cond (ltb (position_or_len stops s) (length s)) (Some (position_or_len stops s)) None
    → n ≡ unwrap_or r (length s) → Found s n
by_place s r {n} e q = subst (Found s) (sym (q ∙ rw e (ended (position_or_len stops s) (length s) (plain_stops s).0))) (plain_stops s)
  where
    ended : (i n : ℕ) → i ≤ n → unwrap_or (cond (ltb i n) (Some i) None) n ≡ i
    ended i n h = grind (arith, nat_tests)

-- a plain field of i bytes as a time
pub plain_time : (text : List ℕ) (i : ℕ) (t : Time) → plain text ≡ found (take i text) (drop i text) → time_of t ≡ time (take i text)
    → field_of text (Some (record { time = t; next = i })) ≡ field_as_time (plain text)
unfolding field_as_time field_of
plain_time text i t e q = rw (e, q) refl
