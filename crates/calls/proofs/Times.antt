-- The digits of a time, summed one by one.
-- Assumes nothing.
use mathlib.Core.Path.{◌≡◌, refl, sym, ap, subst, ◌∙◌}
use mathlib.Core.Bool.{Bool, true, false, ◌&&◌, cond}
use mathlib.Core.List.{List, [], ◌∷◌}
use Prim.Native.Nat.{ℕ, ◌+◌, ◌*◌, ◌-◌, ◌^◌, ◌≤◌, ◌<◌}
use native.Mathlib.Nat.{pow-suc}
use native.Mathlib.Numerals.{add-one}
use native.Mathlib.Omega.{arith}
use borrow.Author.Tests.{lt-leb, le-leb}
use lib.Dec.{T, leb, leb→le}
use lib.ListN.{length, get_or, drop, drop_of_length-le}
use lib.Seq.{drop-cons}
use Rattle.algebra.proofs.Tests.{and_left, and_right, every_at}
use Rattle.model.specs.Calls.{absent, second, malformed, is_digit, all_digits, decimal_from, time}

pub digit_range : (b : ℕ) → is_digit b ≡ true → (48 ≤ b) × (b ≤ 57)
unfolding is_digit
digit_range b e =
    let t : T (leb 48 b && leb b 57) = subst T (sym e) tt in
    (leb→le 48 b (and_left (leb 48 b) (leb b 57) t), leb→le b 57 (and_right (leb 48 b) (leb b 57) t))

pub empty_time : (text : List ℕ) → length text ≡ 0 → absent ≡ time text
unfolding time
empty_time [] e = refl
empty_time (b ∷ s) e = absurd (omega arith)

pub long_time : (text : List ℕ) → 7 < length text → malformed ≡ time text
unfolding time
long_time [] h = absurd (omega arith)
long_time (b ∷ s) h = rw (lt-leb (length (b ∷ s)) 7 h) refl

pub no_time : (text : List ℕ) → 1 ≤ length text → all_digits text ≡ false → time text ≡ malformed
unfolding time
no_time [] h f = absurd (omega arith)
no_time (b ∷ s) h f = rw f (go (leb (length (b ∷ s)) 7))
  where
    go : (x : Bool) → cond (x && false) (second (decimal_from 0 (b ∷ s))) malformed ≡ malformed
    go true = refl
    go false = refl

pub a_time : (text : List ℕ) → 1 ≤ length text → length text ≤ 7 → all_digits text ≡ true → time text ≡ second (decimal_from 0 text)
unfolding time
a_time [] h k e = absurd (omega arith)
a_time (b ∷ s) h k e = rw (e, le-leb (length (b ∷ s)) 7 k) refl

-- after i digits of the text, which spell v
pub record Summing (text : List ℕ) (i v : ℕ) : Type 0 where
  pub some : 1 ≤ length text
  pub few : length text ≤ 7
  pub within : i ≤ length text
  pub digits : all_digits text ≡ all_digits (drop i text)
  pub spells : decimal_from 0 text ≡ decimal_from v (drop i text)
  pub below : v < 10 ^ i

pub summing_start : (text : List ℕ) → 1 ≤ length text → length text ≤ 7 → Summing text 0 0
summing_start text h k = record { some = h; few = k; within = omega arith; digits = refl; spells = refl; below = omega arith }

ten_to : (i : ℕ) → i < 7 → 10 ^ i ≤ 1000000
ten_to i h = leb→le (10 ^ i) 1000000 (every_at 7 (λ k. leb (10 ^ k) 1000000) tt i h)

module _ {text : List ℕ} {i v : ℕ} (S : Summing text i v) where
  pub summing_room : i < length text → v < 1000000
  summing_room h = omega (arith, S.few, S.below, ten_to i (omega (arith, S.few)))

  pub summing_more : {r : Bool} {d : ℕ} → i < length text → r ≡ is_digit (get_or text i 0) → r ≡ true → d ≡ get_or text i 0 - 48
      → Summing text (i + 1) (10 * v + d)
  unfolding all_digits decimal_from
  summing_more h q e z =
      record {
        some = S.some;
        few = S.few;
        within = omega arith;
        digits = S.digits ∙ (rw (add-one, drop-cons text i 0 h, ← q, e) refl);
        spells = S.spells ∙ (rw (add-one, drop-cons text i 0 h, z) refl);
        below = rw add-one (omega (arith, S.below, digit_range (get_or text i 0) (sym q ∙ e), pow-suc 10 i, z));
      }

  pub summing_stops : {r : Bool} → i < length text → r ≡ is_digit (get_or text i 0) → r ≡ false → malformed ≡ time text
  unfolding all_digits
  summing_stops h q e = sym (no_time text S.some (S.digits ∙ rw (drop-cons text i 0 h, ← q, e) refl))

  pub summing_ends : length text ≤ i → second v ≡ time text
  unfolding all_digits decimal_from
  summing_ends h =
      let d : drop i text ≡ [] = drop_of_length-le text {i = i} h in
      sym (a_time text S.some S.few (S.digits ∙ ap all_digits d) ∙ ap second (S.spells ∙ ap (decimal_from v) d))
