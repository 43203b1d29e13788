-- The digits of a time and the number that they spell, against `Decimal`.
-- Assumes nothing.
use mathlib.Core.Path.{◌≡◌, refl, subst}
use mathlib.Core.Bool.{true}
use mathlib.Core.List.{List, [], ◌∷◌, ◌++◌, append-nil}
use Prim.Native.Nat.{ℕ, ◌+◌, ◌*◌, ◌-◌, ◌≤◌, ◌<◌, ◌^◌}
use native.Mathlib.Nat.{pow-le-pow_right}
use native.Mathlib.Numerals.{add-one}
use native.Mathlib.Omega.{arith}
use lib.Dec.{T}
use lib.ListN.{length, length-append}
use lib.Seq.{append_snoc}
use Rattle.algebra.proofs.Tests.{and_left, and_right, and_both}
use Rattle.model.specs.Calls.{is_digit, all_digits, decimal_from}
use Rattle.model.specs.CallLists.{Decimal, no_digit, digit, Spells}
use Rattle.model.proofs.CallBytes.{between}

-- one digit more at the end
spelt_more : (v : ℕ) (s : List ℕ) (b : ℕ) → decimal_from v (s ++ (b ∷ [])) ≡ 10 * decimal_from v s + (b - 48)
unfolding decimal_from
spelt_more v [] b = refl
spelt_more v (c ∷ s) b = spelt_more (10 * v + (c - 48)) s b

digits_more : (s : List ℕ) (b : ℕ) → T (all_digits s) → T (is_digit b) → T (all_digits (s ++ (b ∷ [])))
unfolding all_digits
digits_more [] b t u = and_both (is_digit b) true u tt
digits_more (c ∷ s) b t u = and_both (is_digit c) _ (and_left (is_digit c) (all_digits s) t) (digits_more s b (and_right (is_digit c) (all_digits s) t) u)

decimal_more : {s : List ℕ} {x : ℕ} (b : ℕ) → Decimal s x → T (is_digit b) → Decimal (s ++ (b ∷ [])) (10 * x + (b - 48))
unfolding is_digit
decimal_more {s} {x} b D t =
    let h = (between 48 b 57).0 t in
    let e : 48 + (b - 48) ≡ b = omega arith in
    subst (λ (c : ℕ). Decimal (s ++ (c ∷ [])) (10 * x + (b - 48))) e (digit D (omega arith))

-- what is derived passes the test, and is what `spelt` gives
pub digits_are : {s : List ℕ} {x : ℕ} → Decimal s x → T (all_digits s)
unfolding all_digits is_digit
digits_are no_digit = tt
digits_are (digit {s} {d = d} D h) = digits_more s (48 + d) (digits_are D) ((between 48 (48 + d) 57).1 (omega arith))

pub number_is : {s : List ℕ} {x : ℕ} → Decimal s x → x ≡ decimal_from 0 s
unfolding decimal_from
number_is no_digit = refl
number_is (digit {s} {d = d} D h) = omega (arith, number_is D, spelt_more 0 s (48 + d))

-- what passes the test is derived
decimal_after : (r : List ℕ) {s : List ℕ} {x : ℕ} → Decimal s x → T (all_digits r) → Decimal (s ++ r) (decimal_from x r)
unfolding all_digits decimal_from
decimal_after [] {s} D t = rw (append-nil s) D
decimal_after (b ∷ r) {s} D t =
    rw (← append_snoc s b r) (decimal_after r (decimal_more b D (and_left (is_digit b) (all_digits r) t)) (and_right (is_digit b) (all_digits r) t))

pub decimal : (s : List ℕ) → T (all_digits s) → Decimal s (decimal_from 0 s)
decimal s = decimal_after s no_digit

-- n digits spell a number below 10 ^ n, so that a time is at most 9,999,999
below_power : {s : List ℕ} {x : ℕ} → Decimal s x → x < 10 ^ length s
below_power no_digit = omega arith
below_power (digit {s} {d = d} D h) = rw (length-append, add-one) (omega (arith, below_power D))

pub at_most : {s : List ℕ} {x : ℕ} → Spells s x → x ≤ 9999999
at_most S = omega (arith, below_power S.decimal, pow-le-pow_right {n = 10} (omega arith) S.seven)
