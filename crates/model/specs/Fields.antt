-- The paper, "Fields and parties": the four fields, which of them are in use, and who may share with which threshold; the refusals 2 and 3.
-- Assumes nothing.
use Rattle.std.specs.Prelude.{◌≡◌, ◌↔◌, Bool, false, ◌&&◌, ◌||◌, List, [], ◌∷◌, ◌++◌, ℕ, zero, suc, ◌+◌, ◌-◌, ◌*◌, ◌/◌, ◌%◌, ◌^◌, ◌≤◌, ◌<◌, T, leb, eqb, get_or}
use Rattle.algebra.specs.Ring.{mul}

-- "Four fields are held in one constant table": number, p, bits ℓ, largest k.
unfoldable pub modulus : ℕ → ℕ
modulus f = get_or (13 ∷ 251 ∷ 65521 ∷ 2147483647 ∷ []) f 0

unfoldable pub bits : ℕ → ℕ
bits f = get_or (4 ∷ 8 ∷ 16 ∷ 31 ∷ []) f 0

unfoldable pub largest_k : ℕ → ℕ
largest_k f = get_or (3 ∷ 7 ∷ 15 ∷ 30 ∷ []) f 0

-- The numbers of the fields in use. What is claimed of fields is claimed of these.
abbrev pub fields_in_use : List ℕ
fields_in_use = 0 ∷ 1 ∷ 2 ∷ 3 ∷ []

-- a number stands in a list
abbrev pub among : ℕ → List ℕ → Bool
among x [] = false
among x (y ∷ ys) = eqb x y || among x ys

unfoldable pub in_use : ℕ → Bool
in_use f = among f fields_in_use

abbrev pub InUse : ℕ → Type 0
InUse f = T (in_use f)

-- the test is exact: "2: field over 3"
abbrev pub FieldsTested : Type 0
FieldsTested = (f : ℕ) → InUse f ↔ (f < 4)

-- 1/d modulo p for d from 1 to 7, and 0 for 0: (1 + k p) / d with the k below d that leaves no remainder. (p^12 is 1 modulo d.)
unfoldable pub inverse : ℕ → ℕ → ℕ
inverse p zero = 0
inverse p (suc e) = (1 + e * p ^ 11 % suc e * p) / suc e

-- 2^m modulo p, and its inverse: 1 halved m times, and to halve is to multiply by (p + 1) / 2
unfoldable pub power_of_2 : ℕ → ℕ → ℕ
power_of_2 p m = 2 ^ m % p

unfoldable pub inverse_power_of_2 : ℕ → ℕ → ℕ
inverse_power_of_2 p zero = 1
inverse_power_of_2 p (suc m) = mul p ((p + 1) / 2) (inverse_power_of_2 p m)

-- p is the modulus of a field in use, with what arithmetic uses of it. Nothing asks that p is prime.
pub record Modulus (p : ℕ) : Type 0 where
  pub number : ℕ
  pub in_use : InUse number
  pub is : p ≡ modulus number
  pub above : 7 < p
  pub odd : p % 2 ≡ 1
  pub word : p < 2 ^ 31
  pub units : (d : ℕ) → 0 < d → d < 8 → mul p d (inverse p d) ≡ 1

-- What else is used of p, its bits l and its largest k.
pub record Field (p l k : ℕ) : Type 0 where
  pub modulus_is : Modulus p
  pub bits_hold : p < 2 ^ l
  pub bits_needed : 2 ^ (l - 1) < p
  pub range_fits : 2 ^ k < p
  pub k_least : 2 ≤ k
  pub k_most : k < 31
  pub k_is : suc k ≡ l

-- "Parties: 3 to 7, threshold t at least 1, 2t + 1 at most n."
pub record Parties (n t : ℕ) : Type 0 where
  pub least : 3 ≤ n
  pub most : n ≤ 7
  pub threshold : 1 ≤ t
  pub majority : 2 * t + 1 ≤ n

-- `Parties` as a test
unfoldable pub parties : ℕ → ℕ → Bool
parties n t = leb 3 n && leb n 7 && leb 1 t && leb (2 * t + 1) n

-- the test is exact
abbrev pub PartiesTested : Type 0
PartiesTested = (n t : ℕ) → T (parties n t) ↔ Parties n t

-- Tests, each of what must hold, with the number of its refusal: "2: field over 3"
unfoldable pub field_tests : ℕ → List (Bool × ℕ)
field_tests f = (in_use f, 2) ∷ []

-- and after it "3: n or t outside the ranges"
unfoldable pub setting_tests : ℕ → ℕ → ℕ → List (Bool × ℕ)
setting_tests f n t = field_tests f ++ ((parties n t, 3) ∷ [])

-- Every field in use has the facts of `Field`, and there `inverse_power_of_2` is the inverse of 2^m.
pub record EveryField : Type 0 where
  pub field : (f : ℕ) → InUse f → Field (modulus f) (bits f) (largest_k f)
  pub inverses : (f m : ℕ) → InUse f → mul (modulus f) (power_of_2 (modulus f) m) (inverse_power_of_2 (modulus f) m) ≡ 1
