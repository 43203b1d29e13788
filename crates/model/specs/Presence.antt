-- Request 5, "A firm's machine is down": which parties are present, which sets of parties are permitted, and the parties that an opening is worked from.
-- A set of parties is one number, the request's byte.
-- Assumes nothing.
use Rattle.std.specs.Prelude.{◌≡◌, ◌↔◌, Bool, true, false, cond, ◌&&◌, ℕ, zero, suc, ◌-◌, ◌/◌, ◌%◌, ◌^◌, ◌≤◌, ◌<◌, T, ltb, leb, eqb, length, take}
use mathlib.Core.List.{List, [], ◌∷◌, ◌++◌, Memᴰ as In}
use Rattle.algebra.specs.Lists.{Distinct, from}

-- bit i of a number, the lowest being bit 0
unfoldable pub bit : ℕ → ℕ → Bool
bit b zero = eqb (b % 2) 1
bit b (suc i) = bit (b / 2) i

-- "one byte whose bit j − 1 says that party j is present". There is no party 0.
abbrev pub is_present : ℕ → ℕ → Bool
is_present present zero = false
is_present present (suc i) = bit present i

-- those of some parties that are present, and those that are absent, each in their order
unfoldable pub present_in : ℕ → List ℕ → List ℕ
present_in present [] = []
present_in present (j ∷ js) = let rest = present_in present js in cond (is_present present j) (j ∷ rest) rest

unfoldable pub absent_in : ℕ → List ℕ → List ℕ
absent_in present [] = []
absent_in present (j ∷ js) = let rest = absent_in present js in cond (is_present present j) rest (j ∷ rest)

-- "Program `table` takes everyone as present": parties 1 to n
unfoldable pub everyone : ℕ → ℕ
everyone n = 2 ^ n - 1

-- "12, a bit beyond n is set or fewer than t + 1 parties are present": a set that is not refused
pub record PermittedSet (n t present : ℕ) : Type 0 where
  pub none_beyond : (j : ℕ) → n < j → is_present present j ≡ false
  pub enough : suc t ≤ length (present_in present (from 1 n))

-- and as a test
unfoldable pub permitted_set : ℕ → ℕ → ℕ → Bool
permitted_set n t present = ltb present (2 ^ n) && leb (suc t) (length (present_in present (from 1 n)))

-- "an opening is worked from the lowest t + 1 present parties". Where fewer are present, which 12 shuts out, the lowest absent ones follow, so that there
-- are always t + 1 of n parties and no claim about steps asks for a permitted set.
unfoldable pub openers : ℕ → ℕ → ℕ → List ℕ
openers n t present = let all = from 1 n in take (suc t) (present_in present all ++ absent_in present all)

-- what these words mean: t + 1 different parties, all present, and no present party that is left out is lower than one of them
pub record Lowest (n t present : ℕ) (xs : List ℕ) : Type 0 where
  pub count : length xs ≡ suc t
  pub distinct : Distinct xs
  pub parties : (z : ℕ) → In z xs → (1 ≤ z) × (z ≤ n)
  pub present_all : (z : ℕ) → In z xs → is_present present z ≡ true
  pub lowest : (z : ℕ) → 1 ≤ z → z ≤ n → is_present present z ≡ true → (In z xs → ⊥) → (x : ℕ) → In x xs → x < z

pub record Presence : Type 0 where
  -- the test is exact
  pub tested : (n t present : ℕ) → T (permitted_set n t present) ↔ PermittedSet n t present
  pub opened_from : (n t present : ℕ) → PermittedSet n t present → Lowest n t present (openers n t present)
  -- everyone: parties 1 to n are present and no others, it is a permitted set, and openings are worked from parties 1 to t + 1
  pub all_present : (n j : ℕ) → 1 ≤ j → j ≤ n → is_present (everyone n) j ≡ true
  pub all_permitted : (n t : ℕ) → t < n → PermittedSet n t (everyone n)
  pub all_open : (n t : ℕ) → t < n → openers n t (everyone n) ≡ from 1 (suc t)
