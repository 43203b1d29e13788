-- Lists: every number below a bound, no number twice, the same numbers, the first element, runs of numbers, sums, and what a lent list
-- holds after a write.
-- Assumes nothing.
use Rattle.std.specs.Prelude.{◌≢◌, Bool, true, false, ◌&&◌, ℕ, zero, suc, ◌+◌, ◌<◌, ltb, eqb, length, get_or, take, drop}
use mathlib.Core.List.{List, [], ◌∷◌, ◌++◌, Memᴰ as In}

-- every number of xs is below p
pub record Below (p : ℕ) (xs : List ℕ) : Type 0 where
  pub at : (i : ℕ) → i < length xs → get_or xs i 0 < p

-- `Below` as a test
unfoldable pub all_below : ℕ → List ℕ → Bool
all_below p [] = true
all_below p (x ∷ xs) = ltb x p && all_below p xs

-- every element has the property
pub data All {A : Type 0} (P : A → Type 0) : List A → Type 0 where
  none : All P []
  one : {x : A} {xs : List A} → P x → All P xs → All P (x ∷ xs)

-- no number stands twice in the list
abbrev pub Distinct : List ℕ → Type 0
Distinct [] = Unit {0}
Distinct (x ∷ xs) = ((z : ℕ) → In z xs → z ≢ x) × Distinct xs

-- two lists are the same
unfoldable pub same_list : List ℕ → List ℕ → Bool
same_list [] [] = true
same_list [] (y ∷ ys) = false
same_list (x ∷ xs) [] = false
same_list (x ∷ xs) (y ∷ ys) = eqb x y && same_list xs ys

-- the first of a list, or another where it has none; and the others
abbrev pub first : {A : Type 0} → A → List A → A
first d [] = d
first d (x ∷ xs) = x

abbrev pub others : {A : Type 0} → List A → List A
others [] = []
others (x ∷ xs) = xs

-- k, k + 1, .., k + m - 1
unfoldable pub from : ℕ → ℕ → List ℕ
from k zero = []
from k (suc m) = k ∷ from (suc k) m

-- the sum of g x over the numbers x of a list
unfoldable pub total : List ℕ → (ℕ → ℕ) → ℕ
total [] g = 0
total (x ∷ xs) g = g x + total xs g

-- vs written over the start of xs: vs, and then what stood there
unfoldable pub onto : List ℕ → List ℕ → List ℕ
onto vs xs = vs ++ drop (length vs) xs

-- vs written over xs from place i on: what stood before that place, vs, and then what stood there
unfoldable pub onto_at : ℕ → List ℕ → List ℕ → List ℕ
onto_at i vs xs = take i xs ++ onto vs (drop i xs)
