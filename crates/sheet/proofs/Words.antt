-- The shares of a run of rows, as one run of words.
-- Assumes nothing.
use mathlib.Core.Path.{◌≡◌, refl, sym, ap}
use mathlib.Core.Bool.{Bool, ◌&&◌}
use mathlib.Core.List.{List, [], ◌∷◌, ◌++◌}
use Prim.Native.Nat.{ℕ, zero, suc, ◌+◌, ◌*◌}
use native.Mathlib.Nat.{add-zero, mul-zero, suc-add, zero-add}
use native.Mathlib.Omega.{arith}
use lib.Dec.{ltb}
use lib.ListN.{take}
use Rattle.std.proofs.Math.Bool.{and_assoc}
use Rattle.algebra.specs.Lists.{all_below}
use Rattle.algebra.specs.Rows.{tab}
use Rattle.algebra.proofs.Rows.{take_row, tab_ext}
use Rattle.model.specs.Bytes.{number, row_at}
use Rattle.model.specs.Sheet.{all, rows_at}
use Rattle.sheet.proofs.Runs.{Run}

-- c words from place i on
unfoldable pub words : List ℕ → ℕ → ℕ → List ℕ
words s i zero = []
words s i (suc c) = number 4 s i ∷ words s (i + 4) c

pub words_run : (s : List ℕ) → Run (number 4 s) 4 (words s)
unfolding words
words_run s = record { none = λ i. refl; next = λ i c. refl }

all_append : {A : Type 0} (f : A → Bool) (xs ys : List A) → all f (xs ++ ys) ≡ (all f xs && all f ys)
unfolding all
all_append f [] ys = refl
all_append f (x ∷ xs) ys = rw (all_append f xs ys) (sym (and_assoc (f x) (all f xs) (all f ys)))

module _ (s : List ℕ) where
  words_add : (i a b : ℕ) → words s i (a + b) ≡ words s i a ++ words s (i + 4 * a) b
  unfolding words
  words_add i zero b = rw (zero-add, mul-zero, add-zero)
  words_add i (suc a) b =
      let e : i + 4 * suc a ≡ i + 4 + 4 * a = omega arith in
      rw (suc-add, e) (ap (λ (l : List ℕ). number 4 s i ∷ l) (words_add (i + 4) a b))

  -- the shares of one row
  shares_below_lem : (p n i : ℕ) → all_below p (tab n (λ j. number 4 s (i + 4 * j))) ≡ all (λ x. ltb x p) (words s i n)
  unfolding words all all_below tab
  shares_below_lem p zero i = refl
  shares_below_lem p (suc n) i =
      let e : i + 4 * 0 ≡ i = omega arith in
      let next : tab n (λ j. number 4 s (i + 4 * suc j)) ≡ tab n (λ j. number 4 s (i + 4 + 4 * j)) =
      tab_ext n _ _ (λ j h. ap (number 4 s) (omega arith)) in
      rw (e, next, shares_below_lem p n (i + 4))

  pub rows_below : (p n i c : ℕ) → all (λ x. all_below p (take n x)) (rows_at s n i c) ≡ all (λ x. ltb x p) (words s i (n * c))
  unfolding rows_at all row_at
  rows_below p n i zero = rw mul-zero (unfold words in refl)
  rows_below p n i (suc c) =
      let e : n * suc c ≡ n + n * c = omega arith in
      rw (e, words_add i n (n * c), all_append, take_row, shares_below_lem p n i, rows_below p n (i + 4 * n) c)
