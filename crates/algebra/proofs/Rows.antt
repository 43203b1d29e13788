-- Laws of `tab` and `row`.
-- Assumes nothing.
use mathlib.Core.Path.{◌≡◌, refl, sym, ap, ◌∙◌}
use mathlib.Core.Bool.{true, false}
use mathlib.Core.List.{List, [], ◌∷◌, ◌++◌, append_assoc}
use Prim.Native.Nat.{ℕ, zero, suc, ◌+◌, ◌-◌, ◌≤◌, ◌<◌}
use native.Mathlib.Nat.{not-suc-le-zero, le_of_suc-le-suc}
use native.Mathlib.Decide.{dec_lt}
use native.Mathlib.Numerals.{add-one}
use native.Mathlib.Omega.{arith}
use lib.ListN.{length, get_or, set, take, drop, replicate, length-append, length-replicate, get_or-replicate, get_or-append, get_or-eq_default}
use lib.Seq.{ext_get_or, take_at, set_at, get_or-append-add}
use Rattle.algebra.specs.Lists.{all_below}
use Rattle.algebra.specs.Rows.{tab, row, padded}
use Rattle.algebra.proofs.Lists.{below_more, below_fails, below_end}

pub length_tab : (n : ℕ) (f : ℕ → ℕ) → length (tab n f) ≡ n
unfolding tab
length_tab zero f = refl
length_tab (suc n) f = ap suc (length_tab n (λ i. f (suc i)))

pub get_or_tab : (n : ℕ) (f : ℕ → ℕ) (i : ℕ) → i < n → get_or (tab n f) i 0 ≡ f i
unfolding tab
get_or_tab zero f i h = absurd (not-suc-le-zero h)
get_or_tab (suc n) f zero h = refl
get_or_tab (suc n) f (suc i) h = get_or_tab n (λ i. f (suc i)) i (le_of_suc-le-suc h)

pub is_tab : (n : ℕ) (f : ℕ → ℕ) (l : List ℕ) → length l ≡ n → ((i : ℕ) → i < n → get_or l i 0 ≡ f i) → l ≡ tab n f
is_tab n f l e k = ext_get_or 0 l (tab n f) (e ∙ sym (length_tab n f)) (λ i h. k i (omega arith) ∙ sym (get_or_tab n f i (omega arith)))

pub tab_ext : (n : ℕ) (f g : ℕ → ℕ) → ((i : ℕ) → i < n → f i ≡ g i) → tab n f ≡ tab n g
tab_ext n f g k = is_tab n g (tab n f) (length_tab n f) (λ i h. get_or_tab n f i h ∙ k i h)

tab_more : (n : ℕ) (f : ℕ → ℕ) → tab (suc n) f ≡ tab n f ++ (f n ∷ [])
unfolding tab
tab_more zero f = refl
tab_more (suc n) f = ap (λ (l : List ℕ). f zero ∷ l) (tab_more n (λ i. f (suc i)))

pub length_row : (n : ℕ) (f : ℕ → ℕ) → n ≤ 7 → length (row n f) ≡ 7
unfolding row
length_row n f h = rw (length-append, length_tab, length-replicate) (omega arith)

pub row_at_lem : (n : ℕ) (f : ℕ → ℕ) (j : ℕ) → j < n → get_or (row n f) j 0 ≡ f j
unfolding row
row_at_lem n f j h = rw (get_or-append (tab n f) (replicate (7 - n) 0) 0 j (rw length_tab h)) (get_or_tab n f j h)

-- the cells past n
pub row_past : (n : ℕ) (f : ℕ → ℕ) (j : ℕ) → n ≤ j → get_or (row n f) j 0 ≡ 0
unfolding row
row_past n f j h =
    let e : length (tab n f) + (j - n) ≡ j = rw length_tab (omega arith) in
    rw (← e, get_or-append-add (tab n f) (replicate (7 - n) 0) (j - n) 0) (go (dec_lt (j - n) (7 - n)))
  where
    zeros : List ℕ
    zeros = replicate (7 - n) 0

    go : Dec (j - n < 7 - n) → get_or zeros (j - n) 0 ≡ 0
    go (yes l) = get_or-replicate {A = ℕ} (7 - n) (j - n) 0 0 l
    go (no l) = get_or-eq_default zeros 0 (rw length-replicate (omega arith))

pub row_ext : (n : ℕ) (f g : ℕ → ℕ) → ((j : ℕ) → j < n → f j ≡ g j) → row n f ≡ row n g
unfolding row
row_ext n f g k = ap (λ (l : List ℕ). l ++ replicate (7 - n) 0) (tab_ext n f g k)

-- a row is given by its first n cells
pub row_again : (n : ℕ) (f : ℕ → ℕ) → row n (λ j. get_or (row n f) j 0) ≡ row n f
row_again n f = row_ext n _ f (λ j h. row_at_lem n f j h)

-- the shares of a row
pub take_row : (n : ℕ) (f : ℕ → ℕ) → take n (row n f) ≡ tab n f
unfolding row
take_row n f = take_at (tab n f) _ n (length_tab n f)

pub padded_tab : (n : ℕ) (f : ℕ → ℕ) → padded (tab n f) ≡ row n f
padded_tab n f = rw length_tab (row_ext n _ f (λ j h. get_or_tab n f j h))

-- A loop over the columns, one law for each of its needs: after j turns l holds the first j shares of f's row.
pub record Filling (n : ℕ) (f : ℕ → ℕ) (j : ℕ) (l : List ℕ) : Type 0 where
  pub within : j ≤ n
  pub is : l ≡ row j f

pub filling_start : (n : ℕ) (f : ℕ → ℕ) → Filling n f 0 (0 ∷ 0 ∷ 0 ∷ 0 ∷ 0 ∷ 0 ∷ 0 ∷ [])
unfolding row tab
filling_start n f = record { within = omega arith; is = refl }

pub filling_more : {n : ℕ} {f : ℕ → ℕ} {j : ℕ} {l : List ℕ} {v : ℕ} → Filling n f j l → j < n → n ≤ 7 → v ≡ f j → Filling n f (j + 1) (set l j v)
filling_more {n} {f} {j} {l} {v} F h k q = record { within = omega arith; is = go F.is }
  where
    go : l ≡ row j f → set l j v ≡ row (j + 1) f
    go e =
        unfold row in
        let m : 7 - j ≡ suc (7 - suc j) = omega arith in
        let z : replicate {A = ℕ} (7 - j) 0 ≡ 0 ∷ replicate (7 - suc j) 0 = rw m in
        rw (e, q, add-one, z, set_at (tab j f) 0 (replicate (7 - suc j) 0) (f j) j (length_tab j f), tab_more, append_assoc)

pub filling_end : {n : ℕ} {f : ℕ → ℕ} {j : ℕ} {l : List ℕ} → Filling n f j l → n ≤ j → l ≡ row n f
filling_end {n} {f} {j} F h = let e : j ≡ n = omega arith in rw e at F.is

pub row_below : (p n : ℕ) (f : ℕ → ℕ) → 0 < p → ((j : ℕ) → j < n → f j < p) → (j : ℕ) → get_or (row n f) j 0 < p
row_below p n f h b j = go (dec_lt j n)
  where
    go : Dec (j < n) → get_or (row n f) j 0 < p
    go (yes l) = rw (row_at_lem n f j l) (b j l)
    go (no l) = rw (row_past n f j (omega arith)) h

-- the test of the shares below p, from column j on: one share more, and one that fails it
pub tab_below_more : (p n : ℕ) (f : ℕ → ℕ) (j : ℕ) → j < n → f j < p → all_below p (drop j (tab n f)) ≡ all_below p (drop (j + 1) (tab n f))
tab_below_more p n f j h k = below_more p (tab n f) j (rw length_tab h) (rw (get_or_tab n f j h) k)

pub tab_below_fails : (p n : ℕ) (f : ℕ → ℕ) (j : ℕ) → j < n → p ≤ f j → all_below p (drop j (tab n f)) ≡ false
tab_below_fails p n f j h k = below_fails p (tab n f) j (rw length_tab h) (rw (get_or_tab n f j h) k)

pub tab_below_end : (p n : ℕ) (f : ℕ → ℕ) (j : ℕ) → n ≤ j → all_below p (drop j (tab n f)) ≡ true
tab_below_end p n f j h = below_end p (tab n f) j (rw length_tab h)
