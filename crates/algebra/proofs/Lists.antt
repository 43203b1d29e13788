-- Laws of `Below`, `from`, `total`, `onto` and `onto_at`.
-- Assumes nothing.
use mathlib.Core.Path.{◌≡◌, refl, sym, ap, subst, ◌∙◌}
use mathlib.Core.Bool.{true, false, ◌&&◌}
use Rattle.std.specs.List.{list_all}
use mathlib.Core.Logic.{◌↔◌}
use mathlib.Core.List.Memᴰ.{head as here}
use mathlib.Core.List.Memᴰ.{tail as there}
use mathlib.Core.List.{List, [], ◌∷◌, ◌++◌, append_assoc, append-nil, Memᴰ as In}
use Prim.Native.Nat.{ℕ, zero, suc, ◌+◌, ◌-◌, ◌*◌, ◌≤◌, ◌<◌, zero-le}
use native.Mathlib.Decide.{dec_lt}
use native.Mathlib.Nat.{zero-add, suc-add, add-mul, add-le-add, mul-le-mul_left}
use native.Mathlib.Numerals.{add-one}
use native.Mathlib.Omega.{arith}
use borrow.Rule.Slice.PartMut.{put_mid, mid_of}
use borrow.Author.Tests.{lt-ltb, le-ltb}
use lib.Dec.{T, ltb, ltb→lt, lt→ltb}
use lib.ListN.{length, get_or, take, drop, set, length-append, length-drop, drop_of_length-le, take-append-drop, get_or-eq_default}
use lib.Seq.{drop-cons, take-suc, length-take-le, set_at, take_at, drop_at, take_all, drop-drop, drop-nil}
use Rattle.algebra.specs.Lists.{Below, all_below, from, total, onto, onto_at}
use Rattle.algebra.proofs.Tests.{and_left, and_right, and_both}

pub below_nil : (p : ℕ) → Below p []
below_nil p = record { at = λ i h. absurd (omega arith) }

-- past its end a list is 0
pub below_any : {p : ℕ} {xs : List ℕ} → 0 < p → Below p xs → (i : ℕ) → get_or xs i 0 < p
below_any {p} {xs} h B i = go (dec_lt i (length xs))
  where
    go : Dec (i < length xs) → get_or xs i 0 < p
    go (yes l) = B.at i l
    go (no l) = rw (get_or-eq_default xs 0 {n = i} (omega arith)) h

pub below_head : {p x : ℕ} {xs : List ℕ} → Below p (x ∷ xs) → x < p
below_head b = b.at 0 (omega arith)

pub below_tail : {p x : ℕ} {xs : List ℕ} → Below p (x ∷ xs) → Below p xs
below_tail b = record { at = λ i h. b.at (suc i) (omega arith) }

pub below_cons : {p x : ℕ} {xs : List ℕ} → x < p → Below p xs → Below p (x ∷ xs)
below_cons {p} {x} {xs} a b = record { at = go }
  where
    go : (i : ℕ) → i < length (x ∷ xs) → get_or (x ∷ xs) i 0 < p
    go zero h = a
    go (suc i) h = b.at i (omega arith)

pub all_below_lem : (p : ℕ) (xs : List ℕ) → T (all_below p xs) ↔ Below p xs
unfolding all_below
all_below_lem p [] = (λ t. below_nil p, λ b. tt)
all_below_lem p (x ∷ xs) = (
  λ t. below_cons (ltb→lt x p (and_left (ltb x p) (all_below p xs) t)) ((all_below_lem p xs).0 (and_right (ltb x p) (all_below p xs) t)),
  λ b. and_both (ltb x p) (all_below p xs) (lt→ltb x p (below_head b)) ((all_below_lem p xs).1 (below_tail b)),
)

-- the test by the first number
pub below_first : (p x : ℕ) (xs : List ℕ) → x < p → all_below p (x ∷ xs) ≡ all_below p xs
unfolding all_below
below_first p x xs h = rw (lt-ltb x p h)

pub first_fails : (p x : ℕ) (xs : List ℕ) → p ≤ x → all_below p (x ∷ xs) ≡ false
unfolding all_below
first_fails p x xs h = rw (le-ltb x p h)

-- the test from place i on: one number more, one that fails it, and the end
pub below_more : (p : ℕ) (xs : List ℕ) (i : ℕ) → i < length xs → get_or xs i 0 < p → all_below p (drop i xs) ≡ all_below p (drop (i + 1) xs)
unfolding all_below
below_more p xs i h k = rw (add-one, drop-cons xs i 0 h, lt-ltb (get_or xs i 0) p k)

pub below_fails : (p : ℕ) (xs : List ℕ) (i : ℕ) → i < length xs → p ≤ get_or xs i 0 → all_below p (drop i xs) ≡ false
unfolding all_below
below_fails p xs i h k = rw (drop-cons xs i 0 h, le-ltb (get_or xs i 0) p k)

pub below_end : (p : ℕ) (xs : List ℕ) (i : ℕ) → length xs ≤ i → all_below p (drop i xs) ≡ true
unfolding all_below
below_end p xs i h = rw (drop_of_length-le xs {i = i} h)

pub in_from : (k m : ℕ) {z : ℕ} → In z (from k m) → (k ≤ z) × (z < k + m)
unfolding from
in_from k (suc m) (here e) = omega arith
in_from k (suc m) (there i) = omega (arith, in_from (suc k) m i)
in_from k zero {z = z} x' = elim x' [ ]

pub from_in : (k m z : ℕ) → k ≤ z → z < k + m → In z (from k m)
unfolding from
from_in k zero z a b = absurd (omega arith)
from_in k (suc m) z a b = pick (dec_lt k z) (λ l. from_in (suc k) m z l (omega arith))
  where
    pick : Dec (k < z) → (k < z → In z (from (suc k) m)) → In z (k ∷ from (suc k) m)
    pick (yes l) next = there (next l)
    pick (no l) next = let e : z ≡ k = omega arith in here e

pub length_from : (k m : ℕ) → length (from k m) ≡ m
unfolding from
length_from k zero = refl
length_from k (suc m) = ap suc (length_from (suc k) m)

pub total_cong : (xs : List ℕ) (f g : ℕ → ℕ) → ((x : ℕ) → In x xs → f x ≡ g x) → total xs f ≡ total xs g
unfolding total
total_cong [] f g k = refl
total_cong (x ∷ xs) f g k = rw (k x (here refl), total_cong xs f g (λ z m. k z (there m)))

-- one more number at the end
pub total_more : (k m : ℕ) (g : ℕ → ℕ) → total (from k (suc m)) g ≡ total (from k m) g + g (k + m)
unfolding from total
total_more k zero g = let e : k + 0 ≡ k = omega arith in rw e (omega arith)
total_more k (suc m) g =
    let e : suc k + m ≡ k + suc m = omega arith in
    omega (arith, total_more (suc k) m g, ap g e)

pub total_le : (b : ℕ) (g : ℕ → ℕ) (xs : List ℕ) → ((x : ℕ) → In x xs → g x ≤ b) → total xs g ≤ length xs * b
unfolding total
total_le b g [] k = zero-le
total_le b g (x ∷ xs) k = omega (arith, k x (here refl), total_le b g xs (λ z m. k z (there m)))

-- values of at most b, each times its weight
pub total_scaled : (b : ℕ) (w g : ℕ → ℕ) (xs : List ℕ) → ((x : ℕ) → In x xs → g x ≤ b) → total xs (λ x. w x * g x) ≤ total xs w * b
unfolding total
total_scaled b w g [] k = omega arith
total_scaled b w g (x ∷ xs) k =
    rw add-mul (add-le-add (mul-le-mul_left (w x) (k x (here refl))) (total_scaled b w g xs (λ z m. k z (there m))))

-- the first m of m + d terms
pub total_front : (k m d : ℕ) (g : ℕ → ℕ) → total (from k m) g ≤ total (from k (m + d)) g
unfolding from total
total_front k zero d g = zero-le
total_front k (suc m) d g = rw suc-add (omega (arith, total_front (suc k) m d g))

pub length_onto : (vs xs : List ℕ) → length vs ≤ length xs → length (onto vs xs) ≡ length xs
unfolding onto
length_onto vs xs h = rw (length-append, length-drop) (omega arith)

-- nothing stands behind a write as long as the list
pub onto_all : (vs xs : List ℕ) → length xs ≤ length vs → onto vs xs ≡ vs
unfolding onto
onto_all vs xs h = rw (drop_of_length-le xs {i = length vs} h, append-nil)

-- one number more behind those that stand over the start of xs
pub onto_more : (us xs : List ℕ) (v : ℕ) {n : ℕ} → length us ≡ n → n < length xs → set (onto us xs) n v ≡ onto (us ++ (v ∷ [])) xs
unfolding onto
onto_more us xs v {n} e h =
    rw (e, drop-cons xs n 0 h, set_at us (get_or xs n 0) (drop (suc n) xs) v n e, append_assoc us (v ∷ []), length-append us (v ∷ []), e, add-one) refl

-- A loop that writes the first n numbers of vs over the start of xs, one law for each of its needs: after j turns l has j of them.
pub record Writing (vs xs : List ℕ) (n j : ℕ) (l : List ℕ) : Type 0 where
  pub within : j ≤ n
  pub is : l ≡ onto (take j vs) xs

pub writing_start : (vs xs : List ℕ) (n : ℕ) → Writing vs xs n 0 xs
unfolding onto
writing_start vs xs n = record { within = omega arith; is = refl }

pub writing_more : {vs xs : List ℕ} {n j : ℕ} {l : List ℕ} {v : ℕ} → Writing vs xs n j l → j < n → n ≤ length vs → n ≤ length xs → v ≡ get_or vs j 0
    → Writing vs xs n (j + 1) (set l j v)
writing_more {vs} {xs} {n} {j} {l} {v} W h hv hx q = record { within = omega arith; is = go W.is }
  where
    go : l ≡ onto (take j vs) xs → set l j v ≡ onto (take (j + 1) vs) xs
    go e = rw (e, q, add-one, take-suc vs j 0 (omega arith)) (onto_more (take j vs) xs (get_or vs j 0) (length-take-le j vs (omega arith)) (omega arith))

pub writing_end : {vs xs : List ℕ} {n j : ℕ} {l : List ℕ} → Writing vs xs n j l → n ≤ j → l ≡ onto (take n vs) xs
writing_end {n = n} {j} W h = let e : j ≡ n = omega arith in rw e at W.is

pub writing_length : {vs xs : List ℕ} {n j : ℕ} {l : List ℕ} → Writing vs xs n j l → n ≤ length vs → n ≤ length xs → length l ≡ length xs
writing_length {vs} {xs} {n} {j} W hv hx =
    let s : length (take j vs) ≡ j = length-take-le j vs (omega arith) in
    ap length W.is ∙ length_onto (take j vs) xs (omega arith)

-- A callee that was lent the part of ys from a on wrote vs over it, where us stand over the start of xs: both stand over the start of xs.
pub onto_then : (xs us vs ys last : List ℕ) (a : ℕ) → ys ≡ onto us xs → length us ≡ a → last ≡ onto vs (mid_of a (length ys - a) ys)
    → put_mid a (length ys - a) ys last ≡ onto (us ++ vs) xs
unfolding onto
onto_then xs us vs ys last a e h w =
    let front : take a ys ≡ us = rw e (take_at us (drop (length us) xs) a h) in
    let back : drop a ys ≡ drop a xs = rw (e, drop_at us (drop (length us) xs) a h, h) in
    let whole : take (length ys - a) (drop a ys) ≡ drop a ys = take_all (length ys - a) (drop a ys) (rw length-drop (omega arith)) in
    let none : drop (length ys - a) (drop a ys) ≡ [] = drop_of_length-le (drop a ys) {i = length ys - a} (rw length-drop (omega arith)) in
    rw (w, whole, none, append-nil, front, back, drop-drop, length-append, h, append_assoc)

-- a write at the start, and one of nothing
pub onto_at_start : (vs xs : List ℕ) → onto_at 0 vs xs ≡ onto vs xs
unfolding onto_at
onto_at_start vs xs = refl

pub onto_at_none : (i : ℕ) (xs : List ℕ) → onto_at i [] xs ≡ xs
unfolding onto_at onto
onto_at_none i xs = take-append-drop i xs

-- A write right behind another: both are one write.
pub onto_at_then : (i : ℕ) (vs ws xs : List ℕ) → onto_at (i + length vs) ws (onto_at i vs xs) ≡ onto_at i (vs ++ ws) xs
unfolding onto_at onto
onto_at_then zero vs ws xs = rw (zero-add, take_at vs _ (length vs) refl, drop_at vs _ (length vs) refl, drop-drop, length-append, append_assoc)
onto_at_then (suc i) vs ws [] =
    let s : length (vs ++ []) ≤ suc i + length vs = rw append-nil (omega arith) in
    rw (drop-nil (length vs), take_all (suc i + length vs) (vs ++ []) s, drop_of_length-le (vs ++ []) {i = suc i + length vs} s, drop-nil (length ws), drop-nil (length (vs ++ ws)))
    (simp (append-nil, append_assoc))
onto_at_then (suc i) vs ws (x ∷ xs) = rw suc-add (ap (λ (l : List ℕ). x ∷ l) (onto_at_then i vs ws xs))

-- the first j numbers, and those behind them, where the write is behind them
pub take_onto_at : (j i : ℕ) (vs xs : List ℕ) → j ≤ length xs → take j (onto_at (j + i) vs xs) ≡ take j xs
unfolding onto_at
take_onto_at zero i vs xs h = refl
take_onto_at (suc j) i vs [] h = absurd (omega arith)
take_onto_at (suc j) i vs (x ∷ xs) h = rw suc-add (ap (λ (l : List ℕ). x ∷ l) (take_onto_at j i vs xs (omega arith)))

pub drop_onto_at : (j i : ℕ) (vs xs : List ℕ) → j ≤ length xs → drop j (onto_at (j + i) vs xs) ≡ onto_at i vs (drop j xs)
unfolding onto_at
drop_onto_at zero i vs xs h = rw zero-add
drop_onto_at (suc j) i vs [] h = absurd (omega arith)
drop_onto_at (suc j) i vs (x ∷ xs) h = rw suc-add (drop_onto_at j i vs xs (omega arith))

-- past what was written
pub drop_past : (m i : ℕ) (vs xs : List ℕ) → i + length vs ≤ m → i ≤ length xs → drop m (onto_at i vs xs) ≡ drop m xs
unfolding onto_at onto
drop_past m zero vs xs h l =
    let r = m - length vs in
    let e : length vs + r ≡ m = omega arith in
    subst (λ (k : ℕ). drop k (vs ++ drop (length vs) xs) ≡ drop k xs) e
    (sym (drop-drop r (length vs) _) ∙ ap (drop r) (drop_at vs _ (length vs) refl) ∙ drop-drop r (length vs) xs)
drop_past zero (suc i) vs xs h l = absurd (omega arith)
drop_past (suc m) (suc i) vs [] h l = absurd (omega arith)
drop_past (suc m) (suc i) vs (x ∷ xs) h l = drop_past m i vs xs (omega arith) (omega arith)

pub length_onto_at : (i : ℕ) (vs xs : List ℕ) → i + length vs ≤ length xs → length (onto_at i vs xs) ≡ length xs
unfolding onto_at
length_onto_at i vs xs h =
    let s : length (take i xs) ≡ i = length-take-le i xs (omega arith) in
    let k : length vs ≤ length (drop i xs) = rw length-drop (omega arith) in
    rw (length-append, s, length_onto vs (drop i xs) k, length-drop) (omega arith)

set_behind : (us xs : List ℕ) (j v : ℕ) → set (us ++ xs) (length us + j) v ≡ us ++ set xs j v
set_behind [] xs j v = rw zero-add
set_behind (u ∷ us) xs j v = rw suc-add (ap (λ (l : List ℕ). u ∷ l) (set_behind us xs j v))

-- The same loop from place i on.
pub record WritingAt (i : ℕ) (vs xs : List ℕ) (n j : ℕ) (l : List ℕ) : Type 0 where
  pub behind : List ℕ
  pub writing : Writing vs (drop i xs) n j behind
  pub is : l ≡ take i xs ++ behind

pub writing_at_start : (i : ℕ) (vs xs : List ℕ) (n : ℕ) → WritingAt i vs xs n 0 xs
writing_at_start i vs xs n = record { behind = drop i xs; writing = writing_start vs (drop i xs) n; is = sym (take-append-drop i xs) }

module _ {i : ℕ} {vs xs : List ℕ} {n j : ℕ} {l : List ℕ} (W : WritingAt i vs xs n j l) (hv : n ≤ length vs) (hx : i + n ≤ length xs) where
  room_behind : n ≤ length (drop i xs)
  room_behind = rw length-drop (omega arith)

  pub writing_at_more : {v : ℕ} → j < n → v ≡ get_or vs j 0 → WritingAt i vs xs n (j + 1) (set l (i + j) v)
  writing_at_more {v} h q =
      let s : length (take i xs) ≡ i = length-take-le i xs (omega arith) in
      record {
        behind = set W.behind j v;
        writing = writing_more W.writing h hv room_behind q;
        is = ap (λ (ys : List ℕ). set ys (i + j) v) W.is ∙ (rw s at (set_behind (take i xs) W.behind j v));
      }

  pub writing_at_end : n ≤ j → l ≡ onto_at i (take n vs) xs
  unfolding onto_at
  writing_at_end h = W.is ∙ ap (λ (ys : List ℕ). take i xs ++ ys) (writing_end W.writing h)

  pub writing_at_length : length l ≡ length xs
  writing_at_length =
      let s : length (take i xs) ≡ i = length-take-le i xs (omega arith) in
      ap length W.is ∙ rw (length-append, s, writing_length W.writing hv room_behind, length-drop) (omega arith)

-- the test as the library has it
pub below_listed : (p : ℕ) (xs : List ℕ) → list_all (λ x. ltb x p) xs ≡ all_below p xs
unfolding all_below
below_listed p [] = refl
below_listed p (x ∷ xs) = ap (λ b. ltb x p && b) (below_listed p xs)
