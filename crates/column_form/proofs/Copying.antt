-- What is copied as it is: the bytes before the shares, a share, and one party's shares.
-- Assumes nothing.
use mathlib.Core.Path.{◌≡◌, refl, sym, ap, ◌∙◌}
use mathlib.Core.List.{List, [], ◌∷◌, ◌++◌, append_assoc}
use Prim.Native.Nat.{ℕ, zero, suc, ◌+◌, ◌≤◌, ◌<◌}
use native.Mathlib.Omega.{arith}
use lib.ListN.{length, get_or, set, take, drop}
use lib.Seq.{length-take-le, sets-eq, drop-cons, drop-drop}
use Rattle.algebra.specs.Lists.{onto, onto_at}
use Rattle.algebra.proofs.Lists.{Writing, writing_length, length_onto_at}
use Rattle.model.proofs.Transposing.{length_share}
use Rattle.column_form.specs.Grids.{place_in, Fits, column_copied}
use Rattle.column_form.specs.declared.grid.Grid.{Grid}
use Rattle.column_form.proofs.Places.{within}

pub head_copied : (s out : List ℕ) (count : ℕ) → count ≤ length s → take count s ++ drop count out ≡ onto (take count s) out
unfolding onto
head_copied s out count h = rw (length-take-le count s h)

-- `copy_head`: there is room for the next byte
pub head_room : {vs xs : List ℕ} {n j : ℕ} {l : List ℕ} → Writing vs xs n j l → n ≤ length vs → n ≤ length xs → j < n → j < length l
head_room W a b h = omega (arith, writing_length W a b)

-- the four bytes from a place on
next_byte : (s : List ℕ) (w i : ℕ) → i < length s → take (suc w) (drop i s) ≡ get_or s i 0 ∷ take w (drop (suc i) s)
next_byte s w i h = rw (drop-cons s i 0 h)

four : (s : List ℕ) (i : ℕ) → i + 4 ≤ length s
    → take 4 (drop i s) ≡ get_or s i 0 ∷ get_or s (suc i) 0 ∷ get_or s (suc (suc i)) 0 ∷ get_or s (suc (suc (suc i))) 0 ∷ []
four s i h =
    next_byte s 3 i (omega arith)
    ∙ ap (λ (x : List ℕ). get_or s i 0 ∷ x) (next_byte s 2 (suc i) (omega arith)
    ∙ ap (λ (x : List ℕ). get_or s (suc i) 0 ∷ x) (next_byte s 1 (suc (suc i)) (omega arith)
    ∙ ap (λ (x : List ℕ). get_or s (suc (suc i)) 0 ∷ x) (next_byte s 0 (suc (suc (suc i))) (omega arith))))

pub share_copied : (s out : List ℕ) (from to : ℕ) → from + 4 ≤ length s → to + 4 ≤ length out
    → set (set (set (set out to (get_or s from 0)) (to + 1) (get_or s (from + 1) 0)) (to + 2) (get_or s (from + 2) 0)) (to + 3) (get_or s (from + 3) 0)
    ≡ onto_at to (take 4 (drop from s)) out
unfolding onto_at onto
share_copied s out from to h k =
    let vs : List ℕ = get_or s from 0 ∷ get_or s (suc from) 0 ∷ get_or s (suc (suc from)) 0 ∷ get_or s (suc (suc (suc from))) 0 ∷ [] in
    let one : (i : ℕ) → i + 1 ≡ suc i = λ i. omega arith in
    let two : (i : ℕ) → i + 2 ≡ suc (suc i) = λ i. omega arith in
    let three : (i : ℕ) → i + 3 ≡ suc (suc (suc i)) = λ i. omega arith in
    rw (four s from h, one from, two from, three from, one to, two to, three to)
    (sets-eq vs out to k ∙ append_assoc (take to out) vs _ ∙ ap (λ (x : List ℕ). take to out ++ (vs ++ x)) (sym (drop-drop 4 to out)))

-- c keeps its length
pub column_length : (s : List ℕ) (F G : Grid) (rows : ℕ) (c : List ℕ) → Fits F rows 1 (length s) → Fits G rows 1 (length s) → length s ≤ length c
    → (k : ℕ) → k ≤ rows → length (column_copied s F G k c) ≡ length c
unfolding column_copied
column_length s F G rows c f g room zero h = refl
column_length s F G rows c f g room (suc k) h =
    let e = column_length s F G rows c f g room k (omega arith) in
    length_onto_at (place_in G k 0) _ _
    (rw (length_share s (place_in F k 0) (within f k 0 h (omega arith))) (omega (arith, e, within g k 0 h (omega arith))))
    ∙ e
