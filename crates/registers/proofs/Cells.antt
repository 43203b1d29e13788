-- The 448 cells as 64 rows: reading a register, and putting a row into one.
-- Assumes nothing.
use mathlib.Core.Path.{◌≡◌, refl, sym, ap, ◌∙◌}
use mathlib.Core.List.{List, [], ◌∷◌, ◌++◌}
use Prim.Native.Nat.{ℕ, zero, suc, ◌+◌, ◌-◌, ◌*◌, ◌≤◌, ◌<◌}
use native.Mathlib.Omega.{arith}
use lib.ListN.{length, get_or, set, take, drop, length-drop}
use lib.Seq.{length-take-le, take_all, take_at, drop_at, drop-drop, drop-append-le, take-append-le, take-take, take-nil}
use borrow.Rule.Slice.PartMut.{put_mid}
use Rattle.algebra.specs.Lists.{onto, onto_at}
use Rattle.model.specs.Bytes.{sevens}
use Rattle.model.specs.Deal.{Row, no_row}
use Rattle.model.specs.Commands.{registers_from}
use Rattle.registers.specs.Cells.{Stored}

-- reading
pub get_seven : (w : ℕ) (cells : List ℕ) (a : ℕ) → a < w → get_or (sevens w cells) a no_row ≡ take 7 (drop (7 * a) cells)
unfolding sevens
get_seven zero cells a h = absurd (omega arith)
get_seven (suc w) cells zero h = refl
get_seven (suc w) cells (suc a) h =
    let e : 7 + 7 * a ≡ 7 * suc a = omega arith in
    get_seven w (drop 7 cells) a (omega arith) ∙ rw (drop-drop (7 * a) 7 cells, e)

-- the rows of registers b to b + w - 1
pub from_sevens : (g : List Row) (cells : List ℕ) (b w : ℕ) → sevens 64 cells ≡ g → b + w ≤ 64 → sevens w (drop (7 * b) cells) ≡ registers_from no_row g b w
unfolding sevens registers_from
from_sevens g cells b zero e h = refl
from_sevens g cells b (suc w) e h =
    let k : 7 * b + 7 ≡ 7 * suc b = omega arith in
    let r : take 7 (drop (7 * b) cells) ≡ get_or g b no_row = sym (get_seven 64 cells b (omega arith)) ∙ ap (λ (v : List Row). get_or v b no_row) e in
    rw (drop-drop 7 (7 * b) cells, k, from_sevens g cells (suc b) w e (omega arith), r)

-- writing: the seven cells before, and those of the other registers
first_seven : (cells : List ℕ) (d : ℕ) (rest : List ℕ) → 7 * suc d ≤ length cells → take 7 (take (7 * suc d) cells ++ rest) ≡ take 7 cells
first_seven cells d rest h =
    take-append-le 7 (take (7 * suc d) cells) rest (rw (length-take-le (7 * suc d) cells h) (omega arith)) ∙ take-take 7 (7 * suc d) cells (omega arith)

drop_take : (a b : ℕ) (cells : List ℕ) → drop a (take (a + b) cells) ≡ take b (drop a cells)
drop_take zero b cells = let e : 0 + b ≡ b = omega arith in rw e
drop_take (suc a) b [] = let e : suc a + b ≡ suc (a + b) = omega arith in rw (e, take-nil b)
drop_take (suc a) b (x ∷ cells) = let e : suc a + b ≡ suc (a + b) = omega arith in rw e (drop_take a b cells)

others : (cells : List ℕ) (d : ℕ) (x : Row) → 7 * suc d ≤ length cells → drop 7 (onto_at (7 * suc d) x cells) ≡ onto_at (7 * d) x (drop 7 cells)
unfolding onto_at
others cells d x h =
    let e : 7 * suc d ≡ 7 + 7 * d = omega arith in
    drop-append-le 7 (take (7 * suc d) cells) _ (rw (length-take-le (7 * suc d) cells h) (omega arith))
    ∙ rw (e, drop_take 7 (7 * d) cells, ← drop-drop (7 * d) 7 cells)

pub set_seven : (w : ℕ) (cells : List ℕ) (d : ℕ) (x : Row) → d < w → 7 * w ≤ length cells → length x ≡ 7
    → sevens w (onto_at (7 * d) x cells) ≡ set (sevens w cells) d x
unfolding sevens onto_at onto
set_seven zero cells d x h k e = absurd (omega arith)
set_seven (suc w) cells zero x h k e = rw (e, take_at x (drop 7 cells) 7 e, drop_at x (drop 7 cells) 7 e)
set_seven (suc w) cells (suc d) x h k e =
    rw (first_seven cells d (onto x (drop (7 * suc d) cells)) (omega arith), others cells d x (omega arith), set_seven w (drop 7 cells) d x (omega arith) (rw (length-drop 7 cells) (omega arith)) e)

-- a row of seven cells, written over as many
pub row_over : (i : ℕ) (row cells : List ℕ) {part : List ℕ} → length row ≡ 7 → part ≡ row → put_mid i (i + 7 - i) cells part ≡ onto_at i row cells
unfolding onto_at onto
row_over i row cells seven e = let n : i + 7 - i ≡ length row = omega arith in rw (e, n)

-- a row of seven cells, written share by share
pub whole_row : (i : ℕ) (row cells : List ℕ) → length row ≤ 7 → onto_at i (take 7 row) cells ≡ onto_at i row cells
whole_row i row cells h = rw (take_all 7 row h)

-- a row that was put
pub stored : {d : ℕ} {Is : Row → Type 0} (row : Row) {cells cells' : List ℕ} → length row ≡ 7 → Is row → cells' ≡ onto_at (7 * d) row cells → Stored d Is cells cells'
stored row seven is e = record { row = row; seven = seven; is = is; put = e }

-- the cells from a place on, as the code lends them
pub rest_cells : (cells : List ℕ) (i : ℕ) → take (length cells - i) (drop i cells) ≡ drop i cells
rest_cells cells i = take_all (length cells - i) (drop i cells) (rw (length-drop i cells) (omega arith))
