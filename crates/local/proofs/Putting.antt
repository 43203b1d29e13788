-- Rows of a sheet as cells, seven to a row: one row more, and what stands past it.
-- Assumes nothing.
use mathlib.Core.Path.{◌≡◌, refl, ap, ◌∙◌}
use mathlib.Core.List.{List, [], ◌∷◌, ◌++◌}
use Prim.Native.Nat.{ℕ, zero, suc, ◌+◌, ◌*◌, ◌≤◌}
use native.Mathlib.Numerals.{add-one}
use native.Mathlib.Omega.{arith}
use lib.ListN.{length, take, drop, length-drop}
use lib.Seq.{take_all, take_at}
use Rattle.algebra.specs.Lists.{onto, onto_at}
use Rattle.algebra.proofs.Lists.{onto_at_start, take_onto_at, drop_onto_at, drop_past}
use Rattle.algebra.proofs.Rows.{length_row}
use Rattle.model.specs.Bytes.{row_at, sevens}
use Rattle.model.specs.Sheet.{rows_at}
use Rattle.model.proofs.SheetDeal.{rows_add}

-- a row more
put_seven : (k : ℕ) (x cells : List ℕ) → length x ≡ 7 → 7 * k + 7 ≤ length cells → sevens (suc k) (onto_at (7 * k) x cells) ≡ sevens k cells ++ (x ∷ [])
unfolding sevens
put_seven zero x cells e h = rw onto_at_start (unfold onto in ap (λ (v : List ℕ). v ∷ []) (take_at x _ 7 e))
put_seven (suc k) x cells e h =
    let m : 7 * suc k ≡ 7 + 7 * k = omega arith in
    let s : 7 ≤ length cells = omega arith in
    rw (m, take_onto_at 7 (7 * k) x cells s, drop_onto_at 7 (7 * k) x cells s, put_seven k x (drop 7 cells) e (rw length-drop (omega arith)))

put_row : (k : ℕ) (x cells : List ℕ) → length x ≡ 7 → 7 * k + 7 ≤ length cells → sevens (k + 1) (onto_at (7 * k) x cells) ≡ sevens k cells ++ (x ∷ [])
put_row k x cells e h = rw add-one (put_seven k x cells e h)

row_last : (s : List ℕ) (n i k : ℕ) → rows_at s n i (k + 1) ≡ rows_at s n i k ++ (row_at s n (i + 4 * n * k) ∷ [])
unfolding rows_at
row_last s n i k = rows_add s n i k 1

pub none_put : (s cells : List ℕ) (n i : ℕ) → sevens 0 cells ≡ rows_at s n i 0
unfolding sevens rows_at
none_put s cells n i = refl

module _ (s cells : List ℕ) (n i k : ℕ) {x cells' : List ℕ} (hn : n ≤ 7) (room : 7 * k + 7 ≤ length cells) (ex : x ≡ row_at s n (i + k * (4 * n)))
    (e : cells' ≡ onto_at (7 * k) (take 7 x) cells) where
  seven : length x ≡ 7
  seven = ap length ex ∙ (unfold row_at in length_row n _ hn)

  put : cells' ≡ onto_at (7 * k) x cells
  put = let all : take 7 x ≡ x = take_all 7 x (omega (arith, seven)) in rw all at e

  pub one_more : sevens k cells ≡ rows_at s n i k → sevens (k + 1) cells' ≡ rows_at s n i (k + 1)
  one_more is =
      let place : i + 4 * n * k ≡ i + k * (4 * n) = omega arith in
      rw (put, put_row k x cells seven room, is, row_last s n i k, place, ex)

  pub past_kept : (m : ℕ) → 7 * k + 7 ≤ m → drop m cells' ≡ drop m cells
  past_kept m h = rw put (drop_past m (7 * k) x cells (omega (arith, seven)) (omega arith))
