-- Rows column by column: their shares, and one read from seven cells.
-- Assumes nothing.
use mathlib.Core.Path.{◌≡◌, sym, ◌∙◌}
use mathlib.Core.List.{List, append-nil}
use Prim.Native.Nat.{ℕ, ◌+◌, ◌≤◌, ◌<◌}
use native.Mathlib.Omega.{arith}
use lib.ListN.{length, get_or, take, drop, length-drop}
use lib.Seq.{get_or-take, get_or-drop, length-take-le}
use Rattle.algebra.specs.Ring.{mul}
use Rattle.algebra.specs.Rows.{row}
use Rattle.algebra.proofs.Rows.{is_tab, row_at_lem}
use Rattle.model.specs.Steps.{Setting, Row, times, constant}

-- share j of a multiple and of a constant's row
module _ (S : Setting) (j : ℕ) where
  pub times_at : (c : ℕ) (a : Row) → j < S.n → get_or (times S c a) j 0 ≡ mul S.p c (get_or a j 0)
  unfolding times
  times_at c a h = row_at_lem S.n _ j h

  pub constant_at : (v : ℕ) → j < S.n → get_or (constant S v) j 0 ≡ v
  unfolding constant
  constant_at v h = row_at_lem S.n _ j h

-- seven cells of a list, one after the other
pub cells_seven : (cells : List ℕ) (i : ℕ) → i + 7 ≤ length cells → row 7 (λ j. get_or cells (i + j) 0) ≡ take 7 (drop i cells)
unfolding row
cells_seven cells i h =
    let e : length (take 7 (drop i cells)) ≡ 7 = length-take-le 7 (drop i cells) (rw length-drop (omega arith)) in
    append-nil _ ∙ sym (is_tab 7 (λ j. get_or cells (i + j) 0) (take 7 (drop i cells)) e (λ j k. rw (get_or-take, get_or-drop)))
