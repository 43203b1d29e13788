-- The row that a product leaves, column by column.
-- Assumes nothing.
use mathlib.Core.Path.{◌≡◌}
use Prim.Native.Nat.{ℕ}
use lib.ListN.{get_or}
use Rattle.algebra.specs.Ring.{add, mul}
use Rattle.algebra.specs.Rows.{row}
use Rattle.algebra.proofs.Rows.{row_at_lem, row_ext}
use Rattle.model.specs.Deal as Paper
use Rattle.model.specs.Steps.{Row, plus, times, constant, beaver}

-- share j of the row that is left
abbrev pub share_left : ℕ → ℕ → ℕ → ℕ → Row → Row → Row → ℕ → ℕ
share_left p a1 b1 both a b c j = add p (add p (add p (get_or c j 0) (mul p a1 (get_or b j 0))) (mul p b1 (get_or a j 0))) both

pub beaver_row : (S : Paper.Setting) (a1 b1 : ℕ) {both : ℕ} (a b c : Row) → both ≡ mul S.p a1 b1
    → row S.n (share_left S.p a1 b1 both a b c) ≡ beaver S a1 b1 (record { a = a; b = b; c = c })
unfolding plus times constant
beaver_row S a1 b1 a b c e = row_ext S.n _ _ (λ k l. rw e (simp row_at_lem))
