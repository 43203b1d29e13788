-- Rows written one after the other.
-- Assumes nothing.
use mathlib.Core.Path.{◌≡◌, refl}
use mathlib.Core.List.{List, [], ◌∷◌, ◌++◌, append_assoc}
use Prim.Native.Nat.{◌*◌}
use native.Mathlib.Omega.{arith}
use lib.ListN.{length, length-append}
use Rattle.algebra.proofs.Rows.{length_tab}
use Rattle.model.specs.Steps.{Setting, Row, recorded}
use Rattle.model.specs.Run.{written}

pub length_recorded : (S : Setting) (x : Row) → length (recorded S x) ≡ S.n
unfolding recorded
length_recorded S x = length_tab S.n _

pub length_written : (S : Setting) (xs : List Row) → length (written S xs) ≡ S.n * length xs
unfolding written
length_written S [] = omega arith
length_written S (x ∷ xs) = rw (length-append, length_recorded S x, length_written S xs) (omega arith)

pub written_append : (S : Setting) (xs ys : List Row) → written S (xs ++ ys) ≡ written S xs ++ written S ys
unfolding written
written_append S [] ys = refl
written_append S (x ∷ xs) ys = rw (written_append S xs ys, append_assoc)
