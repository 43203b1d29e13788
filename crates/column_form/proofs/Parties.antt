-- Grids further on, and the length of what is left when the rows of some parties are copied.
-- Assumes nothing.
use mathlib.Core.Path.{◌≡◌, refl, ◌∙◌}
use mathlib.Core.List.{List}
use Prim.Native.Nat.{ℕ, zero, suc, ◌+◌, ◌≤◌}
use native.Mathlib.Omega.{arith}
use lib.ListN.{length}
use Rattle.column_form.specs.Grids.{further_on, Fits, rows_copied}
use Rattle.column_form.specs.declared.grid.Grid.{Grid}
use Rattle.column_form.proofs.Places.{fits_party}
use Rattle.column_form.proofs.Copying.{column_length}

-- a grid begun where it begins, and twice further on
pub further_none : (G : Grid) (k : ℕ) → k ≡ 0 → G ≡ further_on k G
further_none G k e = let q : G.first ≡ G.first + k = omega (arith, e) in λ i. record { first = q i; down = G.down; across = G.across }

pub further_twice : (G : Grid) (a b c : ℕ) → a + b ≡ c → further_on b (further_on a G) ≡ further_on c G
further_twice G a b c e =
    let q : G.first + a + b ≡ G.first + c = omega (arith, e) in λ i. record { first = q i; down = G.down; across = G.across }

-- c keeps its length
pub rows_length : (s : List ℕ) (F G : Grid) (rows parties : ℕ) (c : List ℕ) → Fits F rows parties (length s) → Fits G rows parties (length s) → length s ≤ length c
    → (j : ℕ) → j ≤ parties → length (rows_copied s F G rows j c) ≡ length c
unfolding rows_copied
rows_length s F G rows parties c f g room zero h = refl
rows_length s F G rows parties c f g room (suc j) h =
    let e = rows_length s F G rows parties c f g room j (omega arith) in
    column_length s _ _ rows _ (fits_party f j h) (fits_party g j h) (omega (arith, e)) rows (omega arith) ∙ e
