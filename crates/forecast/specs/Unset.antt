-- Which register a command reads that is not set.
-- Assumes nothing.
use Rattle.std.specs.Prelude.{Bool, false, cond, List, [], ◌∷◌, ℕ, ◌+◌, ◌≤◌, get_or}
use Rattle.costs.specs.declared.cost.Cost.{Cost}

-- the first of some registers that is not set, or 64, which is no register
unfoldable pub first_unset : List Bool → List ℕ → ℕ
first_unset marks [] = 64
first_unset marks (r ∷ rs) = cond (get_or marks r false) (first_unset marks rs) r

-- the registers that a cost reads are among the 64
pub record InTable (c : Cost) : Type 0 where
  pub first : c.first.from + c.first.size ≤ 64
  pub second : c.second.from + c.second.size ≤ 64
