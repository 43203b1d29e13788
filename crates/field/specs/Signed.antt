-- A signed number by its sign and its magnitude, as the code takes it apart.
-- Assumes nothing.
use Rattle.std.specs.Prelude.{Bool, true, false, ℕ, ℤ, pos, negsuc}

-- m, or -(m + 1)
abbrev pub signed_of : Bool → ℕ → ℤ
signed_of true m = pos m
signed_of false m = negsuc m
