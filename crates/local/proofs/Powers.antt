-- Powers of two below p.
-- Assumes nothing.
use mathlib.Core.Path.{◌≡◌, ◌∙◌}
use Prim.Native.Nat.{ℕ, ◌^◌, ◌≤◌, ◌<◌}
use native.Mathlib.Nat.{mod-eq_of_lt}
use native.Mathlib.Omega.{arith}
use lib.Pow.{pow_mono, pow_pos}
use Rattle.model.specs.Fields.{power_of_2}

pub power_below : {p : ℕ} (j k : ℕ) → j ≤ k → 2 ^ k < p → 2 ^ j < p
power_below j k h b = omega (arith, pow_mono {i = j} {j = k} h)

-- they are their own residues
pub power_is : {p power : ℕ} (m : ℕ) → 2 ^ m < p → power ≡ power_of_2 p m → power ≡ 2 ^ m
unfolding power_of_2
power_is m h e = e ∙ mod-eq_of_lt h

pub power_above : {p power : ℕ} (m : ℕ) → 2 ^ m < p → power ≡ power_of_2 p m → 0 < power
power_above m h e = rw (power_is m h e) (pow_pos m)
