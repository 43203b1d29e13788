-- Signed 64-bit numbers as the code works on them. A local of type i64 holds bits; read back, they are the number that was stored.
-- Assumes nothing.
use mathlib.Core.Path.{◌≡◌, refl, ap, ◌∙◌}
use mathlib.Core.Bool.{true, false}
use Prim.Native.Nat.{ℕ, zero, suc, ◌^◌, ◌<◌}
use native.Mathlib.Omega.{arith}
use lib.Dec.{leb-zero}
use lib.IntN.{ℤ, pos, negsuc, ◌-ℤ◌, +ℤ_comm, -ℤ_one}
use lib.Signed.{mag, non_neg, le_z}
use mir.Facts.{to_z-of_z}
use mir.Syntax.{w64}
use mir.Val.{SFits, to_z, of_z}

abbrev pub held : ℤ → ℤ
held z = to_z w64 (of_z w64 z)

pub held_is : {z : ℤ} → SFits w64 z → held z ≡ z
held_is f = to_z-of_z {w = w64} f

pub pos_fits : {n : ℕ} → n < 2 ^ 63 → SFits w64 (pos n)
pos_fits h = record { sfits = h }

-- -1 - z: z's magnitude with the other sign
abbrev pub turned : ℤ → ℤ
turned (pos n) = negsuc n
turned (negsuc n) = pos n

turned_is : (z : ℤ) → negsuc 0 -ℤ z ≡ turned z
turned_is (pos zero) = refl
turned_is (pos (suc n)) = ap (λ (m : ℕ). negsuc (suc m)) (omega arith)
turned_is (negsuc n) = +ℤ_comm (negsuc 0) (pos (suc n)) ∙ -ℤ_one (pos (suc n))

turned_fits : {z : ℤ} → SFits w64 z → SFits w64 (turned z)
turned_fits {z = pos n} f = record { sfits = f.sfits }
turned_fits {z = negsuc n} f = record { sfits = f.sfits }

pub minus_fits : {z : ℤ} → SFits w64 z → SFits w64 (negsuc 0 -ℤ held z)
minus_fits f = rw (held_is f, turned_is) (turned_fits f)

pub minus_is : {z : ℤ} → SFits w64 z → held (negsuc 0 -ℤ held z) ≡ turned z
minus_is f = rw (held_is f, turned_is) (held_is (turned_fits f))

-- the test 0 <= z, and the magnitude on each side of it
pub sign_is : {z : ℤ} → SFits w64 z → le_z (pos 0) (held z) ≡ non_neg z
sign_is {z = pos n} f = rw (held_is f) (leb-zero n)
sign_is {z = negsuc n} f = rw (held_is f)

pub up : {z : ℤ} → SFits w64 z → le_z (pos 0) (held z) ≡ true → held z ≡ pos (mag z)
up {z = pos n} f t = held_is f
up {z = negsuc n} f t = cc (sign_is f)

pub down : {z : ℤ} → SFits w64 z → le_z (pos 0) (held z) ≡ false → held (negsuc 0 -ℤ held z) ≡ pos (mag z)
down {z = pos n} f t = cc (sign_is f)
down {z = negsuc n} f t = minus_is f
