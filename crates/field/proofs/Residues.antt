-- Arithmetic modulo p as the code does it: on operands that are reduced first, then with p added or taken away at most once.
-- Assumes nothing.
use mathlib.Core.Path.{◌≡◌, sym, ◌∙◌}
use Prim.Native.Nat.{ℕ, ◌+◌, ◌-◌, ◌*◌, ◌%◌, ◌^◌, ◌≤◌, ◌<◌}
use native.Mathlib.Nat.{mod-eq_of_lt, one-mul, mul-le-mul_left}
use native.Mathlib.Omega.{arith}
use lib.Pow.{shl_exact}
use Rattle.algebra.specs.Ring.{add, sub}
use Rattle.algebra.proofs.Ring.{add_in, sub_in, add_up, sub_up, sub_down}

module _ (p a b : ℕ) {x y : ℕ} (ex : x ≡ a % p) (ey : y ≡ b % p) (hx : x < p) (hy : y < p) where
  pub add_low : x + y < p → x + y ≡ add p a b
  add_low h = rw (add_in, ← ex, ← ey) (unfold add in sym (mod-eq_of_lt h))

  pub add_high : p ≤ x + y → x + y - p ≡ add p a b
  add_high h = rw (add_in, ← ex, ← ey) (add_up x y h (omega arith))

  pub sub_low : y ≤ x → x - y ≡ sub p a b
  sub_low h = rw (sub_in, ← ex, ← ey) (sub_up h hx)

  pub sub_high : x < y → x + (p - y) ≡ sub p a b
  sub_high h = rw (sub_in, ← ex, ← ey) (sub_down h hy)

-- a product of 32-bit numbers in 64 bits
pub product_fits : {a b : ℕ} → a < 2 ^ 32 → b < 2 ^ 32 → a * b < 2 ^ 64
product_fits {a} {b} ha hb = let h : a * b ≤ a * 4294967295 = mul-le-mul_left a (omega arith) in omega arith

-- 1 << m in w bits
pub shift_one : (m w : ℕ) → m < w → 1 * 2 ^ m % 2 ^ w ≡ 2 ^ m
shift_one m w h = shl_exact {a = 1} 1 m w (omega arith) (omega arith) ∙ one-mul (2 ^ m)
