-- Laws of arithmetic modulo p. An identity of Z/p is proved by the line `simp mod-ring (ring h _ _ _ _ (omega arith))`, with h : 0 < p:
-- `mod-ring` takes each side to `dif p P N`, the class of P - N, with P and N free of `%`; `ring` asks P + M ≡ Q + N of ℕ, and `omega`
-- multiplies that out. A bare number x stands in an identity as `x % p`.
-- Assumes nothing.
use mathlib.Core.Path.{◌≡◌, refl, sym, ap, ◌∙◌}
use Prim.Native.Nat.{ℕ, suc, pred, ◌+◌, ◌-◌, ◌*◌, ◌/◌, ◌%◌, ◌≤◌, ◌<◌, suc-le-suc}
use native.Mathlib.Nat.{mod-lt, mod-eq_of_lt, mod-mod, mod-add-mod, add-mod-mod, add-mod, div-add-mod', add-mul-mod_self_right}
use native.Mathlib.Omega.{arith}
use Rattle.algebra.specs.Ring.{add, sub, mul}

-- the class of a - b
pub dif : ℕ → ℕ → ℕ → ℕ
dif p a b = (a + pred p * b) % p

-- equal classes, from quotients
pub by_quotients : (p x y k m : ℕ) → x + k * p ≡ y + m * p → x % p ≡ y % p
by_quotients p x y k m e = sym (add-mul-mod_self_right x k p) ∙ ap (λ (z : ℕ). z % p) e ∙ add-mul-mod_self_right y m p

pub mul_mod : (x y p : ℕ) → x * y % p ≡ (x % p) * (y % p) % p
mul_mod x y p =
    by_quotients p _ _ 0 (x / p * y + x % p * (y / p)) (simp div-add-mod' at (go (x / p) (x % p) (y / p) (y % p)))
  where
    go : (X r Y s : ℕ) → (X * p + r) * (Y * p + s) + 0 * p ≡ r * s + (X * (Y * p + s) + r * Y) * p
    go X r Y s = omega arith

-- an operation takes its operands to their classes
pub add_in : (p x y : ℕ) → add p x y ≡ add p (x % p) (y % p)
unfolding add
add_in p x y = add-mod x y p

pub mul_in : (p x y : ℕ) → mul p x y ≡ mul p (x % p) (y % p)
unfolding mul
mul_in p x y = mul_mod x y p

pub sub_in : (p x y : ℕ) → sub p x y ≡ sub p (x % p) (y % p)
unfolding sub
sub_in p x y = simp (mod-mod, mod-add-mod)

-- sums and products of ℕ, under `%`
pub add_out : (p x y : ℕ) → (x + y) % p ≡ add p x y
unfolding add
add_out p x y = refl

pub mul_out : (p x y : ℕ) → x * y % p ≡ mul p x y
unfolding mul
mul_out p x y = refl

-- classes as differences
pub mod_dif : (p x : ℕ) → x % p ≡ dif p x 0
unfolding dif
mod_dif p x = ap (λ (z : ℕ). z % p) (omega arith)

pub dif_mod : (p P N : ℕ) → dif p P N % p ≡ dif p P N
unfolding dif
dif_mod p P N = mod-mod _ _

pub add_dif : (p P N Q M : ℕ) → add p (dif p P N) (dif p Q M) ≡ dif p (P + Q) (N + M)
unfolding add dif
add_dif p P N Q M = simp (mod-add-mod, add-mod-mod) (ap (λ (z : ℕ). z % p) (omega arith))

pub mul_dif : (p P N Q M : ℕ) → 0 < p → mul p (dif p P N) (dif p Q M) ≡ dif p (P * Q + N * M) (P * M + N * Q)
unfolding mul dif
mul_dif _ P N Q M (suc-le-suc {m = n} h) = simp (← mul_mod) (by_quotients (suc n) _ _ (N * M) (n * (N * M)) (omega arith))

pub sub_dif : (p P N Q M : ℕ) → 0 < p → sub p (dif p P N) (dif p Q M) ≡ dif p (P + M) (N + Q)
unfolding sub dif
sub_dif _ P N Q M (suc-le-suc {m = n} h) =
    let y : ℕ = Q + n * M in
    simp (mod-add-mod, mod-mod)
    (by_quotients (suc n) _ _ (Q + M) (suc (y / suc n)) (omega (arith, mod-lt y (suc-le-suc h), div-add-mod' y (suc n))))

pub ring : {p : ℕ} → 0 < p → (P N Q M : ℕ) → P + M ≡ Q + N → dif p P N ≡ dif p Q M
unfolding dif
ring (suc-le-suc {m = n} h) P N Q M e = by_quotients (suc n) _ _ M N (omega arith)

-- The general rules stand last: an earlier rule wins.
pub ruleset mod-ring = (dif_mod, add_dif, mul_dif, sub_dif, add_out, mul_out, mod_dif, add_in, mul_in, sub_in)

-- a product with its operands exchanged
pub mul_turned : (p x y : ℕ) {r : ℕ} → r ≡ mul p x y → r ≡ mul p y x
unfolding mul
mul_turned p x y e = e ∙ ap (λ (z : ℕ). z % p) (omega arith)

-- results are below p
pub add_lt : {p : ℕ} (a b : ℕ) → 0 < p → add p a b < p
unfolding add
add_lt a b h = mod-lt (a + b) h

pub mul_lt : {p : ℕ} (a b : ℕ) → 0 < p → mul p a b < p
unfolding mul
mul_lt a b h = mod-lt (a * b) h

pub sub_lt : {p : ℕ} (a b : ℕ) → 0 < p → sub p a b < p
unfolding sub
sub_lt {p} a b h = mod-lt (a + (p - b % p)) h

-- numbers below p, which an identity has as their classes
pub reduced : {p x a : ℕ} → x < p → a ≡ x % p → a ≡ x
reduced hx e = e ∙ mod-eq_of_lt hx

pub both_reduced : {p x y : ℕ} → x < p → y < p → x % p ≡ y % p → x ≡ y
both_reduced hx hy e = sym (mod-eq_of_lt hx) ∙ reduced hy e

-- s ≡ t modulo p from an equation a ≡ b, taken c times, and an identity: one use for each equation that a proof rests on
pub given : {p a b : ℕ} (c s t : ℕ) → 0 < p → a ≡ b → (s + c * b) % p ≡ (t + c * a) % p → s % p ≡ t % p
given {p} {a} {b} c s t h e f = back s ∙ ap (λ (z : ℕ). sub p z w) (rw e at f) ∙ sym (back t)
  where
    w : ℕ
    w = c * b

    back : (z : ℕ) → z % p ≡ sub p ((z + w) % p) w
    back z = simp mod-ring (ring h _ _ _ _ (omega arith))

-- a difference of numbers below p, as code has it: nothing is added, or p once
pub sub_up : {p a b : ℕ} → b ≤ a → a < p → a - b ≡ sub p a b
sub_up {p} {a} {b} l h =
    unfold sub in
    rw (mod-eq_of_lt {n = b} {m = p} (omega arith))
    (sym (ap (λ (z : ℕ). z % p) (omega arith) ∙ by_quotients p (a - b + p) (a - b) 0 1 (omega arith) ∙ mod-eq_of_lt (omega arith)))

pub sub_down : {p a b : ℕ} → a < b → b < p → a + (p - b) ≡ sub p a b
sub_down {p} {a} {b} l h = unfold sub in rw (mod-eq_of_lt {n = b} {m = p} h) (sym (mod-eq_of_lt (omega arith)))

-- a sum of numbers below p: nothing is taken away, or p once
pub add_up : {p : ℕ} (a b : ℕ) → p ≤ a + b → a + b < p + p → a + b - p ≡ add p a b
add_up {p} a b l h =
    unfold add in sym (by_quotients p (a + b) (a + b - p) 0 1 (omega arith) ∙ mod-eq_of_lt (omega arith))
