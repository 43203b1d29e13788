-- Arithmetic modulo p on the natural numbers, total: the operands need not be below p, and p need not be prime.
-- Assumes nothing.
use Rattle.std.specs.Prelude.{ℕ, ◌+◌, ◌-◌, ◌*◌, ◌%◌}

unfoldable pub add : ℕ → ℕ → ℕ → ℕ
add p a b = (a + b) % p

unfoldable pub sub : ℕ → ℕ → ℕ → ℕ
sub p a b = (a + (p - b % p)) % p

unfoldable pub mul : ℕ → ℕ → ℕ → ℕ
mul p a b = a * b % p
