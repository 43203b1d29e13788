use Rattle.std.proofs.Common.{◌≡◌, ℕ, ◌<◌}
use Rattle.algebra.proofs.Rows.{Filling}
use Rattle.secret.proofs.Row.of.Given as goal

abbrev pub invariant-loop-j : goal.invariant-loop-j
invariant-loop-j g l = (f : ℕ → ℕ) → ((j v : ℕ) → j < l.n → goal.F-post g l.share j v → v ≡ f j) → Filling l.n f l.j l.shares
