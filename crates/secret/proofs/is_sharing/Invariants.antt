use Rattle.std.proofs.Common.{◌≡◌, ℕ, ◌≤◌, ◌<◌}
use Rattle.model.proofs.Extrapolation.{before}
use Rattle.model.specs.Sharing.{at}
use Rattle.secret.proofs.is_sharing.Given as goal

abbrev pub invariant-loop-i : goal.invariant-loop-i
invariant-loop-i l = (z : ℕ) → 1 ≤ z → z < l.i → before l.p l.e l.row.shares z ≡ at 0 l.row.shares z
