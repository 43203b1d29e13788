use Rattle.secret.proofs.Sums.{Summing}
use Rattle.secret.proofs.weighted_sum.Given as goal

abbrev pub invariant-loop-x : goal.invariant-loop-x
invariant-loop-x l = Summing l.p l.e l.row.shares l.i l.x l.sum
