use Rattle.steps.proofs.Comparing.{Comparing}
use Rattle.steps.proofs.comparison.comparison.Given as goal

abbrev pub invariant-loop-k : goal.invariant-loop-k
invariant-loop-k l = Comparing l.s l.setting l.v l.w l.bits l.fn.at l.fn.log l.log l.lt.shares l.rest l.next l.k
