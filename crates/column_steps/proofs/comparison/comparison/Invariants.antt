use Rattle.column_steps.proofs.Comparing.{Comparing}
use Rattle.column_steps.proofs.comparison.comparison.Given as goal

-- at bit k what is left to read is what the whole comparison reads
abbrev pub invariant-loop-k : goal.invariant-loop-k
invariant-loop-k l = Comparing l.c l.part l.log l.v l.w l.bits l.fn.at l.lt.shares l.rest l.next l.k
