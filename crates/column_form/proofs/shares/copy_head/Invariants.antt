use Rattle.algebra.proofs.Lists.{Writing}
use Rattle.column_form.proofs.shares.copy_head.Given as goal

abbrev pub invariant-loop-j : goal.invariant-loop-j
invariant-loop-j l = Writing l.s l.fn.out l.count l.j l.out
