use Rattle.std.proofs.Common.{length, get_or}
use Rattle.algebra.proofs.Rows.{Filling}
use Rattle.sharing.proofs.rows.gather.Given as goal

abbrev pub invariant-loop-j : goal.invariant-loop-j
invariant-loop-j l = Filling (length l.xs) (λ j. get_or l.xs j 0) l.j l.shares
