use Rattle.algebra.proofs.Lists.{WritingAt}
use Rattle.sharing.proofs.rows.put_shares.Given as goal

abbrev pub invariant-loop-j : goal.invariant-loop-j
invariant-loop-j l = WritingAt l.at l.fn.row.shares l.fn.list l.n l.j l.list
