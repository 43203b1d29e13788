use Rattle.std.proofs.Common.{rules}
use Rattle.steps.proofs.Comparing.{comparing_start, comparing_more, comparing_end}
use Rattle.steps.proofs.comparison.comparison.Goals as goal

pub loop-k-init : goal.loop-k-init
loop-k-init c = search (rules, comparing_start)

pub loop-k-preserved : goal.loop-k-preserved
loop-k-preserved c =
    rw c.past-next.ensures
    (comparing_more c.loop-k.invariant c.loop-k-test.true c.cell_row-bit.ensures c.product-q.ensures (search rules) c.next_row-lt.ensures)

pub returns : goal.returns
returns c = comparing_end c.loop-k.invariant c.loop-k-test.false
