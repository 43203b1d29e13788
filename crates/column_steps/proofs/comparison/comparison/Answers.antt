use Rattle.std.proofs.lemmas.Result.{err_from_is_err_and}
use Rattle.column_steps.proofs.Comparing.{comparing_start, turn_stops, comparing_more, comparing_end}
use Rattle.column_steps.proofs.comparison.comparison.Goals as goal

pub loop-k-init : goal.loop-k-init
loop-k-init c = comparing_start c.requires.0 c.requires.2 c.requires.1 c.cell_row.ensures c.first_row-lt.ensures

pub returns-in_err-q : goal.returns-in_err-q
returns-in_err-q c =
    let p = err_from_is_err_and c.from_residual.result c.from_residual.ensures.1 in
    rw (p.1, p.2) (turn_stops c.requires.0 c.loop-k.invariant c.loop-k-test.true c.cell_row-bit.ensures c.in_err-q.ensures)

pub loop-k-preserved : goal.loop-k-preserved
loop-k-preserved c =
    comparing_more c.requires.0 c.loop-k.invariant c.loop-k-test.true c.cell_row-bit.ensures c.in_ok-q.ensures c.next_row-lt.ensures c.past-next.ensures

pub returns : goal.returns
returns c = comparing_end c.requires.0 c.loop-k.invariant c.loop-k-test.false
