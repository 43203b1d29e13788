use Rattle.presence.proofs.Presences.{weighing_more, weighing_end}
use Rattle.presence.proofs.weights_by.Goals as goal

pub loop-i-preserved : goal.loop-i-preserved
loop-i-preserved g c = λ p parties l k. weighing_more (c.loop-i.invariant p parties l k) l c.requires.few c.loop-i-test.true (k _ _ c.loop-i-test.true c.weight.ensures)

pub returns : goal.returns
returns g c = λ p parties l k. weighing_end (c.loop-i.invariant p parties l k) l c.requires.few c.loop-i-test.false
