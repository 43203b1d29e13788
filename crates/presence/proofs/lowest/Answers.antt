use Rattle.std.proofs.Common.{arith}
use Rattle.presence.proofs.Presences.{looked_none, takes, left_out}
use Rattle.presence.proofs.lowest.Goals as goal
use Rattle.presence.proofs.lowest.Goals.{then-present-j-eq1+then-count-e, else-present-j-eq1}

pub loop-j-init : goal.loop-j-init
loop-j-init c = looked_none _ _

pub loop-j-preserved : goal.loop-j-preserved
loop-j-preserved c =
    let K = c.loop-j.invariant in
    elim c.if-present-j-eq1.branch [
      | then-present-j-eq1+then-count-e w ↦ rw (w.parties-is, w.count-is) (takes K (omega arith) (omega arith) w.if-present-j-eq1.true w.if-count-e.true)
      | else-present-j-eq1 w ↦ rw (w.parties-is, w.count-is) (left_out K w.else-present-j-eq1.either)
    ]
