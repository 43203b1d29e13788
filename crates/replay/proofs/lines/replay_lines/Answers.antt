use Rattle.std.proofs.Common.{arith}
use Rattle.replay.proofs.Going.{going_start, ended, closer, costed, checked, refused_here, ready_here, payable_here, refused_inside, goes_next}
use Rattle.replay.proofs.lines.replay_lines.Goals as goal

pub loop-line-init : goal.loop-line-init
loop-line-init c = search (going_start, arith)

pub cost_of-need-requires : goal.cost_of-need-requires
cost_of-need-requires c = costed c.loop-line.invariant c.decode.ensures {line = c.in-Ok-Some.line} (cc)

pub check-requires : goal.check-requires
check-requires c = checked c.loop-line.invariant c.decode.ensures {line = c.in-Ok-Some.line} (cc) c.cost_of-need.ensures

pub returns-in-Err : goal.returns-in-Err
returns-in-Err c = refused_here c.loop-line.invariant c.decode.ensures {line = c.in-Ok-Some.line} (cc) c.cost_of-need.ensures c.in-Err.refusal c.in-Err.ensures

pub perform-requires : goal.perform-requires
perform-requires c = ready_here c.loop-line.invariant c.decode.ensures {line = c.in-Ok-Some.line} (cc) c.cost_of-need.ensures c.in_default-check.ensures

pub returns-in-Err-perform : goal.returns-in-Err-perform
returns-in-Err-perform c =
    refused_inside c.loop-line.invariant c.decode.ensures {line = c.in-Ok-Some.line} (cc) c.cost_of-need.ensures c.in_default-check.ensures c.in-Err-perform.refusal c.in-Err-perform.ensures

pub paid-table-requires : goal.paid-table-requires
paid-table-requires c = (
  rw c.in-Ok.ensures.1 (payable_here c.loop-line.invariant c.decode.ensures {line = c.in-Ok-Some.line} (cc) c.cost_of-need.ensures c.in_default-check.ensures),
  c.cost_of-need.ensures.target,
)

pub loop-line-smaller : goal.loop-line-smaller
loop-line-smaller c = closer c.loop-line.invariant c.decode.ensures {line = c.in-Ok-Some.line} (cc)

pub loop-line-preserved : goal.loop-line-preserved
loop-line-preserved c =
    goes_next c.loop-line.invariant c.decode.ensures {line = c.in-Ok-Some.line} (cc) c.cost_of-need.ensures c.in_default-check.ensures {done = c.in-Ok.done} c.in-Ok.ensures c.paid-table.ensures

pub returns-in_default : goal.returns-in_default
returns-in_default c = ended c.loop-line.invariant c.decode.ensures (λ line q. cc)

pub returns-in_default-2 : goal.returns-in_default-2
returns-in_default-2 c = ended c.loop-line.invariant c.decode.ensures (λ line q. cc)
