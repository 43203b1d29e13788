use Rattle.std.proofs.Common.{arith, rules}
use Rattle.machine.proofs.Loop.{looping_start, ended, closer, costed, checked, refused_here, ready_here, payable_here, goes_next}
use Rattle.machine.proofs.run.run_script.Goals as goal

pub loop-line-init : goal.loop-line-init
loop-line-init c = search (looping_start, arith)

pub cost_of-need-requires : goal.cost_of-need-requires
cost_of-need-requires c = costed c.loop-line.invariant c.decode.ensures {line = c.in-Ok-Some.line} (cc)

pub check-requires : goal.check-requires
check-requires c = checked c.loop-line.invariant c.decode.ensures {line = c.in-Ok-Some.line} (cc) c.cost_of-need.ensures

pub returns-in-Err : goal.returns-in-Err
returns-in-Err c = refused_here c.loop-line.invariant c.decode.ensures {line = c.in-Ok-Some.line} (cc) c.cost_of-need.ensures c.in-Err.refusal c.in-Err.ensures

pub step-table-requires : goal.step-table-requires
step-table-requires c =
    let N = c.cost_of-need.ensures in
    let E = c.in_default-check.ensures in
    (ready_here c.loop-line.invariant c.decode.ensures {line = c.in-Ok-Some.line} (cc) N E, payable_here c.loop-line.invariant c.decode.ensures {line = c.in-Ok-Some.line} (cc) N E)

pub loop-line-smaller : goal.loop-line-smaller
loop-line-smaller c = closer c.loop-line.invariant c.decode.ensures {line = c.in-Ok-Some.line} (cc)

pub loop-line-preserved : goal.loop-line-preserved
loop-line-preserved c =
    goes_next c.loop-line.invariant c.decode.ensures {line = c.in-Ok-Some.line} (cc) c.cost_of-need.ensures c.in_default-check.ensures c.step-table.ensures (search rules) (search rules)

pub returns-in_default : goal.returns-in_default
returns-in_default c = ended c.loop-line.invariant c.decode.ensures (λ line q. cc)

pub returns-in_default-2 : goal.returns-in_default-2
returns-in_default-2 c = ended c.loop-line.invariant c.decode.ensures (λ line q. cc)
