use Rattle.calls.proofs.Importing.{importing_start, importing_more, importing_stops, importing_ends, room_left, less_room}
use Rattle.calls.proofs.import.Goals as goal

pub loop-at-init : goal.loop-at-init
loop-at-init c = importing_start _ _

pub bounds-out-calls : goal.bounds-out-calls
bounds-out-calls c = room_left c.loop-at.invariant c.loop-at-test.true c.in-Ok.ensures

pub loop-at-smaller : goal.loop-at-smaller
loop-at-smaller c = less_room c.loop-at.invariant c.loop-at-test.true c.in-Ok.ensures

pub loop-at-preserved : goal.loop-at-preserved
loop-at-preserved c = importing_more c.loop-at.invariant c.loop-at-test.true c.in-Ok.ensures

pub returns-in-Err : goal.returns-in-Err
returns-in-Err c = importing_stops c.loop-at.invariant c.loop-at-test.true c.in-Err.ensures

pub returns : goal.returns
returns c = importing_ends c.loop-at.invariant c.loop-at-test.false
