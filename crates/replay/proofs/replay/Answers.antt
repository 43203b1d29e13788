use Rattle.replay.proofs.Entry.{all_ready, replay_refused}
use Rattle.replay.proofs.replay.Goals as goal

pub by_script-requires : goal.by_script-requires
by_script-requires c = (all_ready _ c.args.head.now c.args.part.now c.in-Ok.ensures.0, c.in-Ok.ensures.1)

pub returns-in-Err : goal.returns-in-Err
returns-in-Err c = replay_refused _ c.args.head.now c.args.part.now c.args.log.now c.in-Err.refusal c.in-Err.ensures.0 c.nothing.ensures
