use Rattle.forecasting.proofs.Heads.{header_passes, header_refused}
use Rattle.forecasting.proofs.foresee.Goals as goal

pub by_length-requires : goal.by_length-requires
by_length-requires c = c.in-Ok.ensures.1

pub returns-in-Ok : goal.returns-in-Ok
returns-in-Ok c = header_passes c.args.head.now c.in-Ok.ensures.0 c.by_length.ensures

pub returns-in-Err : goal.returns-in-Err
returns-in-Err c = header_refused c.args.head.now c.in-Err.refusal c.in-Err.ensures.0 c.refused.ensures
