use Rattle.std.proofs.Common.{ap}
use Rattle.refusals.specs.Numbers.{told}
use Rattle.forecasting.proofs.Heads.{answer_is}
use Rattle.forecasting.proofs.forecast.Goals as goal

pub returns-in-Ok : goal.returns-in-Ok
returns-in-Ok c = answer_is c.args.head.now c.foresee-found.result c.foresee-found.ensures (ap told c.in-Ok.is)

pub returns-in-Err : goal.returns-in-Err
returns-in-Err c = answer_is c.args.head.now c.foresee-found.result c.foresee-found.ensures (ap told c.in-Err.is)
