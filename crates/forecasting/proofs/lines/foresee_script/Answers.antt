use Rattle.forecasting.proofs.Heads.{script_refused}
use Rattle.forecasting.proofs.lines.foresee_script.Goals as goal

pub returns-in-Err : goal.returns-in-Err
returns-in-Err c =
    script_refused c.args.f c.args.script.now c.args.supply c.in-Err.found c.refused.result c.in-Err.ensures.number c.in-Err.ensures.place c.refused.ensures
