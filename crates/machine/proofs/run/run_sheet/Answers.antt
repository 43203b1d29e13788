use Rattle.std.proofs.Common.{arith}
use mathlib.Core.Path.{refl}
use Rattle.refusals.proofs.Numbers.{numbered}
use Rattle.machine.proofs.Whole.{script_refused, running, answers_stop}
use Rattle.machine.proofs.run.run_sheet.Goals as goal

pub run_script-requires : goal.run_script-requires
run_script-requires c = running c.requires c.in-Ok.ensures.number refl

pub returns-in-Ok : goal.returns-in-Ok
returns-in-Ok c = answers_stop c.requires c.run_script.ensures

pub returns-in-Err : goal.returns-in-Err
returns-in-Err c = script_refused c.requires c.in-Err.ensures.number c.in-Err.ensures.place (λ z. omega (arith, numbered c.in-Err.found.refusal, z)) c.refused.ensures
