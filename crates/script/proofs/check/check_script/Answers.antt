use Rattle.std.proofs.lemmas.Result.{err_from_is_err_and}
use Rattle.script.proofs.Checking.{from_start, at_end, at_refusal, closer, go_on}
use Rattle.script.proofs.check.check_script.Goals as goal

pub loop-line-init : goal.loop-line-init
loop-line-init c = from_start _ _ _

pub returns-in_err-line-clause-number : goal.returns-in_err-line-clause-number
returns-in_err-line-clause-number c =
    let p = err_from_is_err_and c.from_residual.result c.from_residual.ensures.1 in
    rw (p.1, p.2) (at_refusal _ _ _ _ c.loop-line.invariant c.decode.ensures c.in_err-line.was).0

pub returns-in_err-line-clause-place : goal.returns-in_err-line-clause-place
returns-in_err-line-clause-place c =
    let p = err_from_is_err_and c.from_residual.result c.from_residual.ensures.1 in
    rw (p.1, p.2) (at_refusal _ _ _ _ c.loop-line.invariant c.decode.ensures c.in_err-line.was).1

pub loop-line-smaller : goal.loop-line-smaller
loop-line-smaller c = closer _ _ _ _ c.loop-line.invariant c.in_ok-line.ensures c.in-Some.is

pub loop-line-preserved : goal.loop-line-preserved
loop-line-preserved c = go_on _ _ _ _ c.loop-line.invariant c.in_ok-line.ensures c.in-Some.is

pub returns-clause-number : goal.returns-clause-number
returns-clause-number c = (at_end _ _ _ _ c.loop-line.invariant c.in_ok-line.ensures c.in_default.is).0

pub returns-clause-place : goal.returns-clause-place
returns-clause-place c = (at_end _ _ _ _ c.loop-line.invariant c.in_ok-line.ensures c.in_default.is).1
