use Rattle.std.proofs.Common.{◌≡◌, arith}
use Rattle.sharing.proofs.Horner.{horner_start, horner, horner_end}
use Rattle.sharing.proofs.polynomial.value_at.Goals as goal

pub loop-c-init : goal.loop-c-init
loop-c-init c =
    let e : c.into_iter-c-iterator.result.iter.rest.now ≡ c.args.coefficients.now = cc in
    rw e (horner_start c.args.p c.args.x c.args.coefficients.now)

pub loop-c-preserved : goal.loop-c-preserved
loop-c-preserved c = horner _ _ _ _ _ _ _ c.loop-c.invariant c.in-Some.ensures.steps c.mul.ensures.0 c.add-r.ensures.0

pub returns : goal.returns
returns c = (horner_end _ _ _ _ _ _ c.loop-c.invariant c.in-None.ensures.steps.0 c.mul-2.ensures.0 c.add.ensures.0, omega arith)
