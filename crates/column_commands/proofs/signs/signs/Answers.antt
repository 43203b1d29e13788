use Rattle.std.proofs.Common.{arith, ◌∙◌}
use Rattle.std.proofs.lemmas.Result.{err_from_is_err_and}
use Rattle.column_commands.proofs.Signing.{turn_stops, signed_more, signed_end}
use Rattle.column_commands.proofs.signs.signs.Goals as goal

pub returns-in_err-after : goal.returns-in_err-after
returns-in_err-after c =
    let p = err_from_is_err_and c.from_residual.result c.from_residual.ensures.1 in
    rw (p.1, p.2) (turn_stops c.requires.0 c.loop-i.invariant.signed c.loop-i-test.true (omega arith) (rw c.in_err-after.ensures at c.sign_of-made.ensures))

pub loop-i-preserved : goal.loop-i-preserved
loop-i-preserved c =
    let S = c.in_ok-after.ensures in
    record {
      signed = signed_more c.requires.0 c.loop-i.invariant.signed c.loop-i-test.true (omega arith) (rw S.1 at c.sign_of-made.ensures) (omega arith) S.2.size S.2.seven S.2.cells c.past_sign-next.ensures;
      spent = S.2.spent ∙ c.loop-i.invariant.spent;
    }

pub returns : goal.returns
returns c = (signed_end c.requires.0 c.loop-i.invariant.signed c.loop-i-test.false, c.loop-i.invariant.spent)
