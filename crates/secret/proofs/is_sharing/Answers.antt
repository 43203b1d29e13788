use Rattle.std.proofs.Common.{◌∙◌, sym, arith, refl}
use Rattle.secret.proofs.Testing.{at_place, steps_more, passes, fails_below, fails_at}
use Rattle.secret.proofs.is_sharing.Goals as goal

pub returns-then-not-shares_below : goal.returns-then-not-shares_below
returns-then-not-shares_below c = sym (fails_below c.requires.0 c.requires.1 c.args.row.shares (sym c.shares_below.ensures ∙ c.if-not-shares_below.true))

pub returns-then-value_before-row : goal.returns-then-value_before-row
returns-then-value_before-row c =
    sym (fails_at c.requires.0 c.requires.1 c.args.row.shares c.loop-i.i (omega arith) (omega arith)
    (λ q. c.if-value_before-row.true (c.value_before.ensures.0 ∙ q ∙ at_place _ c.loop-i.i (omega arith))))

pub loop-i-preserved : goal.loop-i-preserved
loop-i-preserved c = steps_more _ _ _ c.loop-i.i (omega arith) c.loop-i.invariant c.value_before.ensures.0 refl c.if-value_before-row.false

pub returns : goal.returns
returns c =
    sym (passes c.requires.0 c.requires.1 _ (sym c.shares_below.ensures ∙ c.if-not-shares_below.false) (λ i a b. c.loop-i.invariant i a (omega arith)))
