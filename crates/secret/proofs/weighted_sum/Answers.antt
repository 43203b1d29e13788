use Rattle.std.proofs.Common.{◌∙◌, arith}
use Rattle.secret.proofs.Sums.{summing_start, summing_more, summing_fits, summing_end}
use Rattle.secret.proofs.weighted_sum.Goals as goal

pub loop-x-init : goal.loop-x-init
loop-x-init c = summing_start _ _ _ _

pub loop-x-preserved : goal.loop-x-preserved
loop-x-preserved c = summing_more c.loop-x.invariant c.loop-x-test.true (c.from.ensures ∙ c.weight.ensures.0) c.from-in-loop-x.ensures (omega arith)

pub overflow_add-sum : goal.overflow_add-sum
overflow_add-sum c = record { fits = summing_fits (loop-x-preserved c) c.requires.0 c.requires.1 }

pub returns : goal.returns
returns c = summing_end c.loop-x.invariant c.loop-x-test.false
