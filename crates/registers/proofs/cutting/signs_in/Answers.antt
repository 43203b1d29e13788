use Rattle.std.proofs.Common.{ap, ◌∙◌, arith}
use Rattle.model.specs.Counts.{added}
use Rattle.costs.specs.Costing.{counts_of}
use Rattle.registers.proofs.Signing.{signs_k, turned_start, turn_ready, turned_more, turned_end}
use Rattle.registers.proofs.cutting.signs_in.Goals as goal

pub overflow_sub-k : goal.overflow_sub-k
overflow_sub-k c = (signs_k c.requires).1

pub of_mask-one-requires : goal.of_mask-one-requires
of_mask-one-requires c = let k = signs_k c.requires in (k.0, k.2, k.3)

pub loop-i-init : goal.loop-i-init
loop-i-init c = turned_start c.requires

pub overflow_add-d : goal.overflow_add-d
overflow_add-d c = record { fits = omega (arith, (turn_ready c.requires c.loop-i.invariant c.loop-i-test.true).d_in) }

pub overflow_add-a : goal.overflow_add-a
overflow_add-a c = record { fits = omega (arith, (turn_ready c.requires c.loop-i.invariant c.loop-i-test.true).a_in) }

pub sign_in-requires : goal.sign_in-requires
sign_in-requires c = turn_ready c.requires c.loop-i.invariant c.loop-i-test.true

pub loop-i-preserved : goal.loop-i-preserved
loop-i-preserved c =
    turned_more c.requires c.loop-i.invariant c.loop-i-test.true c.sign_in.auto.cells c.sign_in.auto.log
    (c.added-spent.ensures ∙ ap (added (counts_of c.loop-i.spent)) c.of_mask-one.ensures) c.sign_in.ensures

pub returns : goal.returns
returns c = turned_end c.requires c.loop-i.invariant (omega arith)
