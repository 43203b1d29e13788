use Rattle.std.proofs.Common.{rules, arith}
use Rattle.presence.proofs.Presences.{weighed_start, weighed_low, weighed_more, own_ratio}
use Rattle.presence.proofs.weight_among.Goals as goal

pub loop-z-init : goal.loop-z-init
loop-z-init c = weighed_start _ _ _ _ _ (omega arith) c.requires.3 (search rules)

pub ratio-requires : goal.ratio-requires
ratio-requires c = (c.requires.0, c.modulus-p.ensures.0, c.requires.2, weighed_low c.loop-z.invariant _ _ c.in-Some.ensures.steps, c.if-z-x.true)

pub loop-z-preserved-then-z-x : goal.loop-z-preserved-then-z-x
loop-z-preserved-then-z-x c = weighed_more c.loop-z.invariant _ _ c.in-Some.ensures.steps (rw (← c.ratio.ensures) c.mul-weight.ensures)

pub loop-z-preserved : goal.loop-z-preserved
loop-z-preserved c = weighed_more c.loop-z.invariant _ _ c.in-Some.ensures.steps (own_ratio _ _ _ c.loop-z.invariant.less c.if-z-x.false)
