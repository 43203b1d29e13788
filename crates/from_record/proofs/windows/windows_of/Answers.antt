use Rattle.std.proofs.Common.{refl, arith, ◌∙◌}
use Rattle.from_record.proofs.Windowing.{is_permitted, not_permitted, windowing_more, windowing_stop, windowing_end}
use Rattle.from_record.proofs.windows.windows_of.Goals as goal

pub returns-then-not-permitted : goal.returns-then-not-permitted
returns-then-not-permitted c = (
  refl,
  windowing_stop c.loop-z.invariant c.requires.1 c.requires.2
      (rw c.without_first-set.ensures at (not_permitted c.permitted.ensures c.if-not-permitted.true)),
)

pub opening_of-requires : goal.opening_of-requires
opening_of-requires c = (c.requires.0, c.requires.1, is_permitted c.permitted.ensures c.if-not-permitted.false)

pub loop-z-preserved : goal.loop-z-preserved
loop-z-preserved c =
    let u = c.without_first-set in
    windowing_more c.loop-z.invariant _ (omega arith)
    (rw u.ensures at (is_permitted c.permitted.ensures c.if-not-permitted.false)) (c.opening_of.ensures.0 ∙ u.ensures) c.opening_of.ensures.1

pub returns : goal.returns
returns c = (refl, windowing_end c.loop-z.invariant c.requires.1 c.requires.2 (omega arith))
