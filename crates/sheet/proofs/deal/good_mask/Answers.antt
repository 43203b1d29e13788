use Rattle.std.proofs.Common.{◌<◌}
use native.Mathlib.Omega.{arith}
use Rattle.sheet.proofs.Spelling.{bit_fits, low_fits, spelling_start, spelling_more, spelling_fails, spelling_end}
use Rattle.sheet.proofs.deal.good_mask.Goals as goal

pub loop-k-init : goal.loop-k-init
loop-k-init c = spelling_start _ _ _ _

pub returns-then-bit-gt1 : goal.returns-then-bit-gt1
returns-then-bit-gt1 c = spelling_fails c.loop-k.invariant c.loop-k-test.true (rw c.read_row.ensures at c.secret_of-bit.ensures.0) c.if-bit-gt1.true

pub overflow_add-v : goal.overflow_add-v
overflow_add-v c =
    let small : c.loop-k.k < 31 = omega (arith, c.requires.0.bits) in
    omega (arith, low_fits c.loop-k.k c.loop-k.invariant.low small, bit_fits c.loop-k.k {b = c.secret_of-bit.result} small (omega arith))

pub loop-k-preserved : goal.loop-k-preserved
loop-k-preserved c =
    spelling_more c.loop-k.invariant c.loop-k-test.true (rw c.read_row.ensures at c.secret_of-bit.ensures.0) c.requires.0.bits (omega arith)

pub returns : goal.returns
returns c = spelling_end c.loop-k.invariant (omega arith)
