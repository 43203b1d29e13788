use Rattle.std.proofs.Common.{arith}
use Rattle.local.proofs.Spelling.{spelling_start, spelling_more}
use Rattle.local.proofs.bits.spelled_row.Goals as goal

pub loop-k-init : goal.loop-k-init
loop-k-init c = spelling_start _ _ _ c.constant_row-r.ensures

pub loop-k-preserved : goal.loop-k-preserved
loop-k-preserved c = spelling_more _ _ _ _ _ (omega arith) (omega arith) c.loop-k.invariant c.cell_row.ensures c.add_scaled-r.ensures
