use Rattle.std.proofs.Common.{rules}
use Rattle.algebra.proofs.Rows.{filling_start, filling_more, filling_end}
use Rattle.sharing.proofs.rows.gather.Goals as goal

pub loop-j-init : goal.loop-j-init
loop-j-init c = filling_start _ _

pub loop-j-preserved : goal.loop-j-preserved
loop-j-preserved c = search (rules, filling_more)

pub returns : goal.returns
returns c = search (rules, filling_end)
