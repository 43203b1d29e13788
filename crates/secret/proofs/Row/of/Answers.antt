use Rattle.std.proofs.Common.{rules}
use Rattle.algebra.proofs.Rows.{filling_start, filling_more, filling_end}
use Rattle.secret.proofs.Row.of.Goals as goal

pub loop-j-init : goal.loop-j-init
loop-j-init g c = λ f k. filling_start _ _

pub loop-j-preserved : goal.loop-j-preserved
loop-j-preserved g c = λ f k. search (rules, filling_more)

pub returns : goal.returns
returns g c = search (rules, filling_end)
