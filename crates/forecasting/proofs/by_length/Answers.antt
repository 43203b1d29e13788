use Rattle.std.proofs.Common.{rules}
use Rattle.forecasting.proofs.Heads.{bounds, right_length, other_length}
use Rattle.forecasting.proofs.by_length.Goals as goal

pub foresee_script-requires : goal.foresee_script-requires
foresee_script-requires c = bounds c.args.head.now c.requires

pub returns-then-head-end : goal.returns-then-head-end
returns-then-head-end c = search (rules, right_length)

pub returns-else-head-end : goal.returns-else-head-end
returns-else-head-end c = search (rules, other_length)
