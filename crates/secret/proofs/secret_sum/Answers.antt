use Rattle.std.proofs.Common.{◌∙◌}
use Rattle.secret.proofs.Sums.{sum_from_first}
use Rattle.secret.proofs.secret_sum.Goals as goal

pub returns : goal.returns
returns c = c.weighted_sum.ensures ∙ sum_from_first _ _ _
