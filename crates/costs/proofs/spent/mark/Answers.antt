use Rattle.std.proofs.Common.{arith}
use Rattle.costs.proofs.Marks.{span_marked}
use Rattle.costs.proofs.spent.mark.Goals as goal

pub returns : goal.returns
returns c = span_marked c.args.marks c.args.d c.args.w (omega arith) (c.fill.ensures.after (λ y e. e))
