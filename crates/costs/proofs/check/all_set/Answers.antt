use Rattle.std.proofs.Common.{rules, arith, ◌∙◌}
use borrow.Author.Tests.{tests}
use Rattle.std.proofs.lemmas.Iterator.{YieldsList-from_slice}
use Rattle.std.proofs.lemmas.Iterator.Search.{all_from_yields_List}
use Rattle.costs.proofs.Marks.{span_set}
use Rattle.costs.proofs.check.all_set.Goals as goal

pub returns : goal.returns
returns c =
    all_from_yields_List (λ x. x) _ _ c.all.result c.all.ensures.ran (YieldsList-from_slice _ c.iter.ensures.rest) (λ x b q k. search (rules, tests))
    ∙ span_set c.args.marks c.args.b c.args.w (omega arith)
