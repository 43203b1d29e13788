use Rattle.std.proofs.Common.{rules}
use Rattle.steps.proofs.Products.{minus_below}
use Rattle.steps.proofs.product.open_difference.Goals as goal

pub open_at-requires : goal.open_at-requires
open_at-requires c = search (rules, minus_below)

pub returns : goal.returns
returns c = rw c.sub_rows.ensures at c.open_at.ensures
