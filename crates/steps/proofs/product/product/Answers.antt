use Rattle.steps.proofs.Products.{product_leaves}
use Rattle.steps.proofs.product.product.Goals as goal

pub returns : goal.returns
returns c =
    product_leaves _ _ c.requires.fitting.parties c.read_row-a.ensures c.read_row-b.ensures c.read_row-c.ensures
    c.open_difference-a1.ensures c.open_difference-b1.ensures c.beaver.ensures
