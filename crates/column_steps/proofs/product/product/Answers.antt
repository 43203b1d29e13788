use Rattle.std.proofs.lemmas.Result.{err_from_is_err_and}
use Rattle.column_steps.proofs.Products.{first_stops, second_stops, product_comes}
use Rattle.column_steps.proofs.product.product.Goals as goal

pub returns-in_err-a1 : goal.returns-in_err-a1
returns-in_err-a1 c =
    let p = err_from_is_err_and c.from_residual.result c.from_residual.ensures.1 in
    rw (p.1, p.2) (first_stops c.requires.0 _ _ _ _ _ c.read_row-a.ensures c.sub_rows.ensures c.in_err-a1.ensures)

pub returns-in_err-b1 : goal.returns-in_err-b1
returns-in_err-b1 c =
    let p = err_from_is_err_and c.from_residual-in_err-b1.result c.from_residual-in_err-b1.ensures.1 in
    rw (p.1, p.2) (second_stops c.requires.0 _ _ _ _ _ c.read_row-a.ensures c.sub_rows.ensures c.in_ok-a1.ensures c.read_row-b.ensures c.sub_rows-2.ensures c.in_err-b1.ensures)

pub returns : goal.returns
returns c =
    product_comes c.requires.0 _ _ _ _ _ c.read_row-a.ensures c.sub_rows.ensures c.in_ok-a1.ensures c.read_row-b.ensures c.sub_rows-2.ensures c.in_ok-b1.ensures
    c.read_row-third.ensures c.beaver.ensures
