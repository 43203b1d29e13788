use Rattle.std.proofs.Common.{◌≡◌, length, rules, arith, ap, ◌∙◌}
use lib.ListN.{take}
use lib.Seq.{length-take-le, get_or-take}
use Rattle.algebra.specs.Lists.{all_below}
use Rattle.algebra.proofs.Rows.{is_tab}
use Rattle.secret.proofs.shares_below.Goals as goal

pub returns : goal.returns
returns c =
    let seven : length c.args.row.shares ≡ 7 = search rules in
    let shares = take c.args.n c.args.row.shares in
    c.all_below.ensures
    ∙ ap (all_below c.args.p) (is_tab c.args.n _ shares (length-take-le c.args.n c.args.row.shares (omega arith)) (λ i h. get_or-take c.args.n c.args.row.shares i 0 h))
