use Rattle.std.proofs.Common.{◌∙◌, rules}
use Rattle.local.proofs.Beaver.{share_left, beaver_row}
use Rattle.local.proofs.product.beaver.Goals as goal

pub returns : goal.returns
returns c =
    let a = c.args in
    c.of.ensures (share_left a.setting.p a.a1 a.b1 c.mul-both.result a.a.shares a.b.shares a.c.shares) (λ j v h q. search rules)
    ∙ beaver_row _ _ _ _ _ _ c.mul-both.ensures.0
