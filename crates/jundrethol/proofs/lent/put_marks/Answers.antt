use Rattle.std.proofs.Common.{rules, arith, ◌≡◌, false}
use Rattle.algebra.specs.Lists.{onto}
use Rattle.jundrethol.specs.Lent.{lent, flags}
use Rattle.jundrethol.proofs.Fitting.{flags_from}
use Rattle.jundrethol.proofs.lent.put_marks.Goals as goal

pub returns : goal.returns
unfolding lent onto
returns c =
    let m = c.map.ensures.items in
    let e : c.map.result ≡ flags c.args.marks = flags_from _ _ (search (rules, m)) (λ i h. let r = m.at i false 0 (omega arith) in search rules) in
    search rules
