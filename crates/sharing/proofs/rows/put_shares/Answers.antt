use Rattle.std.proofs.Common.{◌≡◌, length, refl, arith, rules}
use Rattle.algebra.proofs.Lists.{writing_at_start, writing_at_more, writing_at_end}
use Rattle.sharing.proofs.rows.put_shares.Goals as goal

pub loop-j-init : goal.loop-j-init
loop-j-init c = writing_at_start _ _ _ _

pub loop-j-preserved : goal.loop-j-preserved
loop-j-preserved c =
    let h : length c.args.row.shares ≡ 7 = search rules in
    writing_at_more c.loop-j.invariant (omega arith) (omega arith) (omega arith) refl

pub returns : goal.returns
returns c =
    let h : length c.args.row.shares ≡ 7 = search rules in
    writing_at_end c.loop-j.invariant (omega arith) (omega arith) (omega arith)
