use Rattle.std.proofs.Common.{arith, rules}
use mathlib.Core.Path.{sym}
use Rattle.model.proofs.Entries.{share_accepted}
use Rattle.refusals.proofs.Numbers.{numbered}
use Rattle.sharing.proofs.Outcomes.{shared, share_refused}
use Rattle.sharing.proofs.share.Goals as goal

pub returns-in_err-shareable-clause-left : goal.returns-in_err-shareable-clause-left
returns-in_err-shareable-clause-left c = search (rules, share_refused, numbered)

pub modulus-p-requires : goal.modulus-p-requires
modulus-p-requires c = (share_accepted _ _ _ _ _ _ (sym c.in_ok-shareable.ensures)).field

pub share_row-row-requires : goal.share_row-row-requires
share_row-row-requires c = (c.modulus-p.ensures.1, (share_accepted _ _ _ _ _ _ (sym c.in_ok-shareable.ensures)).people.most)

pub put_shares-requires : goal.put_shares-requires
put_shares-requires c =
    let A = share_accepted _ _ _ _ _ _ (sym c.in_ok-shareable.ensures) in
    (A.people.most, omega (arith, A.room))

pub returns-clause-left : goal.returns-clause-left
returns-clause-left c = search (rules, shared)
