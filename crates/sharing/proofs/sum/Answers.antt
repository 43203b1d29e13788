use Rattle.std.proofs.Common.{arith, rules}
use mathlib.Core.Path.{sym}
use Rattle.model.proofs.Entries.{recover_accepted}
use Rattle.refusals.proofs.Numbers.{numbered}
use Rattle.sharing.proofs.Outcomes.{summed_number, summed_value, summed_refused}
use Rattle.sharing.proofs.sum.Goals as goal

pub returns-in_err-recoverable-clause-number : goal.returns-in_err-recoverable-clause-number
returns-in_err-recoverable-clause-number c = search (rules, summed_number)

pub returns-in_err-recoverable-clause-value : goal.returns-in_err-recoverable-clause-value
returns-in_err-recoverable-clause-value c = search (rules, summed_refused, numbered)

pub modulus-p-requires : goal.modulus-p-requires
modulus-p-requires c = (recover_accepted _ _ _ _ _ (sym c.in_ok-recoverable.ensures)).field

pub gather-requires : goal.gather-requires
gather-requires c = let A = recover_accepted _ _ _ _ _ (sym c.in_ok-recoverable.ensures) in omega (arith, A.shares, A.people)

pub secret_sum-requires : goal.secret_sum-requires
secret_sum-requires c =
    let A = recover_accepted _ _ _ _ _ (sym c.in_ok-recoverable.ensures) in
    (c.modulus-p.ensures.1, omega (arith, A.people))

pub returns-clause-number : goal.returns-clause-number
returns-clause-number c = search (rules, summed_number)

pub returns-clause-value : goal.returns-clause-value
returns-clause-value c = search (rules, summed_value)
