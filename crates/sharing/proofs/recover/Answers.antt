use Rattle.std.proofs.Common.{arith, rules}
use mathlib.Core.Path.{sym}
use Rattle.model.proofs.Entries.{recover_accepted}
use Rattle.refusals.proofs.Numbers.{numbered}
use Rattle.sharing.proofs.Outcomes.{recovered_value, recovered_left, refused_value, refused_left}
use Rattle.sharing.proofs.recover.Goals as goal

pub returns-in_err-recoverable-clause-value : goal.returns-in_err-recoverable-clause-value
returns-in_err-recoverable-clause-value c = search (rules, refused_value, numbered)

pub returns-in_err-recoverable-clause-left : goal.returns-in_err-recoverable-clause-left
returns-in_err-recoverable-clause-left c = search (rules, refused_left, numbered)

pub gather-cells-requires : goal.gather-cells-requires
gather-cells-requires c = let A = recover_accepted _ _ _ _ _ (sym c.in_ok-recoverable.ensures) in omega (arith, A.shares, A.people)

pub modulus-requires : goal.modulus-requires
modulus-requires c = (recover_accepted _ _ _ _ _ (sym c.in_ok-recoverable.ensures)).field

pub secret_of-value-requires : goal.secret_of-value-requires
secret_of-value-requires c =
    let A = recover_accepted _ _ _ _ _ (sym c.in_ok-recoverable.ensures) in
    (c.modulus.ensures.1, omega (arith, A.people))

pub put_coefficients-requires : goal.put_coefficients-requires
put_coefficients-requires c =
    let A = recover_accepted _ _ _ _ _ (sym c.in_ok-recoverable.ensures) in
    (A.field, omega (arith, A.people), rw c.modulus.ensures.0 at c.secret_of-value.ensures.0, A.room)

pub returns-clause-value : goal.returns-clause-value
returns-clause-value c = search (rules, recovered_value)

pub returns-clause-left : goal.returns-clause-left
returns-clause-left c = search (rules, recovered_left)
