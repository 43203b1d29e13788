-- `step::step` meets its contract.
-- Assumes nothing.
use borrow.Author.Rules.{rules}
use Rattle.machine.proofs.Matching.{finishes}
use Rattle.machine.proofs.step.step.Statement.{statement}
use Rattle.machine.proofs.step.step.Tie as tie

paid-requires : tie.Need-paid-requires
paid-requires c κs = let same = c.perform-done.ensures.0 in search (rules, same)

returns : tie.Need-returns
returns c =
    finishes c.requires.1 c.perform-done.ensures.0 c.perform-done.ensures.1 c.paid.ensures.0 c.paid.ensures.1

pub step_spec : {M : Type 1} → statement M
step_spec = tie.close (tie.spec (λ c κs. search rules) paid-requires (λ c. search rules) (λ c. search rules) returns)
