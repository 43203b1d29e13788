-- `windows_for` meets its contract: the reader has them, or they are found.
-- Assumes nothing.
use borrow.Author.Rules.{rules}
use Rattle.from_record.proofs.windows_for.Statement.{statement}
use Rattle.from_record.proofs.windows_for.Tie as tie

returns-2 : tie.Need-returns-else-known-present
returns-2 c =
    (c.windows_of.ensures.0, rw c.requires.0.p_is c.windows_of.ensures.1)

pub windows_for_spec : {M : Type 1} → statement M
windows_for_spec = tie.close (tie.spec (λ c κs. search rules) (λ c. search rules) returns-2)
