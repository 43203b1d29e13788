use Rattle.std.proofs.Common.{rules}
use Rattle.field.proofs.Residues.{sub_high}
use Rattle.field.proofs.arithmetic.sub.Goals as goal

pub returns-else-right-left : goal.returns-else-right-left
returns-else-right-left c = search (rules, sub_high)
