use Rattle.std.proofs.Common.{rules}
use Rattle.model.specs.Fields.{modulus, inverse}
use Rattle.field.proofs.Entries.{inverse_test, inverse_at}
use Rattle.field.proofs.table.inverse.Goals as goal

pub returns : goal.returns
unfolding inverse_test inverse modulus
returns c = search (rules, inverse_at)
