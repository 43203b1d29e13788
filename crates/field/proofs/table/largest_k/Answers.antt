use Rattle.std.proofs.Common.{rules}
use Rattle.model.specs.Fields.{largest_k}
use Rattle.field.proofs.Entries.{entry_test, entry_at}
use Rattle.field.proofs.table.largest_k.Goals as goal

pub returns : goal.returns
unfolding entry_test largest_k
returns c = search (rules, entry_at (λ F. F.largest_k) largest_k)
