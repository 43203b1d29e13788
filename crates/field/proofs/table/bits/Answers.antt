use Rattle.std.proofs.Common.{rules}
use Rattle.model.specs.Fields.{bits}
use Rattle.field.proofs.Entries.{entry_test, entry_at}
use Rattle.field.proofs.table.bits.Goals as goal

pub returns : goal.returns
unfolding entry_test bits
returns c = search (rules, entry_at (λ F. F.bits) bits)
