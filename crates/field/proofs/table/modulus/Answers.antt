use Rattle.std.proofs.Common.{arith, rules}
use Rattle.model.specs.Fields.{modulus}
use Rattle.model.proofs.Fields.{below_four}
use Rattle.field.proofs.Entries.{entry_test, entry_at, modulus_facts}
use Rattle.field.proofs.table.modulus.Goals as goal

pub offset_bounds-field : goal.offset_bounds-field
offset_bounds-field c = let l = below_four _ c.requires in omega arith

pub bounds-field : goal.bounds-field
bounds-field c = below_four _ c.requires

pub returns : goal.returns
unfolding entry_test modulus
returns c = search (rules, entry_at (λ F. F.modulus) modulus, modulus_facts, below_four)
