use Rattle.model.specs.Fields.{modulus}
use Rattle.from_record.proofs.Windowing.{Windowing}
use Rattle.from_record.proofs.windows.windows_of.Given as goal

-- the sets without parties 1 to i, for i below z, stand in the list
abbrev pub invariant-loop-z : goal.invariant-loop-z
invariant-loop-z l = Windowing (modulus l.field) l.n l.t l.present l.z l.openings
