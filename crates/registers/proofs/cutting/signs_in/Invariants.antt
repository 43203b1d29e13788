use Rattle.costs.specs.Costing.{counts_of}
use Rattle.registers.proofs.Signing.{Turned}
use Rattle.registers.proofs.cutting.signs_in.Given as goal

abbrev pub invariant-loop-i : goal.invariant-loop-i
invariant-loop-i l = Turned l.s l.f (counts_of l.fn.spent) l.d l.a l.k l.fn.cells l.fn.log l.i (counts_of l.spent) l.cells l.log
