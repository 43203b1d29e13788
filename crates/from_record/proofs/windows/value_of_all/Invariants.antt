use Rattle.from_record.proofs.Windowing.{Given}
use Rattle.from_record.proofs.windows.value_of_all.Given as goal

-- the windows before z give the value
abbrev pub invariant-loop-z : goal.invariant-loop-z
invariant-loop-z l = Given l.p l.n l.t l.windows l.row.shares l.value l.z
