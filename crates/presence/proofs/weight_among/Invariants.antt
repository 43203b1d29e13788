use Rattle.std.proofs.Common.{take}
use Rattle.presence.proofs.Presences.{Weighed}
use Rattle.presence.proofs.weight_among.Given as goal

abbrev pub invariant-loop-z : goal.invariant-loop-z
invariant-loop-z l = Weighed l.p l.x (take l.fn.e l.fn.parties) l.z-iterator.iter.rest.now l.weight
