use Rattle.std.proofs.Common.{arith}
use Rattle.replay.proofs.Owning.{own_each}
use Rattle.replay.proofs.own.own_cells.Goals as goal

pub returns : goal.returns
returns c = own_each _ _ c.loop-r.invariant.0 (λ r h. c.loop-r.invariant.1 r (omega arith))
