use Rattle.std.proofs.Common.{refl}
use Rattle.replay.proofs.Owning.{worked_alone}
use Rattle.replay.proofs.own.alone.Goals as goal

pub returns : goal.returns
returns c = (refl, worked_alone _ c.requires)
