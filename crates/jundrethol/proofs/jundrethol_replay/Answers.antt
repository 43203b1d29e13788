use Rattle.std.proofs.Common.{rules}
use Rattle.jundrethol.proofs.Fitting.{handed_replay}
use Rattle.jundrethol.proofs.jundrethol_replay.Goals as goal

pub returns : goal.returns
returns c = search (rules, handed_replay)
