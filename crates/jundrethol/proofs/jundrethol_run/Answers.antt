use Rattle.std.proofs.Common.{rules}
use Rattle.jundrethol.proofs.Fitting.{handed}
use Rattle.jundrethol.proofs.jundrethol_run.Goals as goal

pub returns : goal.returns
returns c = search (rules, handed)
