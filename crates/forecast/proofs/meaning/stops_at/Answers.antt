-- `meaning::stops_at` ends: each command takes a byte of the script.
-- Assumes nothing.
use Rattle.std.proofs.Common.{rules}
use Rattle.script.proofs.Lines.{closer}
use Rattle.forecast.proofs.meaning.stops_at.Goals as goal

pub loop-line-smaller : goal.loop-line-smaller
loop-line-smaller c = search (rules, closer)
