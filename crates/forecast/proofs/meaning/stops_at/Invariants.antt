-- `meaning::stops_at` ends: each command takes a byte of the script.
-- Assumes nothing.
use Rattle.std.proofs.Common.{◌-◌, length}
use Rattle.forecast.proofs.meaning.stops_at.Given as goal

abbrev pub decreases-loop-line : goal.decreases-loop-line
decreases-loop-line l = length l.script - l.at
