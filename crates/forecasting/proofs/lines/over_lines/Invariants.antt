use Rattle.std.proofs.Common.{◌-◌, length}
use Rattle.forecasting.proofs.Looking.{Looking}
use Rattle.forecasting.proofs.lines.over_lines.Given as goal

abbrev pub invariant-loop-line : goal.invariant-loop-line
invariant-loop-line l = Looking l.f l.script l.supply l.spent l.at

abbrev pub decreases-loop-line : goal.decreases-loop-line
decreases-loop-line l = length l.script - l.at
