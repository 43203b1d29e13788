use Rattle.std.proofs.Common.{◌-◌, length}
use Rattle.replay.proofs.Going.{Going}
use Rattle.replay.proofs.lines.replay_lines.Given as goal

abbrev pub invariant-loop-line : goal.invariant-loop-line
invariant-loop-line l = Going l.own l.f l.script l.part l.log l.supply l.table l.place

abbrev pub decreases-loop-line : goal.decreases-loop-line
decreases-loop-line l = length l.script - l.place
