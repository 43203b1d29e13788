use Rattle.std.proofs.Common.{◌-◌, length}
use Rattle.machine.proofs.Loop.{Looping}
use Rattle.machine.proofs.run.run_script.Given as goal

abbrev pub invariant-loop-line : goal.invariant-loop-line
invariant-loop-line l = Looping l.s l.f l.script l.fn.log l.fn.revealed l.supply l.table l.log l.revealed l.place

abbrev pub decreases-loop-line : goal.decreases-loop-line
decreases-loop-line l = length l.script - l.place
