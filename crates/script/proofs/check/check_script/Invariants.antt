use Rattle.std.proofs.Common.{◌-◌, length}
use Rattle.script.proofs.Checking.{From}
use Rattle.script.proofs.check.check_script.Given as goal

abbrev pub invariant-loop-line : goal.invariant-loop-line
invariant-loop-line l = From l.p l.largest l.s l.at

abbrev pub decreases-loop-line : goal.decreases-loop-line
decreases-loop-line l = length l.s - l.at
