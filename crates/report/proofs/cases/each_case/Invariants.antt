-- `cases::each_case` ends: each call passes at least one byte.
-- Assumes nothing.
use Rattle.std.proofs.Common.{length}
use Rattle.report.proofs.cases.each_case.Given as goal

abbrev pub decreases-loop-rest : goal.decreases-loop-rest
decreases-loop-rest g l = length l.s
