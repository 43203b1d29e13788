use Rattle.std.proofs.Common.{drop}
use Rattle.from_record.specs.Showing.{Gathered}
use Rattle.from_record.proofs.shown.shown_in.Given as goal

-- the columns from j on are known
abbrev pub invariant-loop-j : goal.invariant-loop-j
invariant-loop-j l = Gathered l.p l.n l.j (drop l.at l.log) l.shown
