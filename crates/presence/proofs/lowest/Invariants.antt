use Rattle.presence.proofs.Presences.{Looked}
use Rattle.presence.proofs.lowest.Given as goal

abbrev pub invariant-loop-j : goal.invariant-loop-j
invariant-loop-j l = Looked l.j l.e l.present l.parties l.count
