-- The code's answer as the definition's.
-- Assumes nothing.
use Rattle.refusals.specs.Numbers.{told}
use Rattle.model.specs.Replay.{Replayed}
use Rattle.costs.specs.Costing.{counts_of}
use Rattle.replay.specs.declared.Answer.{Answer}

abbrev pub answer_of : Answer → Replayed
answer_of r = record { number = told r.ended; place = r.place; cells = r.cells; counts = counts_of r.counts }
