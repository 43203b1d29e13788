-- `run_ample` meets its contract: everyone is present, and no run outgrows the buffers.
-- Assumes nothing.
use Rattle.std.proofs.Common.{rules, ◌≡◌, sym, ap, ◌∙◌, List, ℕ, ◌≤◌, length}
use Rattle.model.specs.Presence.{everyone}
use Rattle.model.specs.Sheet.{header_of}
use Rattle.model.specs.Run.{Outcome, run}
use Rattle.model.specs.Buffers.{record_length, revealed_length}
use Rattle.model.proofs.PresentRuns.{present_runs}
use Rattle.model.proofs.Buffers.{no_run_outgrows, all_held}
use Rattle.table.specs.Ample.{Everyone, Ample}
use Rattle.table.proofs.run_ample.Goals as goal

ample : (s log revealed : List ℕ) (b : ℕ) {x : Outcome} → record_length ≤ length log → revealed_length ≤ length revealed → Everyone s b → x ≡ run b s log revealed
    → Ample s log revealed x
ample s log revealed b h k every q =
    let all = everyone (header_of s).n in
    let e = q ∙ every log revealed in
    let n = ap (λ (x : Outcome). x.number) e in
    let o = no_run_outgrows all s log revealed h k in
    let held = all_held all s log revealed in
    record {
      is = e;
      not_12 = λ q. present_runs.table_never s log revealed (sym n ∙ q);
      not_25 = λ q. o.0 (sym n ∙ q);
      not_26 = λ q. o.1 (sym n ∙ q);
      rows = rw (ap (λ (x : Outcome). x.counts.openings) e) held.0;
      values = rw (ap (λ (x : Outcome). x.counts.revealed) e) held.1;
    }

pub returns : goal.returns
returns c = search (rules, ample)
