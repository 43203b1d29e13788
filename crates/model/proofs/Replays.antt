-- The statements of specs/Replays, put together.
-- Assumes nothing.
use Rattle.model.specs.Replays.{Replays}
use Rattle.model.proofs.RecordOpenings.{openings}
use Rattle.model.proofs.ReplayRuns.{as_run, from_buffer, from_short}
use Rattle.model.proofs.ReplayTests.{before, by_lines, by_nodes}
use Rattle.model.proofs.ReplayRecord.{left_over}
use Rattle.model.proofs.ReplayNumbers.{as_foreseen, numbers}

pub replays : Replays
replays =
    record {
      as_run = as_run;
      from_buffer = from_buffer;
      from_short = from_short;
      before = before;
      by_lines = by_lines;
      by_nodes = by_nodes;
      openings = openings;
      as_foreseen = as_foreseen;
      numbers = numbers;
      left_over = left_over;
    }
