-- `run_lines` is safe: a sheet with a header has a first byte.
-- Assumes nothing.
use Rattle.std.proofs.Common.{rules}
use Rattle.model.specs.Sheet.{header_size}
use Rattle.sheet.proofs.Answers.{long_read}
use Rattle.table.proofs.run_lines.Goals as goal

pub bounds-s-0 : goal.bounds-s-0
unfolding header_size
bounds-s-0 c =
    let l = long_read _ c.in-Ok.ensures.0 in
    search rules
