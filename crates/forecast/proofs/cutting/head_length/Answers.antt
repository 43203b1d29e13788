-- `cutting::head_length` meets its contract where the header refuses.
-- Assumes nothing.
use mathlib.Core.Path.{refl}
use Rattle.forecast.proofs.Taking.{header_refused}
use Rattle.forecast.proofs.cutting.head_length.Goals as goal

pub returns-in-Err : goal.returns-in-Err
returns-in-Err c = header_refused c.args.input.now c.in-Err.field-0 c.in-Err.ensures.0 refl
