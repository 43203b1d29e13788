use Rattle.calls.proofs.Fields.{none_from, field_from}
use Rattle.calls.proofs.field.read_from.Goals as goal

pub returns-in_err-time-clause-read : goal.returns-in_err-time-clause-read
returns-in_err-time-clause-read c = rw c.from_residual.ensures (none_from _ _ _ c.read_field.ensures.read c.in_err-time.was)

pub returns-clause-read : goal.returns-clause-read
returns-clause-read c = field_from _ _ _ c.read_field.ensures.read _ _ c.in_ok-time.was
