use Rattle.calls.proofs.Fields.{not_closed, closed}
use Rattle.calls.proofs.field.escaped.Goals as goal

pub returns-in_err-size-clause-read : goal.returns-in_err-size-clause-read
returns-in_err-size-clause-read c = rw c.from_residual.ensures (not_closed _ _ c.quoted_length.ensures.closed c.in_err-size.was)

pub returns-clause-read : goal.returns-clause-read
returns-clause-read c = closed _ _ c.quoted_length.ensures.closed _ _ c.in_ok-size.was c.read_time.ensures
