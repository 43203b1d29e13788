use Rattle.calls.proofs.Scanning.{plain_time}
use Rattle.calls.proofs.field.non_escaped.Goals as goal

pub returns-clause-read : goal.returns-clause-read
returns-clause-read c = plain_time _ _ _ c.plain_length-next.ensures.plain c.read_time.ensures
