use Rattle.std.proofs.Common.{rules}
use Rattle.calls.proofs.Fields.{quote_some, is_escaped, is_plain}
use Rattle.calls.proofs.field.read_field.Goals as goal

pub escaped-requires : goal.escaped-requires
escaped-requires c = search (rules, quote_some)

pub returns-then-stands-clause-read : goal.returns-then-stands-clause-read
returns-then-stands-clause-read c = search (rules, is_escaped)

pub returns-else-stands-clause-read : goal.returns-else-stands-clause-read
returns-else-stands-clause-read c = search (rules, is_plain)
