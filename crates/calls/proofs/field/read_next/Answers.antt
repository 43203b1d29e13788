use Rattle.std.proofs.Common.{rules}
use Rattle.calls.proofs.Fields.{within, comma, no_comma}
use Rattle.calls.proofs.field.read_next.Goals as goal

pub overflow_add-before : goal.overflow_add-before
overflow_add-before c = let h = within _ c.args.before c.stands.ensures c.if-stands.true in search rules

pub read_from-requires : goal.read_from-requires
read_from-requires c = within _ c.args.before c.stands.ensures c.if-stands.true

pub returns-then-stands-clause-read : goal.returns-then-stands-clause-read
returns-then-stands-clause-read c = comma _ c.args.before c.stands.ensures c.if-stands.true c.read_from.ensures.read

pub returns-else-stands-clause-read : goal.returns-else-stands-clause-read
returns-else-stands-clause-read c = no_comma _ c.args.before c.stands.ensures c.if-stands.false
