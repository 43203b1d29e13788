use Rattle.std.proofs.Common.{rules}
use Rattle.calls.proofs.Quoting.{quoting_more, quoting_two, quoting_closed, quoting_breaks, quoting_ends}
use Rattle.calls.proofs.field.quoted_length.Goals as goal

pub loop-i-preserved-then-stands : goal.loop-i-preserved-then-stands
loop-i-preserved-then-stands c = search (rules, quoting_two)

pub returns-else-stands-clause-closed : goal.returns-else-stands-clause-closed
returns-else-stands-clause-closed c = search (rules, quoting_closed)

pub loop-i-preserved : goal.loop-i-preserved
loop-i-preserved c = search (rules, quoting_more)

pub returns-else-is_alone-clause-closed : goal.returns-else-is_alone-clause-closed
returns-else-is_alone-clause-closed c = search (rules, quoting_breaks)

pub returns-clause-closed : goal.returns-clause-closed
returns-clause-closed c = search (rules, quoting_ends)
