use Rattle.std.proofs.Common.{rules}
use Rattle.from_record.proofs.Gathering.{share_more, none_more}
use Rattle.from_record.proofs.shown.look_at.Goals as goal

pub returns-then-number-p : goal.returns-then-number-p
returns-then-number-p c = share_more (search rules) c.requires.0 c.if-number-p.true

pub returns-else-number-p : goal.returns-else-number-p
returns-else-number-p c = none_more c.requires.2 c.if-number-p.false
