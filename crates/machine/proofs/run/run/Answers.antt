use Rattle.std.proofs.Common.{rules}
use Rattle.machine.proofs.Whole.{sheet_refused, same_byte}
use Rattle.machine.proofs.run.run.Goals as goal

pub returns-in-Err : goal.returns-in-Err
returns-in-Err c =
    same_byte c.args.sheet.now c.args.log.now c.args.revealed.now (search rules)
    (sheet_refused c.from.result c.args.sheet.now c.in-Err.refusal c.in-Err.ensures c.refused.ensures)
