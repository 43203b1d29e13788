use Rattle.std.proofs.Common.{arith}
use Rattle.std.proofs.Math.Pow.{pow_pos}
use Rattle.from_record.proofs.first_present.Goals as goal

pub returns-2 : goal.returns-2
returns-2 c = omega (arith, pow_pos c.args.n)
