use Rattle.std.proofs.Common.{arith}
use Rattle.from_record.specs.Windowed.{without}
use Rattle.from_record.proofs.Sets.{without_most}
use Rattle.from_record.proofs.windows.without_first.Goals as goal

pub returns : goal.returns
unfolding without
returns c = omega (arith, without_most c.args.present c.args.z)
