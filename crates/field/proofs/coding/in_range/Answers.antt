use Rattle.std.proofs.Common.{arith, ◌-◌}
use Rattle.model.proofs.Coding.{in_range_lem}
use Rattle.field.proofs.Residues.{shift_one}
use Rattle.field.proofs.Signs.{held_is}
use Rattle.field.proofs.coding.in_range.Goals as goal

pub returns : goal.returns
returns c = rw (c.magnitude.ensures.0, held_is c.ranges.a, shift_one (c.args.k - 1) 64 (omega arith), in_range_lem)
