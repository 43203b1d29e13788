-- `needs::missing` is safe: the command that stands at the place has its operands in range.
-- Assumes nothing.
use Rattle.std.proofs.Common.{rules}
use Rattle.script.proofs.Lines.{in_range_lem}
use Rattle.forecast.proofs.needs.missing.Goals as goal

pub cost_of-need-requires : goal.cost_of-need-requires
cost_of-need-requires c = search (rules, in_range_lem)
