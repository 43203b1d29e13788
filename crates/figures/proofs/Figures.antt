-- The paper's P rows, computed.
-- Assumes nothing.
use mathlib.Core.Path.{refl}
use Rattle.algebra.specs.Ring.{add, sub, mul}
use Rattle.algebra.specs.Lists.{from}
use Rattle.algebra.specs.Rows.{tab, row}
use Rattle.model.specs.Presence.{bit, present_in, absent_in, everyone, openers}
use Rattle.model.specs.Fields.{modulus, bits, inverse, inverse_power_of_2}
use Rattle.model.specs.Coding.{code, read_back}
use Rattle.model.specs.Sharing.{eval, share, newton, reciprocal, slope, interpolate, recover, secret, value_from}
use Rattle.model.specs.Trees.{spelled, comparison_from, comparison as comparisonTree, remainder as remainderTree, floor as floorTree, sign as signTree, over as overTree, blocks as blocksTree}
use Rattle.model.specs.Steps.{plus, minus, times, constant, value, by_rows, product, comparison, remainder, floor, sign, over, blocks}
use Rattle.model.specs.Costs.{cost_by}
use Rattle.figures.specs.Figures.{figures, Figures}

pub figures_hold : Figures
unfolding add sub mul from tab row modulus bits inverse inverse_power_of_2 code read_back eval share newton reciprocal slope interpolate recover secret plus minus times constant value bit present_in absent_in everyone openers value_from by_rows product comparison_from comparison spelled remainder floor sign over blocks cost_by figures comparisonTree remainderTree floorTree signTree overTree blocksTree
figures_hold = record { rows = refl; minus_two = refl }
