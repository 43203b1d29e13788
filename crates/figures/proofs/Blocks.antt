-- BLOCKS at the ends of where it is exact, computed.
-- Assumes nothing.
use mathlib.Core.Path.{refl}
use native.Mathlib.Omega.{arith}
use lib.IntN.{pos, neg_ℤ}
use Rattle.algebra.specs.Ring.{add, sub, mul}
use Rattle.algebra.specs.Lists.{from}
use Rattle.algebra.specs.Rows.{tab, row}
use Rattle.model.specs.Presence.{bit, present_in, absent_in, everyone, openers}
use Rattle.model.specs.Fields.{modulus, bits, inverse, inverse_power_of_2}
use Rattle.model.specs.Coding.{in_range, code, read_back}
use Rattle.model.specs.Sharing.{eval, share, newton, reciprocal, slope, interpolate, recover, secret, value_from}
use Rattle.model.specs.Trees.{spelled, comparison_from, comparison, remainder, floor, blocks as blocksTree}
use Rattle.model.specs.Steps.{plus, minus, times, constant, value, by_rows, blocks}
use Rattle.model.proofs.Dividing.{one_division, one_begun, begun_is}
use Rattle.figures.specs.Blocks.{Blocks}

pub blocks_hold : Blocks
unfolding add sub mul from tab row modulus bits inverse inverse_power_of_2 in_range code read_back eval share newton reciprocal slope interpolate recover secret plus minus times constant value bit present_in absent_in everyone openers value_from by_rows spelled comparison_from comparison remainder floor blocksTree blocks
blocks_hold =
    record {
      highest = (refl, refl);
      above = (refl, refl);
      lowest = (refl, refl);
      below = (refl, refl);
      fixed_highest = λ z C. one_begun 64 16320 z 255 (C.begun 16320 refl tt) (begun_is 64 16320 (omega arith));
      fixed_lowest = λ z C. (one_division _ 64 _ (neg_ℤ (pos 256)) _ 0 (C.exact tt).division (record { is = refl; small = omega arith })).0;
      not_reduced = (refl, refl);
      reduced = refl;
    }
