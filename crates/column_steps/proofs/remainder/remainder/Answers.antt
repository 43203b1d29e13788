use Rattle.std.proofs.Common.{rules, arith}
use Rattle.local.proofs.Powers.{power_below}
use Rattle.column_steps.proofs.Remainders.{mask_stops, mask_standing, mask_comes}
use Rattle.column_steps.proofs.remainder.remainder.Goals as goal

pub returns-in_err-opened : goal.returns-in_err-opened
returns-in_err-opened c = search (rules, mask_stops)

pub from_c-requires : goal.from_c-requires
from_c-requires c =
    let K = c.requires.2 in
    let S = mask_standing c.requires.0 _ _ _ c.args.k c.args.m c.args.a.shares _ c.put_rows.ensures.0 c.raised_row.ensures c.spelled_row-r.ensures c.add_rows-masked.ensures c.in_ok-opened.ensures c.requires.1 in (
      c.requires.0,
      rw c.past_mask.ensures S,
      record {
        fitting = c.requires.0.fitting;
        least = K.least;
        most = omega (arith, K.less, K.most);
        power = power_below _ c.args.k (omega (arith, K.less)) K.power;
        within = K.within;
        there = search rules;
      },
      c.in_ok-opened.ensures.below,
    )

pub returns : goal.returns
returns c =
    mask_comes c.requires.0 _ _ _ c.args.k c.args.m c.args.a.shares _ c.put_rows.ensures.0 c.raised_row.ensures c.spelled_row-r.ensures c.add_rows-masked.ensures c.in_ok-opened.ensures _
    (rw c.past_mask.ensures at c.from_c.ensures)
