use Rattle.std.proofs.Common.{rules, arith}
use Rattle.local.proofs.Powers.{power_below}
use Rattle.steps.proofs.Products.{plus_below}
use Rattle.steps.proofs.Remainders.{mask_leaves}
use Rattle.steps.proofs.remainder.remainder.Goals as goal

pub open_at-c-requires : goal.open_at-c-requires
open_at-c-requires c = search (rules, plus_below)

pub from_c-requires : goal.from_c-requires
from_c-requires c =
    let M = c.requires in (
      record {
        fitting = M.room.fitting;
        least = M.least;
        most = omega (arith, M.less, M.most);
        power = power_below _ c.args.k (omega (arith, M.less)) M.power;
        within = M.within;
        there = search rules;
      },
      c.open_at-c.ensures.below,
      search rules,
    )

pub returns : goal.returns
returns c =
    mask_leaves c.args.k c.args.m c.args.a.shares _ c.requires.room.fitting.parties c.put_rows.ensures.0 c.raised_row.ensures c.spelled_row-r.ensures c.add_rows-masked.ensures c.open_at-c.ensures
    (rw c.past_mask.ensures at c.from_c.ensures)
