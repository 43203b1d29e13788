use Rattle.std.proofs.Common.{refl, arith, ◌∙◌}
use Rattle.local.proofs.Putting.{none_put, one_more, past_kept}
use Rattle.local.proofs.bits.put_rows.Goals as goal

pub loop-k-init : goal.loop-k-init
loop-k-init c = record { put = none_put _ _ _ _; past = refl }

pub loop-k-preserved : goal.loop-k-preserved
loop-k-preserved c =
    record {
      put = one_more _ _ _ _ _ (omega arith) (omega arith) c.read_row-row.ensures c.put_shares.ensures c.loop-k.invariant.put;
      past = past_kept _ _ _ _ _ (omega arith) (omega arith) c.read_row-row.ensures c.put_shares.ensures _ (omega arith) ∙ c.loop-k.invariant.past;
    }
