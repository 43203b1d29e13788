use Rattle.std.proofs.Common.{◌≡◌, ◌-◌, suc, arith, get_or-drop}
use Rattle.from_record.proofs.Gathering.{small_word}
use Rattle.from_record.proofs.shown.shown_in.Goals as goal

pub look_at-shown-requires : goal.look_at-shown-requires
look_at-shown-requires c = (omega arith, small_word c.loop-j.invariant (omega arith) (omega arith), omega arith)

pub loop-j-preserved : goal.loop-j-preserved
loop-j-preserved c =
    let e : suc (c.loop-j.j - 1) ≡ c.loop-j.j = omega arith in
    c.look_at-shown.ensures _ _ (omega arith) (rw get_or-drop) (rw e c.loop-j.invariant)
