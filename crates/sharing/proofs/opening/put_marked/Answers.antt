use Rattle.std.proofs.Common.{ℕ, List, ap, ◌∙◌, arith}
use lib.Seq.{take_all}
use Rattle.algebra.specs.Lists.{onto_at}
use Rattle.algebra.proofs.Lists.{writing_at_start, writing_at_more, writing_at_end}
use Rattle.model.proofs.Written.{length_recorded}
use Rattle.sharing.specs.Settings.{setting_of}
use Rattle.sharing.proofs.Opened.{number_at}
use Rattle.sharing.proofs.opening.put_marked.Goals as goal

pub loop-j-init : goal.loop-j-init
loop-j-init c = writing_at_start _ _ _ _

pub loop-j-preserved : goal.loop-j-preserved
loop-j-preserved c =
    let size = length_recorded (setting_of c.args.setting) c.args.row.shares in
    writing_at_more c.loop-j.invariant (omega arith) (omega arith) (omega arith)
    (number_at (setting_of c.args.setting) c.args.row.shares c.loop-j.j (omega arith) c.record_number.ensures)

pub returns : goal.returns
returns c =
    let size = length_recorded (setting_of c.args.setting) c.args.row.shares in
    writing_at_end c.loop-j.invariant (omega arith) (omega arith) (omega arith)
    ∙ ap (λ (v : List ℕ). onto_at c.args.at v c.args.list.now) (take_all c.args.setting.n _ (omega arith))
