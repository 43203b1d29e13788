use Rattle.algebra.proofs.Lists.{writing_start}
use Rattle.column_form.proofs.shares.copy_head.Goals as goal

pub loop-j-init : goal.loop-j-init
loop-j-init c = writing_start _ _ _
