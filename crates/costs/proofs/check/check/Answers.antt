use Rattle.std.proofs.Common.{◌≡◌, ◌∙◌, ◌&&◌}
use Rattle.costs.proofs.Marks.{set_append}
use Rattle.costs.proofs.Missing.{missing_is}
use Rattle.costs.proofs.check.check.Goals as goal
use Rattle.costs.proofs.check.check.Goals.{then-first, else-first}

pub returns : goal.returns
returns c u U =
    let set : c.if-first.set ≡ (c.all_set-first.result && c.all_set-second.result) =
    elim c.if-first.branch [
      | then-first w ↦ rw w.if-first.true w.set-is
      | else-first w ↦ rw w.if-first.false (w.set-is ∙ w.if-first.false)
    ]
    in
    c.first_missing.ensures
    ∙ rw (set, c.all_set-first.ensures, c.all_set-second.ensures, c.left-left.ensures, ← set_append)
    (missing_is U c.args.spent c.args.need c.requires.within)
