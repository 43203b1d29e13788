use Rattle.calls.proofs.LineEnds.{ends_text, ends_line, no_cr, no_lf}
use Rattle.calls.proofs.line.read_end.Goals as goal
use Rattle.calls.proofs.line.read_end.Goals.{else-stands-via-then-stands+else-stands-2, else-stands-via-else-stands}

pub returns-then-at-text : goal.returns-then-at-text
returns-then-at-text c = ends_text _ _ c.requires c.if-at-text.true

pub returns-then-stands-2 : goal.returns-then-stands-2
returns-then-stands-2 c = ends_line _ _ c.requires c.if-at-text.false c.stands.ensures c.stands-then-stands.ensures c.if-stands.true c.if-stands-2.true

pub returns-else-stands : goal.returns-else-stands
returns-else-stands c =
    elim c.else-stands.branch [
      | else-stands-via-then-stands+else-stands-2 w ↦ no_lf _ _ c.requires c.if-at-text.false c.stands.ensures w.stands-then-stands.ensures w.if-stands.true w.if-stands-2.false
      | else-stands-via-else-stands w ↦ no_cr _ _ c.requires c.if-at-text.false c.stands.ensures w.if-stands.false
    ]
