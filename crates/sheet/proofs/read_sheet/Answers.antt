use Rattle.std.proofs.Common.{rules}
use Rattle.sheet.proofs.Answers.{header_refuses, body_decides, whole_read}
use Rattle.sheet.proofs.read_sheet.Goals as goal

pub returns-in_err-f : goal.returns-in_err-f
returns-in_err-f c = search (rules, header_refuses)

pub returns-in_err-check_body : goal.returns-in_err-check_body
returns-in_err-check_body c =
    let refused = body_decides c.args.present c.args.s.now c.in_ok-f.ensures.0 c.in_ok-f.ensures.1 c.in_err-check_body.ensures in
    search rules

pub returns : goal.returns
returns c = (
  body_decides c.args.present c.args.s.now c.in_ok-f.ensures.0 c.in_ok-f.ensures.1 c.in_ok-check_body.ensures,
  whole_read c.args.present c.args.s.now c.in_ok-f.ensures.0 c.in_ok-f.ensures.1 c.in_ok-check_body.ensures,
)
