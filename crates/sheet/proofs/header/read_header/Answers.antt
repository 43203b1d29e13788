use Rattle.std.proofs.Common.{rules}
use Rattle.sheet.proofs.Answers.{refused_first, passed_first, header_permitted, within_limits, over_limits, headed_read}
use Rattle.model.proofs.Lengths.{header_numbered}
use Rattle.sheet.proofs.header.read_header.Goals as goal

pub returns-in_err-h : goal.returns-in_err-h
returns-in_err-h c = search (rules, refused_first)

pub returns-then-not-within_limits : goal.returns-then-not-within_limits
returns-then-not-within_limits c = search (rules, passed_first, header_numbered, over_limits)

pub frame_of-requires : goal.frame_of-requires
frame_of-requires c = header_permitted c.args.s.now c.in_ok-h.ensures.0 c.in_ok-h.ensures.1 c.if-not-within_limits.ensures

pub returns : goal.returns
returns c = search (rules, passed_first, header_numbered, within_limits, headed_read)
