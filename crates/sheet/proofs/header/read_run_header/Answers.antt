use Rattle.std.proofs.Common.{rules}
use Rattle.sheet.proofs.Answers.{refused_first, passed_first, people_read, header_permitted, set_refused, set_permitted, set_passes, within_limits, over_limits, run_headed_read}
use Rattle.model.proofs.Lengths.{header_numbered}
use Rattle.sheet.proofs.header.read_run_header.Goals as goal

pub returns-in_err-h : goal.returns-in_err-h
returns-in_err-h c = search (rules, refused_first)

pub may_run-requires : goal.may_run-requires
may_run-requires c = search (rules, people_read)

pub returns-then-not-may_run : goal.returns-then-not-may_run
returns-then-not-may_run c = search (rules, passed_first, header_numbered, set_refused)

pub returns-then-not-within_limits : goal.returns-then-not-within_limits
returns-then-not-within_limits c = search (rules, passed_first, header_numbered, set_passes, over_limits)

pub run_frame_of-requires : goal.run_frame_of-requires
run_frame_of-requires c = (
  header_permitted c.args.s.now c.in_ok-h.ensures.0 c.in_ok-h.ensures.1 c.if-not-within_limits.ensures,
  set_permitted c.args.s.now c.in_ok-h.ensures.0 c.in_ok-h.ensures.1 c.args.present c.if-not-may_run.ensures,
)

pub returns : goal.returns
returns c = search (rules, passed_first, header_numbered, set_passes, within_limits, run_headed_read)
