use Rattle.std.proofs.Common.{rules, sym, ◌∙◌}
use Rattle.calls.proofs.Times.{digit_range, empty_time, long_time, summing_more, summing_stops, summing_ends}
use Rattle.calls.proofs.time.read_time.Goals as goal

pub returns-then-is_empty : goal.returns-then-is_empty
returns-then-is_empty c = search (rules, empty_time)

pub returns-then-text-gt-DIGITS : goal.returns-then-text-gt-DIGITS
returns-then-text-gt-DIGITS c = search (rules, long_time)

pub returns-then-not-is_digit : goal.returns-then-not-is_digit
returns-then-not-is_digit c = search (rules, summing_stops)

pub overflow_sub-b : goal.overflow_sub-b
overflow_sub-b c = (digit_range _ (sym c.is_digit.ensures ∙ c.if-not-is_digit.false)).0

pub loop-b-preserved : goal.loop-b-preserved
loop-b-preserved c = search (rules, summing_more)

pub returns : goal.returns
returns c = search (rules, summing_ends)
