use Rattle.std.proofs.Common.{rules}
use mathlib.Core.Path.{refl}
use native.Mathlib.Omega.{arith}
use Rattle.sheet.proofs.Headers.{row_count}
use Rattle.sheet.proofs.Answers.{whole}
use Rattle.column_form.proofs.Layouts.{stands_in, header_refuses, length_wrong, too_short, long_enough}
use Rattle.column_form.proofs.layout.find.Goals as goal

pub returns-in_err-f : goal.returns-in_err-f
returns-in_err-f c = search (rules, header_refuses)

pub returns-then-not-has_implied_length : goal.returns-then-not-has_implied_length
returns-then-not-has_implied_length c = (length_wrong _ _ c.in_ok-f.ensures.0 c.if-not-has_implied_length.ensures, tt)

pub returns-then-room-s : goal.returns-then-room-s
returns-then-room-s c = (too_short _ _ c.in_ok-f.ensures.0 c.if-not-has_implied_length.ensures (omega arith), tt)

pub rows-requires : goal.rows-requires
rows-requires c = row_count c.in_ok-f.ensures.1

pub returns : goal.returns
returns c = (
  long_enough _ _ c.in_ok-f.ensures.0 c.if-not-has_implied_length.ensures (omega arith),
  stands_in _ c.in_ok-f.ensures.1 (whole _ c.in_ok-f.ensures.1 c.if-not-has_implied_length.ensures refl) (omega arith) refl c.rows.ensures refl,
)
