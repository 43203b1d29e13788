use Rattle.calls.proofs.FourFields.{first_field, next_field, no_field, line_ends, no_end}
use Rattle.calls.proofs.line.read_line.Goals as goal

pub returns-in_err-name-clause-read : goal.returns-in_err-name-clause-read
returns-in_err-name-clause-read c = rw c.from_residual.ensures (no_field (first_field _ _ c.read_field.ensures.read) c.in_err-name.was)

pub returns-in_err-dialled-clause-read : goal.returns-in_err-dialled-clause-read
returns-in_err-dialled-clause-read c =
    let name = first_field _ _ c.read_field.ensures.read in
    let dialled = next_field name c.in_ok-name.was _ c.read_next.ensures.read in
    rw c.from_residual-in_err-dialled.ensures (no_field dialled c.in_err-dialled.was)

pub returns-in_err-answered-clause-read : goal.returns-in_err-answered-clause-read
returns-in_err-answered-clause-read c =
    let name = first_field _ _ c.read_field.ensures.read in
    let dialled = next_field name c.in_ok-name.was _ c.read_next.ensures.read in
    let answered = next_field dialled c.in_ok-dialled.was _ c.read_next-2.ensures.read in
    rw c.from_residual-in_err-answered.ensures (no_field answered c.in_err-answered.was)

pub returns-in_err-ended-clause-read : goal.returns-in_err-ended-clause-read
returns-in_err-ended-clause-read c =
    let name = first_field _ _ c.read_field.ensures.read in
    let dialled = next_field name c.in_ok-name.was _ c.read_next.ensures.read in
    let answered = next_field dialled c.in_ok-dialled.was _ c.read_next-2.ensures.read in
    let ended = next_field answered c.in_ok-answered.was _ c.read_next-3.ensures.read in
    rw c.from_residual-in_err-ended.ensures (no_field ended c.in_err-ended.was)

pub returns-in_err-next-clause-read : goal.returns-in_err-next-clause-read
returns-in_err-next-clause-read c =
    let name = first_field _ _ c.read_field.ensures.read in
    let dialled = next_field name c.in_ok-name.was _ c.read_next.ensures.read in
    let answered = next_field dialled c.in_ok-dialled.was _ c.read_next-2.ensures.read in
    let ended = next_field answered c.in_ok-answered.was _ c.read_next-3.ensures.read in
    rw c.from_residual-in_err-next.ensures (no_end ended c.in_ok-ended.was c.in_err-next.ensures)

pub returns-clause-read : goal.returns-clause-read
returns-clause-read c =
    let name = first_field _ _ c.read_field.ensures.read in
    let dialled = next_field name c.in_ok-name.was _ c.read_next.ensures.read in
    let answered = next_field dialled c.in_ok-dialled.was _ c.read_next-2.ensures.read in
    let ended = next_field answered c.in_ok-answered.was _ c.read_next-3.ensures.read in
    line_ends ended c.in_ok-ended.was _ _ c.in_ok-next.ensures c.call_between.ensures
