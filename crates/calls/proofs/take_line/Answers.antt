use Rattle.std.proofs.Common.{arith, ◌≡◌, Some, None}
use Rattle.std.proofs.lemmas.Result.{err_from_is_err_and}
use Rattle.refusals.specs.declared.Refusal.TheVariants.{BadLine, BadTime}
use Rattle.calls.proofs.Turns.{bad_line, bad_time, full, turned}
use Rattle.calls.proofs.take_line.Goals as goal

pub returns-in_err-line : goal.returns-in_err-line
returns-in_err-line c =
    let w : c.read_line.result ≡ None = grind arith in
    let k : c.in_err-line.field-0.0 ≡ BadLine = grind arith in
    let p = err_from_is_err_and c.from_residual.result c.from_residual.ensures.1 in
    rw (p.1, p.2, k) (bad_line _ _ _ _ c.read_line.ensures.read w)

pub returns-in_err-seconds : goal.returns-in_err-seconds
returns-in_err-seconds c =
    let w : c.read_line.result ≡ Some c.in_ok-line.line = grind arith in
    let q : c.in_ok-line.line.call ≡ None = grind arith in
    let k : c.in_err-seconds.field-0.0 ≡ BadTime = grind arith in
    let p = err_from_is_err_and c.from_residual-in_err-seconds.result c.from_residual-in_err-seconds.ensures.1 in
    rw (p.1, p.2, k) (bad_time _ _ _ _ c.read_line.ensures.read w q)

pub returns-then-room-eq0 : goal.returns-then-room-eq0
returns-then-room-eq0 c =
    let w : c.read_line.result ≡ Some c.in_ok-line.line = grind arith in
    let q : c.in_ok-line.line.call ≡ Some c.in_ok-seconds.seconds = grind arith in
    full _ _ _ _ c.read_line.ensures.read w q c.if-room-eq0.true

pub returns : goal.returns
returns c =
    let w : c.read_line.result ≡ Some c.in_ok-line.line = grind arith in
    let q : c.in_ok-line.line.call ≡ Some c.in_ok-seconds.seconds = grind arith in
    turned _ _ _ _ c.read_line.ensures.read w q c.if-room-eq0.false (rw w at c.read_line.ensures.within) c.requires
