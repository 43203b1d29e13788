use Rattle.std.proofs.Common.{rules, refl}
use Rattle.std.proofs.lemmas.Result.{err_from_is_err_and}
use Rattle.model.proofs.Polynomials.{positive}
use Rattle.presence.proofs.Presences.{modulus_of}
use Rattle.from_record.proofs.Values.{above_p}
use Rattle.from_record.proofs.value_in.Goals as goal

pub shown_in-requires : goal.shown_in-requires
shown_in-requires c = search (rules, modulus_of, positive)

pub returns-in_err-shown : goal.returns-in_err-shown
returns-in_err-shown c =
    let p = err_from_is_err_and c.from_residual.result c.from_residual.ensures.1 in
    let e = c.in_err-shown.ensures.err in
    rw (p.1, p.2, e.0) (refl, above_p _ _ e.1)

pub returns : goal.returns
returns c = c.value_of.ensures _ c.in_ok-shown.ensures.ok
