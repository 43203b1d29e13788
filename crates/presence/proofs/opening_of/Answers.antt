use Rattle.std.proofs.Common.{add-one, arith}
use Rattle.presence.proofs.Presences.{opens_by, opens_all}
use Rattle.presence.proofs.opening_of.Goals as goal

pub returns-then-all_present : goal.returns-then-all_present
returns-then-all_present c =
    let P = c.points.ensures in
    let p = c.modulus.ensures.0 in
    (P.0, opens_all _ (omega (arith, c.requires.1)) (omega (arith, c.requires.1)) c.all_present.ensures c.if-all_present.true (rw (add-one, p) at c.first_weights-weights.ensures) P.0 P.1 P.2)

pub returns : goal.returns
returns c =
    let P = c.points-2.ensures in
    (P.0, opens_by _ (rw add-one at c.lowest-found.ensures) c.requires.2 (rw add-one at c.weights_among-weights.ensures) P.0 P.1 P.2)
