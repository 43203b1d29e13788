use Rattle.std.proofs.Common.{rules, arith}
use Rattle.algebra.specs.Lists.{from}
use Rattle.algebra.proofs.Lists.{length_from}
use Rattle.presence.proofs.Presences.{first_at, first_all}
use Rattle.presence.proofs.first_weights.Goals as goal

pub returns : goal.returns
returns c =
    c.weights_by.ensures _ (from 1 4) (length_from 1 4)
    (λ i v h k. rw (first_all c.args.e c.requires.1, first_at i (omega arith)) (search rules))
