use Rattle.std.proofs.Common.{arith}
use Rattle.model.proofs.Fields.{fields}
use Rattle.sharing.proofs.Recovery.{recovering_start, recovering_more, recovering_end}
use Rattle.sharing.proofs.polynomial.put_coefficients.Goals as goal

pub loop-k-init : goal.loop-k-init
loop-k-init c = recovering_start (fields c.args.field c.requires.0).modulus_is _ (omega arith) _ _ c.requires.3 c.requires.2

pub loop-k-preserved : goal.loop-k-preserved
loop-k-preserved c =
    recovering_more (fields c.args.field c.requires.0).modulus_is _ (omega arith) _ _ c.requires.3 c.loop-k.invariant (omega arith) c.take_off-rest.ensures
    (rw c.modulus.ensures.0 at c.value_before-c.ensures.0)

pub returns : goal.returns
returns c = recovering_end (fields c.args.field c.requires.0).modulus_is _ (omega arith) _ _ c.requires.3 c.loop-k.invariant (omega arith)
