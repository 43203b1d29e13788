use Rattle.model.specs.Fields.{modulus}
use Rattle.sharing.proofs.Recovery.{Recovering}
use Rattle.sharing.proofs.polynomial.put_coefficients.Given as goal

abbrev pub invariant-loop-k : goal.invariant-loop-k
invariant-loop-k l = Recovering (modulus l.field) l.t l.fn.row.shares l.fn.out l.k l.c l.rest.shares l.out
