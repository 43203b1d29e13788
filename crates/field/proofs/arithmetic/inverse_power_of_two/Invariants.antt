use Rattle.std.proofs.Common.{◌≡◌, ◌<◌}
use Rattle.model.specs.Fields.{inverse_power_of_2}
use Rattle.field.proofs.arithmetic.inverse_power_of_two.Given as goal

abbrev pub invariant-loop-i : goal.invariant-loop-i
invariant-loop-i l = (l.r ≡ inverse_power_of_2 l.p l._i) × (l.r < l.p)
