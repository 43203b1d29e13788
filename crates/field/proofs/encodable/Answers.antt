use Rattle.std.proofs.Common.{arith}
use mathlib.Core.Path.{refl}
use Rattle.model.proofs.Fields.{below_four, fields}
use Rattle.model.proofs.Trying.{field_passed}
use Rattle.field.proofs.encodable.Goals as goal

pub largest_k-requires : goal.largest_k-requires
largest_k-requires c = below_four _ (field_passed _ c.in_ok-check_field.ensures refl)

pub in_range-requires : goal.in_range-requires
in_range-requires c = omega (arith, fields _ (field_passed _ c.in_ok-check_field.ensures refl))
