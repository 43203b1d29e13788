use Rattle.std.proofs.Common.{◌≡◌}
use Rattle.column_form.specs.Grids.{column_copied}
use Rattle.column_form.proofs.shares.copy_column.Given as goal

abbrev pub invariant-loop-i : goal.invariant-loop-i
invariant-loop-i l = l.out ≡ column_copied l.s l.from l.to l.i l.initial.out
