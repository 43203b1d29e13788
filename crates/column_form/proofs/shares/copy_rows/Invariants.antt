use Rattle.std.proofs.Common.{◌≡◌}
use Rattle.column_form.specs.Grids.{rows_copied}
use Rattle.column_form.proofs.shares.copy_rows.Given as goal

abbrev pub invariant-loop-j : goal.invariant-loop-j
invariant-loop-j l = l.out ≡ rows_copied l.s l.from l.to l.rows l.j l.initial.out
