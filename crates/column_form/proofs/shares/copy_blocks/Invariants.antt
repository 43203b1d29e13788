use Rattle.std.proofs.Common.{◌<◌}
use Rattle.column_form.specs.Grids.{Partly}
use Rattle.column_form.proofs.shares.copy_blocks.Given as goal

abbrev pub invariant-loop-i : goal.invariant-loop-i
invariant-loop-i l = Partly l.s l.from l.to l.rows l.parties (λ i j. i < l.i) l.initial.out l.out
