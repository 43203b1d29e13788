use Rattle.std.proofs.Common.{◌≡◌}
use Rattle.column_commands.proofs.Signing.{Signed}
use Rattle.column_commands.proofs.signs.signs.Given as goal

-- i signs are done
abbrev pub invariant-loop-i : goal.invariant-loop-i
invariant-loop-i l = record {
  signed : Signed l.c l.part l.log l.fn.at l.d l.a l.h l.k l.fn.table.cells l.i l.next l.after.cells;
  spent : l.after.spent ≡ l.fn.table.spent;
}
