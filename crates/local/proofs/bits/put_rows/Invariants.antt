use Rattle.std.proofs.Common.{◌≡◌, ◌*◌, drop}
use Rattle.model.specs.Bytes.{sevens}
use Rattle.model.specs.Sheet.{rows_at}
use Rattle.local.proofs.bits.put_rows.Given as goal

-- the first k rows of the cells are the sheet's
abbrev pub invariant-loop-k : goal.invariant-loop-k
invariant-loop-k l =
    record { put : sevens l.k l.cells ≡ rows_at l.s l.n l.i l.k; past : drop (7 * l.count) l.cells ≡ drop (7 * l.count) l.fn.cells }
