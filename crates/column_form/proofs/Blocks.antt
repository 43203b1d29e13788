-- The loop over blocks of rows.
-- Assumes nothing.
use mathlib.Core.Path.{◌≡◌}
use mathlib.Core.Logic.{◌⊎◌, ⊎_elim}
use mathlib.Core.List.{List}
use Prim.Native.Nat.{ℕ, ◌+◌, ◌*◌, ◌≤◌, ◌<◌}
use native.Mathlib.Omega.{arith}
use lib.ListN.{length}
use Rattle.column_form.specs.Grids.{further_on, Fits, Spaced, rows_copied, Partly}
use Rattle.column_form.specs.declared.grid.Grid.{Grid}
use Rattle.column_form.proofs.Places.{fits_on}
use Rattle.column_form.proofs.Partly.{block_more}

-- so many rows from row i on, at the grid where they begin
pub block_fits : {G : Grid} {rows parties size : ℕ} {at : Grid} (i : ℕ) {count : ℕ} → Fits G rows parties size → at ≡ further_on (G.down * i) G → i + count ≤ rows
    → Fits at count parties size
block_fits i {count} f e h = rw e (fits_on f i count h)

-- they are copied, and with them all rows before row m
pub block_copied : {s : List ℕ} {F G : Grid} {rows parties : ℕ} {xs out next : List ℕ} {i m : ℕ} {read write : Grid} (count : ℕ)
    → Partly s F G rows parties (λ k j. k < i) xs out → Fits F rows parties (length s) → Fits G rows parties (length s) → Spaced G rows parties
    → length s ≤ length xs → next ≡ rows_copied s read write count parties out → read ≡ further_on (F.down * i) F → write ≡ further_on (G.down * i) G
    → i + count ≤ rows → (rows ≤ i + count) ⊎ (m ≤ i + count) → Partly s F G rows parties (λ k j. k < m) xs next
block_copied {s} {F} {G} {rows} {parties} {xs} {i = i} {m} count P f g spaced room e r w h all =
    rw (e, r, w) (rest (block_more s F G rows parties xs f g spaced room i count h P))
  where
    rest : {c : List ℕ} → Partly s F G rows parties (λ k j. k < i + count) xs c → Partly s F G rows parties (λ k j. k < m) xs c
    rest Q =
        record {
          same_length = Q.same_length;
          head = Q.head;
          tail = Q.tail;
          shares = λ k j hk hj d. Q.shares k j hk hj (⊎_elim (λ n. omega arith) (λ n. omega arith) all);
        }
