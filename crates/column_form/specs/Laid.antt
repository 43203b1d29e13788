-- What a layout says of the bytes that are turned.
-- Assumes nothing.
use Rattle.std.specs.Prelude.{◌≡◌, List, ℕ, ◌+◌, ◌*◌, ◌≤◌, length}
use Rattle.model.specs.Sheet.{header_of, inputs_at, row_count}
use Rattle.column_form.specs.declared.layout.Layout.{Layout}

-- where the shares of s stand, and that s fits into an output of so many places
pub record LaidOut (s : List ℕ) (room : ℕ) (r : Layout) : Type 0 where
  pub place : r.place ≡ inputs_at (header_of s)
  pub rows : r.rows ≡ row_count (header_of s)
  pub parties : r.parties ≡ (header_of s).n
  pub whole : length s ≡ r.place + 4 * r.parties * r.rows
  pub fits : length s ≤ room
  pub most : length s ≤ 59723
  pub most_rows : r.rows ≤ 2096
  pub most_parties : r.parties ≤ 7
