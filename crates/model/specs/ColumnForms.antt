-- Request 3: which list the column form is, by where each share stands; that turning over and back yields the same bytes; a party's part; and
-- what the entries answer and leave.
-- Assumes nothing.
use Rattle.std.specs.Prelude.{◌≡◌, ◌↔◌, ◌≢◌, List, [], ◌++◌, ℕ, zero, suc, ◌+◌, ◌*◌, ◌-◌, ◌≤◌, ◌<◌, length, take, drop}
use Rattle.algebra.specs.Lists.{onto}
use Rattle.model.specs.Refusing.{first_failed}
use Rattle.model.specs.Presence.{everyone}
use Rattle.model.specs.Sheet.{Header, header_of, header_size, inputs_at, row_count, sheet_number}
use Rattle.model.specs.Columns.{shares_from, column_form, sheet_form, part_length, part_at, part_of, shares_in, column_in, shape_tests, turn_number, output_left}

-- "A row is n shares of 4 bytes, party 1 first": where party j's share of row i stands in a sheet. Rows count from 0.
abbrev pub sheet_place : Header → (row party : ℕ) → ℕ
sheet_place h i j = inputs_at h + 4 * (h.n * i + (j - 1))

-- the parts of k parties, from party j's on, one after the other
unfoldable pub parts_of : Header → List ℕ → ℕ → ℕ → List ℕ
parts_of h c j zero = []
parts_of h c j (suc k) = part_of h j c ++ parts_of h c (suc j) k

-- c is the column form of the sheet s: "the same header and script", and each share of 4 bytes at its place
pub record IsColumnForm (s c : List ℕ) : Type 0 where
  pub same_length : length c ≡ length s
  pub head : take (inputs_at (header_of s)) c ≡ take (inputs_at (header_of s)) s
  pub shares : (i j : ℕ) → i < row_count (header_of s) → 1 ≤ j → j ≤ (header_of s).n
      → take 4 (drop (part_at (header_of s) j + 4 * i) c) ≡ take 4 (drop (sheet_place (header_of s) i j) s)

-- header and length are right: none of 1 to 4 refuses, whatever script and shares are
abbrev pub Shaped : List ℕ → Type 0
Shaped s = first_failed (shape_tests s) ≡ 0

-- the forms, for every input that is not refused with 1 to 4
pub record Forms (s : List ℕ) : Type 0 where
  -- exactly one list is the column form of s, and s is the column form of exactly one list
  pub columns : (c : List ℕ) → IsColumnForm s c ↔ (c ≡ column_form s)
  pub sheet : (x : List ℕ) → IsColumnForm x s ↔ (x ≡ sheet_form s)
  -- neither is refused with 1 to 4, and the header is the same
  pub columns_shaped : Shaped (column_form s)
  pub sheet_shaped : Shaped (sheet_form s)
  pub columns_header : header_of (column_form s) ≡ header_of s
  pub sheet_header : header_of (sheet_form s) ≡ header_of s
  -- "Turning a sheet over and back yields the same bytes, either way round."
  pub over_and_back : sheet_form (column_form s) ≡ s
  pub back_and_over : column_form (sheet_form s) ≡ s

-- the parts of c, which is the column form of the sheet s
pub record InParts (s c : List ℕ) : Type 0 where
  -- header and script, and then the parts of parties 1 to n, which are all of it: party n's part ends where c does
  pub joined : c ≡ take (inputs_at (header_of s)) s ++ parts_of (header_of s) c 1 (header_of s).n
  pub length_each : (j : ℕ) → 1 ≤ j → j ≤ (header_of s).n → length (part_of (header_of s) j c) ≡ part_length (header_of s)
  pub ends : length c ≡ part_at (header_of s) (header_of s).n + part_length (header_of s)
  -- party j's part is exactly the shares of column j: as bytes, of one row of the sheet after the other, and as numbers
  pub bytes : (j : ℕ) → 1 ≤ j → j ≤ (header_of s).n
      → part_of (header_of s) j c ≡ shares_from s (4 * (header_of s).n) (sheet_place (header_of s) 0 j) (row_count (header_of s))
  pub column : (j : ℕ) → 1 ≤ j → j ≤ (header_of s).n → shares_in (header_of s) (part_of (header_of s) j c) ≡ column_in (header_of s) j s

-- "Answers, the number alone"
pub record TurnNumbers (s out : List ℕ) : Type 0 where
  -- "1 to 4 as in the paper". A run, with everyone present, tries 1 to 8 first (`sheet_number`): where that number is 4 at most, it is the number here.
  pub as_sheet_lem : sheet_number (everyone (header_of s).n) s ≤ 4 → first_failed (shape_tests s) ≡ sheet_number (everyone (header_of s).n) s
  -- where a run refuses rows or deal, with 5 to 8, none of 1 to 4 refuses
  pub rows_refused : 5 ≤ sheet_number (everyone (header_of s).n) s → sheet_number (everyone (header_of s).n) s ≤ 8 → Shaped s
  pub first : first_failed (shape_tests s) ≢ 0 → turn_number s out ≡ first_failed (shape_tests s)
  -- "then 15, the output buffer is shorter than the sheet"
  pub short : Shaped s → length out < length s → turn_number s out ≡ 15
  pub done : Shaped s → length s ≤ length out → turn_number s out ≡ 0
  -- "Only the header and length are looked at."
  pub looked_at : (s' out' : List ℕ) → take (header_size (header_of s)) s ≡ take (header_size (header_of s)) s' → length s ≡ length s'
      → length out ≡ length out' → turn_number s out ≡ turn_number s' out'

-- What an entry leaves in the output: it makes form, and the other entry makes other.
pub record Leaves (form other : List ℕ → List ℕ) (s out : List ℕ) : Type 0 where
  pub made : turn_number s out ≡ 0 → take (length s) (output_left form s out) ≡ form s
  -- "A longer output buffer keeps its tail."
  pub tail : turn_number s out ≡ 0 → drop (length s) (output_left form s out) ≡ drop (length s) out
  -- "and nothing is written"
  pub refused : turn_number s out ≢ 0 → output_left form s out ≡ out
  -- "Turning a sheet over and back yields the same bytes": through any two outputs that are long enough
  pub undone : turn_number s out ≡ 0 → (back : List ℕ) → length s ≤ length back
      → (turn_number (take (length s) (output_left form s out)) back ≡ 0) × (output_left other (take (length s) (output_left form s out)) back ≡ onto s back)

-- for every list of numbers, and every output
pub record ColumnForms : Type 0 where
  pub forms : (s : List ℕ) → Shaped s → Forms s
  -- of every column form, so also of an input that is turned back: it is the column form of that sheet
  pub parts : (s : List ℕ) → Shaped s → (c : List ℕ) → IsColumnForm s c → InParts s c
  pub numbers : (s out : List ℕ) → TurnNumbers s out
  pub to_columns : (s out : List ℕ) → Leaves column_form sheet_form s out
  pub to_sheet : (c out : List ℕ) → Leaves sheet_form column_form c out
