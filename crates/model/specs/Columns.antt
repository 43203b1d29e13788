-- Request 3, "One firm's shares together": the column form of a sheet, the way back, a party's part, and what the two entries answer and leave.
-- Assumes nothing.
use Rattle.std.specs.Prelude.{Bool, List, [], ◌∷◌, ◌++◌, map, ℕ, zero, suc, ◌+◌, ◌*◌, ◌-◌, leb, length, take, drop}
use Rattle.algebra.specs.Lists.{onto}
use Rattle.algebra.specs.Rows.{tab}
use Rattle.model.specs.Refusing.{first_failed, given}
use Rattle.model.specs.Sharing.{at}
use Rattle.model.specs.Bytes.{number}
use Rattle.model.specs.Deal.{Row}
use Rattle.model.specs.Sheet.{Header, header_of, inputs_at, row_count, input_in, deal_in, deal_rows, header_tests, limit_tests, length_tests}

-- `count` shares of 4 bytes: the first at place i, each next one `step` bytes further on
unfoldable pub shares_from : List ℕ → ℕ → ℕ → ℕ → List ℕ
shares_from s step i zero = []
shares_from s step i (suc count) = take 4 (drop i s) ++ shares_from s step (i + step) count

-- Of groups that have `size` shares each: one share of every group, which is at place i in the first group; then the next share of every group; and so on,
-- k shares of every group.
unfoldable pub regrouped : List ℕ → (groups size : ℕ) → ℕ → ℕ → List ℕ
regrouped s groups size i zero = []
regrouped s groups size i (suc k) = shares_from s (4 * size) i groups ++ regrouped s groups size (i + 4) k

-- the bytes before place i as they are, and then the groups transposed: as many as a group had shares, each with one share of every group
unfoldable pub transposed : List ℕ → ℕ → (groups size : ℕ) → List ℕ
transposed s i groups size = take i s ++ regrouped s groups size i size

-- "the same header and script, then all of party 1's shares (inputs, masks, triples in sheet order), then party 2's, and so on". A sheet's groups are
-- its rows, of n shares.
unfoldable pub column_form : List ℕ → List ℕ
column_form s =
    let h = header_of s in
    transposed s (inputs_at h) (row_count h) h.n

-- "Turning a sheet over and back": the column form's groups are the parties' parts, of a share for each row
unfoldable pub sheet_form : List ℕ → List ℕ
sheet_form c =
    let h = header_of c in
    transposed c (inputs_at h) h.n (row_count h)

-- The shares of one party in the column form are its part. Parties count from 1, as in the paper: "column j held by party j (1 to n)". How long a part
-- is, where party j's part begins, and the part itself:
abbrev pub part_length : Header → ℕ
part_length h = 4 * row_count h

abbrev pub part_at : Header → ℕ → ℕ
part_at h j = inputs_at h + (j - 1) * part_length h

unfoldable pub part_of : Header → ℕ → List ℕ → List ℕ
part_of h j c = take (part_length h) (drop (part_at h j) c)

-- the shares in a part, as numbers, "inputs, masks, triples in sheet order"
unfoldable pub shares_in : Header → List ℕ → List ℕ
shares_in h part = tab (row_count h) (λ i. number 4 part (4 * i))

-- column j of a sheet: party j's share of each input row, of each mask's rows and of each triple's rows
unfoldable pub column_in : Header → ℕ → List ℕ → List ℕ
column_in h j s = map (λ (x : Row). at 0 x j) (input_in h s ++ deal_rows (deal_in h s))

-- "1 to 4 as in the paper"; "Only the header and length are looked at."
unfoldable pub shape_tests : List ℕ → List (Bool × ℕ)
shape_tests s = header_tests s ++ (limit_tests (header_of s) ++ length_tests (header_of s) s)

-- "15, the output buffer is shorter than the sheet": the output is the lent list, of so many places
unfoldable pub output_tests : List ℕ → ℕ → List (Bool × ℕ)
output_tests s room = (leb (length s) room, 15) ∷ []

-- "1 to 4 as in the paper; then 15"
unfoldable pub turn_tests : List ℕ → ℕ → List (Bool × ℕ)
turn_tests s room = shape_tests s ++ output_tests s room

-- "Answers, the number alone", of either entry
abbrev pub turn_number : List ℕ → List ℕ → ℕ
turn_number s out = first_failed (turn_tests s (length out))

-- What an entry leaves in the output, by the form that it makes, `column_form` or `sheet_form`: "A longer output buffer keeps its tail", and in a refusal
-- "nothing is written".
unfoldable pub output_left : (List ℕ → List ℕ) → List ℕ → List ℕ → List ℕ
output_left form s out = given (turn_number s out) (onto (form s) out) out
