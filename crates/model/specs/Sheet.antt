-- The paper, "The sheet" and "Refused because of the input": header, rows, the refusals 1 to 8, request 5's 12, and a sheet's bytes made of header,
-- script, input and deal.
-- A sheet, the paper's term, is the bytes of header, script, input rows and deal.
-- Assumes nothing.
use Rattle.std.specs.Prelude.{Bool, true, ◌&&◌, List, [], ◌∷◌, ◌++◌, ℕ, zero, suc, ◌+◌, ◌*◌, ◌/◌, ◌%◌, T, ltb, leb, eqb, length, get_or, take, drop}
use Rattle.algebra.specs.Ring.{mul}
use Rattle.algebra.specs.Lists.{all_below}
use Rattle.model.specs.Fields.{modulus, bits, largest_k, InUse, Parties, setting_tests}
use Rattle.model.specs.Sharing.{secret, is_sharing}
use Rattle.model.specs.Refusing.{first_failed}
use Rattle.model.specs.Presence.{everyone, permitted_set}
use Rattle.model.specs.Bytes.{number, row_at}
use Rattle.model.specs.Deal.{Setting, Row, Triple, Deal}

-- "One byte each: field, n, t. Two bytes each: input rows (at most 64), masks (at most 16), triples (at most 512), script length (at most
-- 1,024). That header is 11 bytes."
pub record Header : Type 0 where
  pub field : ℕ
  pub n : ℕ
  pub t : ℕ
  pub inputs : ℕ
  pub masks : ℕ
  pub triples : ℕ
  pub script : ℕ

-- the header that a sheet's first bytes say
unfoldable pub header_of : List ℕ → Header
header_of s =
    record {
      field = get_or s 0 0;
      n = get_or s 1 0;
      t = get_or s 2 0;
      inputs = number 2 s 3;
      masks = number 2 s 5;
      triples = number 2 s 7;
      script = number 2 s 9;
    }

-- Named numbers of a header. "That header is 11 bytes."
unfoldable pub header_size : Header → ℕ
header_size h = 11

-- "the masks, each ℓ rows, bit 0 first": ℓ of the header's field
unfoldable pub mask_bits : Header → ℕ
mask_bits h = bits h.field

-- "k from 2 to the field's largest"
unfoldable pub largest_in : Header → ℕ
largest_in h = largest_k h.field

-- "Four fields are held in one constant table": p of the header's field and the bits of its masks, with its n and t; and who is present
abbrev pub setting_with : ℕ → Header → Setting
setting_with present h = record { p = modulus h.field; l = mask_bits h; n = h.n; t = h.t; present = present }

-- the same with everyone present
abbrev pub setting_of : Header → Setting
setting_of h = setting_with (everyone h.n) h

-- "input rows (at most 64), masks (at most 16), triples (at most 512), script length (at most 1,024)"
unfoldable pub limits : Header → Bool
limits h = leb h.inputs 64 && leb h.masks 16 && leb h.triples 512 && leb h.script 1024

-- "Then the script; the input rows; the masks, each ℓ rows, bit 0 first; the triples, each rows a, b, c." The places where they start, and
-- the length that the header implies:
abbrev pub inputs_at : Header → ℕ
inputs_at h = header_size h + h.script

abbrev pub masks_at : Header → ℕ
masks_at h = inputs_at h + 4 * h.n * h.inputs

abbrev pub triples_at : Header → ℕ
triples_at h = masks_at h + 4 * h.n * mask_bits h * h.masks

unfoldable pub implied_length : Header → ℕ
implied_length h = triples_at h + 4 * h.n * 3 * h.triples

-- how many rows there are: of the input, of the masks and of the triples
abbrev pub row_count : Header → ℕ
row_count h = h.inputs + (mask_bits h * h.masks + 3 * h.triples)

-- "Then the script": the bytes after the header, as many as it says
unfoldable pub script_in : Header → List ℕ → List ℕ
script_in h s = take h.script (drop (header_size h) s)

-- so many rows, masks and triples, from place i on
unfoldable pub rows_at : List ℕ → ℕ → ℕ → ℕ → List Row
rows_at s n i zero = []
rows_at s n i (suc c) = row_at s n i ∷ rows_at s n (i + 4 * n) c

unfoldable pub masks_from : List ℕ → ℕ → ℕ → ℕ → ℕ → List (List Row)
masks_from s n l i zero = []
masks_from s n l i (suc c) = rows_at s n i l ∷ masks_from s n l (i + 4 * n * l) c

abbrev pub triple_at : List ℕ → ℕ → ℕ → Triple
triple_at s n i = record { a = row_at s n i; b = row_at s n (i + 4 * n); c = row_at s n (i + 4 * n * 2) }

unfoldable pub triples_from : List ℕ → ℕ → ℕ → ℕ → List Triple
triples_from s n i zero = []
triples_from s n i (suc c) = triple_at s n i ∷ triples_from s n (i + 4 * n * 3) c

-- "Its input is its input rows, its deal its mask and triple rows."
unfoldable pub input_in : Header → List ℕ → List Row
input_in h s = rows_at s h.n (inputs_at h) h.inputs

unfoldable pub deal_in : Header → List ℕ → Deal
deal_in h s =
    record {
      masks = masks_from s h.n (mask_bits h) (masks_at h) h.masks;
      triples = triples_from s h.n (triples_at h) h.triples;
    }

-- every element passes
unfoldable pub all : {A : Type 0} → (A → Bool) → List A → Bool
all f [] = true
all f (x ∷ xs) = f x && all f xs

-- the rows of masks and of triples, in the sheet's order
unfoldable pub mask_rows : List (List Row) → List Row
mask_rows [] = []
mask_rows (m ∷ ms) = m ++ mask_rows ms

unfoldable pub triple_rows : List Triple → List Row
triple_rows [] = []
triple_rows (x ∷ xs) = x.a ∷ x.b ∷ x.c ∷ triple_rows xs

abbrev pub deal_rows : Deal → List Row
deal_rows d = mask_rows d.masks ++ triple_rows d.triples

-- the number that bits spell, bit 0 first
unfoldable pub spell : List ℕ → ℕ
spell [] = 0
spell (b ∷ bs) = b + 2 * spell bs

-- "its secret is the value at 0": the secret of each row
unfoldable pub secrets : Setting → List Row → List ℕ
secrets S [] = []
secrets S (x ∷ xs) = secret S.p S.t x ∷ secrets S xs

-- "A mask is well formed when its ℓ secrets are bits and the number they spell is below p; a triple when c's secret is a times b modulo p."
unfoldable pub good_mask : Setting → List Row → Bool
good_mask S m = all_below 2 (secrets S m) && ltb (spell (secrets S m)) S.p

unfoldable pub good_triple : Setting → Triple → Bool
good_triple S x =
    eqb (secret S.p S.t x.c) (mul S.p (secret S.p S.t x.a) (secret S.p S.t x.b))

-- "5: a share not below p" refuses where this fails: each of a row's n shares is below p
abbrev pub shares_below : Setting → Row → Bool
shares_below S x = all_below S.p (take S.n x)

-- "6: a row that is no sharing" refuses where this fails
abbrev pub a_sharing : Setting → Row → Bool
a_sharing S x = is_sharing S.p S.n S.t x

-- The tests of a sheet, each of what must hold, with the number of its refusal. Whether there is a header, and what its field, n and t are:
unfoldable pub header_tests : List ℕ → List (Bool × ℕ)
header_tests s =
    let h = header_of s in
    -- "1: fewer than 11 bytes"
    (leb (header_size h) (length s), 1)
    -- "2: field over 3", "3: n or t outside the ranges"
    ∷ setting_tests h.field h.n h.t

-- request 5: "12, a bit beyond n is set or fewer than t + 1 parties are present, tried after 3"
unfoldable pub present_tests : Header → ℕ → List (Bool × ℕ)
present_tests h present = (permitted_set h.n h.t present, 12) ∷ []

-- "4: a count over its limit"
unfoldable pub limit_tests : Header → List (Bool × ℕ)
limit_tests h = (limits h, 4) ∷ []

-- "or a sheet length other than the header implies"
unfoldable pub length_tests : Header → List ℕ → List (Bool × ℕ)
length_tests h s = (eqb (length s) (implied_length h), 4) ∷ []

-- what looks at the rows of input and deal
unfoldable pub row_tests : Setting → List Row → Deal → List (Bool × ℕ)
row_tests S input d =
    let rows = input ++ deal_rows d in
    -- "5: a share not below p"
    (all (shares_below S) rows, 5)
    -- "6: a row that is no sharing"
    ∷ (all (a_sharing S) rows, 6)
    -- "7: a mask not well formed"
    ∷ (all (good_mask S) d.masks, 7)
    -- "8: a triple not well formed"
    ∷ (all (good_triple S) d.triples, 8)
    ∷ []

-- "Tried in this order, each over the whole sheet before the next": of a sheet, and of the byte that a run takes with it. The tests of rows do not look
-- at who is present.
unfoldable pub sheet_tests : ℕ → List ℕ → List (Bool × ℕ)
sheet_tests present s =
    let h = header_of s in
    header_tests s ++ (present_tests h present ++ (limit_tests h ++ (length_tests h s ++ row_tests (setting_with present h) (input_in h s) (deal_in h s))))

-- 1, 2, 3, 12, 4 to 8, or 0
abbrev pub sheet_number : ℕ → List ℕ → ℕ
sheet_number present s = first_failed (sheet_tests present s)

-- a header that neither 2 nor 3 refuses, nor 4 for a count
pub record Permitted (h : Header) : Type 0 where
  pub field : InUse h.field
  pub people : Parties h.n h.t
  pub counts : T (limits h)

-- The other way, for "the sheet made of header, script, input and deal". "Numbers are little-endian": v in w bytes
unfoldable pub bytes_of : ℕ → ℕ → List ℕ
bytes_of zero v = []
bytes_of (suc w) v = v % 256 ∷ bytes_of w (v / 256)

-- "A row is n shares of 4 bytes, party 1 first": a row's shares, and the n shares of each of some rows, one row after the other
unfoldable pub share_bytes : List ℕ → List ℕ
share_bytes [] = []
share_bytes (x ∷ xs) = bytes_of 4 x ++ share_bytes xs

unfoldable pub row_bytes : ℕ → List Row → List ℕ
row_bytes n [] = []
row_bytes n (x ∷ xs) = share_bytes (take n x) ++ row_bytes n xs

-- "One byte each: field, n, t. Two bytes each: input rows", masks, triples, script length
unfoldable pub header_bytes : Header → List ℕ
header_bytes h =
    h.field ∷ h.n ∷ h.t ∷ (bytes_of 2 h.inputs ++ (bytes_of 2 h.masks ++ (bytes_of 2 h.triples ++ bytes_of 2 h.script)))

-- "Then the script; the input rows; the masks, each ℓ rows, bit 0 first; the triples, each rows a, b, c."
unfoldable pub sheet_of : Header → List ℕ → List Row → Deal → List ℕ
sheet_of h script input d = header_bytes h ++ (script ++ (row_bytes h.n input ++ row_bytes h.n (deal_rows d)))
