-- The paper, "Figures to check": its P rows in one table, computed over the same definitions that the code meets. The row of BLOCKS has the figures of
-- request 2.
-- Assumes nothing.
use Rattle.std.specs.Prelude.{◌≡◌, List, [], ◌∷◌, map, ℕ, ℤ, pos, neg_ℤ, length, replicate}
use Rattle.model.specs.Fields.{modulus, bits}
use Rattle.model.specs.Coding.{code, read_back}
use Rattle.model.specs.Presence.{everyone}
use Rattle.model.specs.Sharing.{share}
use Rattle.model.specs.Steps.{Setting, Row, Deal, Step, value, comparison, remainder, floor, sign, over, blocks}
use Rattle.model.specs.Parts.{step_c, step_f, step_u}
use Rattle.model.specs.Script.{LTZ}
use Rattle.model.specs.Costs.{cost}

-- the field of a number with three parties, threshold 1; fields 0 and 2
abbrev pub in_field : ℕ → Setting
in_field f = record { p = modulus f; l = bits f; n = 3; t = 1; present = everyone 3 }

abbrev pub small : Setting
small = in_field 0

abbrev pub large : Setting
large = in_field 2

-- a sharing of v, and of the code of a signed number
abbrev pub of : Setting → ℕ → Row
of S v = share S.p S.n (v ∷ 4 ∷ [])

abbrev pub of_signed : Setting → ℤ → Row
of_signed S a = of S (code S.p a)

-- a deal of one mask with these bits, and enough triples of 2, 3 and 6
abbrev pub dealt : Setting → ℕ → List ℕ → Deal
dealt S count bs =
    record { masks = map (of S) bs ∷ []; triples = replicate count (record { a = of S 2; b = of S 3; c = of S 6 }) }

-- "Where a mask is taken and no r is named, r is 5."
abbrev pub five : List ℕ
five = 1 ∷ 0 ∷ 1 ∷ 0 ∷ []

-- the bits of 12, for "r = 12"
abbrev pub twelve : List ℕ
twelve = 0 ∷ 0 ∷ 1 ∷ 1 ∷ []

-- 5 in the 16 bits of field 2
abbrev pub long : List ℕ
long = 1 ∷ 0 ∷ 1 ∷ replicate 13 0

-- the deals with each of these masks, and the most triples that a P row takes
abbrev pub with5 : Deal
with5 = dealt small 6 five

abbrev pub with12 : Deal
with12 = dealt small 6 twelve

abbrev pub wide : Deal
wide = dealt large 42 long

-- a step's secret
abbrev pub result : Setting → Step → ℕ
result S s = value S s.left

-- a P row: what the definitions give, and what is printed, for BLOCKS by request 2, else by the paper
pub record Figure : Type 0 where
  pub computed : List ℕ
  pub printed : List ℕ

-- such a row
abbrev pub figure : List ℕ → List ℕ → Figure
figure xs ys = record { computed = xs; printed = ys }

-- "Field 0, k = 3; those marked P are proved." Each row's case and result stand over it.
unfoldable pub figures : List Figure
figures =
    -- MOD m=1, −3, r = 12: C 0, f 1, u 0, result 1. That MOD is made of this C, f and u is `StepParts.remainder_parts` in Parts of crate model.
    figure
    (step_c small 3 (of_signed small (neg_ℤ (pos 3))) with12 ∷ result small (step_f small 3 (of_signed small (neg_ℤ (pos 3))) with12)
    ∷ value small (step_u small 3 1 (of_signed small (neg_ℤ (pos 3))) with12) ∷ result small (remainder small 3 1 (of_signed small (neg_ℤ (pos 3))) with12) ∷ [])
    (0 ∷ 1 ∷ 0 ∷ 1 ∷ [])
    -- TRUNC m=1, −3: −2, that is 11; and 3: 1
    ∷ figure (result small (floor small 3 1 (of_signed small (neg_ℤ (pos 3))) with5) ∷ []) (11 ∷ [])
    ∷ figure (result small (floor small 3 1 (of small 3) with5) ∷ []) (1 ∷ [])
    -- MOD m=2, −1: 3
    ∷ figure (result small (remainder small 3 2 (of_signed small (neg_ℤ (pos 1))) with5) ∷ []) (3 ∷ [])
    -- LTZ −4, −1: 1, 1; LTZ 0, 3: 0, 0; LTZ of 4, out of range: 12
    ∷ figure (result small (sign small 3 (of_signed small (neg_ℤ (pos 4))) with5) ∷ result small (sign small 3 (of_signed small (neg_ℤ (pos 1))) with5) ∷ []) (1 ∷ 1 ∷ [])
    ∷ figure (result small (sign small 3 (of small 0) with5) ∷ result small (sign small 3 (of small 3) with5) ∷ []) (0 ∷ 0 ∷ [])
    ∷ figure (result small (sign small 3 (of small 4) with5) ∷ []) (12 ∷ [])
    -- BITLT w=3, v=5, bits of 6, of 5: 1, 0; BITLT w=1, v=0, bit 1: 1, no triple
    ∷ figure
    (result small (comparison small 5 (of small 0 ∷ of small 1 ∷ of small 1 ∷ []) with5)
    ∷ result small (comparison small 5 (of small 1 ∷ of small 0 ∷ of small 1 ∷ []) with5) ∷ [])
    (1 ∷ 0 ∷ [])
    ∷ figure
    (result small (comparison small 0 (of small 1 ∷ []) with5) ∷ length (comparison small 0 (of small 1 ∷ []) with5).opened
    ∷ length (comparison small 0 (of small 1 ∷ []) with5).deal.triples ∷ [])
    (1 ∷ 0 ∷ 6 ∷ [])
    -- field 2, OVER k=15 v=170 of 170, 171: 0, 1
    ∷ figure (result large (over large 15 170 (of large 170) wide) ∷ result large (over large 15 170 (of large 171) wide) ∷ []) (0 ∷ 1 ∷ [])
    -- BLOCKS k=15 m=6 in field 2, of 179, 128, 0. Request 2: "179 seconds in blocks of 64 are then 3; 128 stay 2; 0 stays 0."
    ∷ figure
    (result large (blocks large 15 6 (of large 179) wide) ∷ result large (blocks large 15 6 (of large 128) wide)
    ∷ result large (blocks large 15 6 (of large 0) wide) ∷ [])
    (3 ∷ 2 ∷ 0 ∷ [])
    -- LTZ k=15 in field 2: 42 triples, 85 openings; so much is counted, and so much is opened and gone from the deal
    ∷ figure
    ((cost large (LTZ 0 0 15)).counts.triples ∷ (cost large (LTZ 0 0 15)).counts.openings ∷ length (sign large 15 (of large 1) wide).opened
    ∷ length (sign large 15 (of large 1) wide).deal.triples ∷ length (sign large 15 (of large 1) wide).deal.masks ∷ [])
    (42 ∷ 85 ∷ 85 ∷ 0 ∷ 0 ∷ [])
    ∷ []

-- what the definitions give is what is printed, row by row
abbrev pub Computes : List Figure → Type 0
Computes rows = map (λ f. f.computed) rows ≡ map (λ f. f.printed) rows

-- "The P rows, gathered in one table and one claim." TRUNC m=1, −3 is "−2, that is 11": the table has 11, and 11 reads back as −2.
pub record Figures : Type 0 where
  pub rows : Computes figures
  pub minus_two : read_back small.p (result small (floor small 3 1 (of_signed small (neg_ℤ (pos 3))) with5)) ≡ neg_ℤ (pos 2)
