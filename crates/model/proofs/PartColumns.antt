-- A party's part of the column form, read as the rows of a table of one column: they are the party's column of the sheet's input and deal.
-- Assumes nothing.
use mathlib.Core.Path.{◌≡◌, refl, sym, ap, ap₂, ◌∙◌}
use mathlib.Core.List.Memᴰ.{head as here}
use mathlib.Core.List.Memᴰ.{tail as there}
use mathlib.Core.List.{List, [], ◌∷◌, ◌++◌, map, map-append}
use Prim.Native.Nat.{ℕ, zero, suc, ◌+◌, ◌*◌, ◌<◌}
use native.Mathlib.Omega.{arith}
use lib.ListN.{get_or, length-map}
use Rattle.algebra.specs.Rows.{tab, row}
use Rattle.model.specs.Bytes.{number, row_at}
use Rattle.model.specs.Deal.{Row, Triple, Deal}
use Rattle.model.specs.Sheet.{Header, mask_bits, row_count, input_in, deal_in, rows_at, masks_from, triples_from, mask_rows, triple_rows, deal_rows}
use Rattle.model.specs.Columns.{shares_in, column_in}
use Rattle.model.specs.Replay.{part_input, part_deal}
use Rattle.model.proofs.SheetDeal.{Masks, Shape, deal_from, rows_from, shape_from, shape_in, same}
use Rattle.model.proofs.OneColumn.{column_row, column_triple, column_deal}

-- a row of one share
abbrev one_share : ℕ → Row
one_share v = row 1 (λ _. v)

-- rows of one share, by the numbers in their bytes
shares_rows : (s : List ℕ) (i count : ℕ) (f : ℕ → ℕ) → ((k : ℕ) → k < count → f k ≡ number 4 s (i + 4 * k)) → rows_at s 1 i count ≡ map one_share (tab count f)
unfolding rows_at row_at row tab
shares_rows s i zero f e = refl
shares_rows s i (suc count) f e =
    ap₂ {C = List Row} ◌∷◌ (ap one_share (sym (e 0 (omega arith)))) (shares_rows s (i + 4 * 1) count (λ k. f (suc k)) next)
  where
    next : (k : ℕ) → k < count → f (suc k) ≡ number 4 s (i + 4 * 1 + 4 * k)
    next k l =
        let q : i + 4 * suc k ≡ i + 4 * 1 + 4 * k = omega arith in
        rw q at (e (suc k) (omega arith))

-- a part's rows
module _ (h : Header) (part : List ℕ) where
  part_is : (part_input h part ≡ rows_at part 1 0 h.inputs) × (part_deal h part ≡ deal_from h part 1 0)
  unfolding part_input part_deal
  part_is =
      let a : 4 * h.inputs ≡ 0 + 4 * 1 * h.inputs = omega arith in
      let b : 4 * h.inputs + 4 * mask_bits h * h.masks ≡ 0 + 4 * 1 * h.inputs + 4 * 1 * mask_bits h * h.masks = omega arith in
      (refl, λ k. record { masks = masks_from part 1 (mask_bits h) (a k) h.masks; triples = triples_from part 1 (b k) h.triples })

  part_shape : Shape h (part_input h part) (part_deal h part)
  part_shape = rw (part_is.0, part_is.1) (shape_from h part 1 0)

  part_rows : part_input h part ++ deal_rows (part_deal h part) ≡ map one_share (shares_in h part)
  unfolding shares_in
  part_rows = rw (part_is.0, part_is.1) (rows_from h part 1 0 ∙ shares_rows part 0 (row_count h) _ (λ k l. ap (number 4 part) (omega arith)))

-- column i of rows, masks and triples
module _ (i : ℕ) where
  column_rows : (xs : List Row) → map (column_row i) xs ≡ map one_share (map (λ (x : Row). get_or x i 0) xs)
  unfolding column_row
  column_rows [] = refl
  column_rows (x ∷ xs) = ap (λ (l : List Row). column_row i x ∷ l) (column_rows xs)

  mask_columns : (ms : List (List Row)) → mask_rows (map (map (column_row i)) ms) ≡ map (column_row i) (mask_rows ms)
  unfolding mask_rows
  mask_columns [] = refl
  mask_columns (m ∷ ms) = rw (mask_columns ms, map-append)

  triple_columns : (ts : List Triple) → triple_rows (map (column_triple i) ts) ≡ map (column_row i) (triple_rows ts)
  unfolding triple_rows
  triple_columns [] = refl
  triple_columns (t ∷ ts) = rw (triple_columns ts)

  deal_columns : (input : List Row) (d : Deal) → map (column_row i) input ++ deal_rows (column_deal i d) ≡ map (column_row i) (input ++ deal_rows d)
  deal_columns input d = rw (mask_columns d.masks, triple_columns d.triples, map-append, map-append)

  masks_each : (l : ℕ) (ms : List (List Row)) → Masks l ms → Masks l (map (map (column_row i)) ms)
  masks_each l (m ∷ ms) k x (here e) = rw e (length-map m (column_row i) ∙ k m (here refl))
  masks_each l (m ∷ ms) k x (there z) = masks_each l ms (λ y z. k y (there z)) x z
  masks_each l [] k x x3 = elim x3 [ ]

  column_shape : {h : Header} {input : List Row} {d : Deal} → Shape h input d → Shape h (map (column_row i) input) (column_deal i d)
  column_shape {h} {input} {d} A =
      record {
        inputs = length-map input (column_row i) ∙ A.inputs;
        masks = length-map d.masks (map (column_row i)) ∙ A.masks;
        triples = length-map d.triples (column_triple i) ∙ A.triples;
        each = masks_each (mask_bits h) d.masks A.each;
      }

-- where the part's numbers are party i + 1's column of the sheet s
pub part_columns : (h : Header) (i : ℕ) (s part : List ℕ) → shares_in h part ≡ column_in h (suc i) s
    → (part_input h part ≡ map (column_row i) (input_in h s)) × (part_deal h part ≡ column_deal i (deal_in h s))
unfolding column_in
part_columns h i s part e =
    let xs = input_in h s ++ deal_rows (deal_in h s) in
    same (part_shape h part) (column_shape i (shape_in h s))
    (part_rows h part ∙ ap (map one_share) e ∙ sym (column_rows i xs) ∙ sym (deal_columns i (input_in h s) (deal_in h s)))
