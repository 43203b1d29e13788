-- `making`: a sheet's bytes and its parts say the same.
-- Assumes nothing.
use mathlib.Core.Path.{◌≡◌, refl, sym, ◌∙◌}
use mathlib.Core.List.{List, [], ◌++◌, append_assoc, append-nil}
use Prim.Native.Nat.{ℕ, ◌+◌, ◌*◌, ◌≤◌, ◌<◌}
use native.Mathlib.Omega.{arith}
use lib.ListN.{length, drop, length-append, length-drop, take-append-drop, drop_of_length-le}
use lib.Seq.{length-take-le, take_at, drop-drop, drop-cons}
use Rattle.algebra.specs.Lists.{Below}
use Rattle.model.specs.Steps.{Row, Deal}
use Rattle.model.specs.Sheet.{Header, header_of, header_size, inputs_at, implied_length, row_count, script_in, input_in, deal_in, deal_rows, bytes_of, row_bytes, header_bytes, sheet_of}
use Rattle.model.specs.Making.{FitsHeader, Says, Making}
use Rattle.model.proofs.LittleEndian.{past, number_read, byte, number_fits, number_written}
use Rattle.model.proofs.SheetRows.{length_rows, rows_append, rows_read, rows_written, rows_fit}
use Rattle.model.proofs.SheetDeal.{implied, all_rows, Shape, shape_in, length_all, same}

-- the rows of input and deal together
together : (h : Header) (script : List ℕ) (input : List Row) (d : Deal)
    → sheet_of h script input d ≡ header_bytes h ++ (script ++ row_bytes h.n (input ++ deal_rows d))
unfolding sheet_of
together h script input d = rw (rows_append h.n input (deal_rows d))

-- reading undoes making
module _ (h : Header) (script : List ℕ) (input : List Row) (d : Deal) (P : FitsHeader h script input d) where
  shape : Shape h input d
  shape = record { inputs = P.inputs_length; masks = P.masks_length; triples = P.triples_length; each = P.mask_lengths }

  script_at : drop (header_size h) (sheet_of h script input d) ≡ script ++ row_bytes h.n (input ++ deal_rows d)
  unfolding header_size header_bytes bytes_of
  script_at = rw together

  length_is : length (sheet_of h script input d) ≡ implied_length h
  unfolding header_size header_bytes bytes_of
  length_is =
      rw (together, implied, length-append, length-append, length_rows h.n (input ++ deal_rows d) P.rows, length_all shape, P.script_length)
      (omega arith)

  header_is : header_of (sheet_of h script input d) ≡ h
  unfolding sheet_of header_bytes bytes_of header_of
  header_is =
      let s = sheet_of h script input d in
      let a = number_read s 2 h.inputs 3 _ refl P.inputs_fit in
      let b = number_read s 2 h.masks 5 _ refl P.masks_fit in
      let c = number_read s 2 h.triples 7 _ refl P.triples_fit in
      let e = number_read s 2 h.script 9 _ refl P.script_fits in
      λ i. record { field = h.field; n = h.n; t = h.t; inputs = a i; masks = b i; triples = c i; script = e i }

  script_is : script_in h (sheet_of h script input d) ≡ script
  unfolding script_in
  script_is = rw script_at (take_at script _ h.script P.script_length)

  parts_are : (input_in h (sheet_of h script input d) ≡ input) × (deal_in h (sheet_of h script input d) ≡ d)
  parts_are =
      let s = sheet_of h script input d in
      let at = past s (header_size h) h.script script _ script_at P.script_length in
      let read = rows_read s h.n (inputs_at h) (input ++ deal_rows d) [] P.rows (at ∙ sym (append-nil _)) in
      same (shape_in h s) shape (all_rows h s ∙ (rw (length_all shape) at read))

header_written : (s : List ℕ) → Below 256 s → header_size (header_of s) ≤ length s → s ≡ header_bytes (header_of s) ++ drop (header_size (header_of s)) s
unfolding header_size header_bytes header_of
header_written s b l =
    simp append_assoc
    (rw (
      ← number_written s b 2 9 (omega arith),
      ← number_written s b 2 7 (omega arith),
      ← number_written s b 2 5 (omega arith),
      ← number_written s b 2 3 (omega arith),
      ← drop-cons s 2 0 (omega arith),
      ← drop-cons s 1 0 (omega arith),
      ← drop-cons s 0 0 (omega arith),
    ))

-- making undoes reading
module _ (s : List ℕ) (b : Below 256 s) (e : length s ≡ implied_length (header_of s)) (n_fits : (header_of s).n < 8) where
  parts_fit : FitsHeader (header_of s) (script_in (header_of s) s) (input_in (header_of s) s) (deal_in (header_of s) s)
  unfolding header_of script_in
  parts_fit =
      let S = shape_in (header_of s) s in
      record {
        field_fits = byte s b 0;
        n_fits = n_fits;
        t_fits = byte s b 2;
        inputs_fit = number_fits s b 2 3;
        masks_fit = number_fits s b 2 5;
        triples_fit = number_fits s b 2 7;
        script_fits = number_fits s b 2 9;
        script_length = length-take-le _ (drop (header_size (header_of s)) s) (rw length-drop (omega (arith, implied (header_of s))));
        inputs_length = S.inputs;
        masks_length = S.masks;
        triples_length = S.triples;
        mask_lengths = S.each;
        rows = rw all_rows (rows_fit s b _ _ _);
      }

  sheet_is : sheet_of (header_of s) (script_in (header_of s) s) (input_in (header_of s) s) (deal_in (header_of s) s) ≡ s
  unfolding script_in
  sheet_is =
      let h = header_of s in
      let written = rows_written s b h.n (inputs_at h) (row_count h) (omega (arith, implied (header_of s))) in
      let none = drop_of_length-le s {i = inputs_at h + 4 * h.n * row_count h} (omega (arith, implied (header_of s))) in
      let rest = rw (none, append-nil) at written in
      rw (together, all_rows, ← rest, ← drop-drop, take-append-drop) (sym (header_written s b (omega (arith, implied (header_of s)))))

-- the same of any parts that the bytes say
undoes : (s : List ℕ) → Below 256 s → (h : Header) (script : List ℕ) (input : List Row) (d : Deal) → Says s h script input d → h.n < 8
    → FitsHeader h script input d × (sheet_of h script input d ≡ s)
undoes s b h script input d R n_fits =
    rw (← R.script_is, ← R.input_is, ← R.deal_is, ← R.header_is)
    (let e = rw (← R.header_is) at R.length_is in
    let f = rw (← R.header_is) at n_fits in
    (parts_fit s b e f, sheet_is s b e f))

pub making : Making
making =
    record {
      reading_undoes = λ h script input d P.
          record {
            length_is = length_is h script input d P;
            header_is = header_is h script input d P;
            script_is = script_is h script input d P;
            input_is = (parts_are h script input d P).0;
            deal_is = (parts_are h script input d P).1;
          };
      making_undoes = undoes;
    }
