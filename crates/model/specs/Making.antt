-- Reading undoes making, and making undoes reading: a sheet's bytes say the same as its header, script, input and deal.
-- Assumes nothing.
use Rattle.std.specs.Prelude.{◌≡◌, ℕ, ◌^◌, ◌<◌, length, get_or}
use mathlib.Core.List.{List, ◌++◌, Memᴰ as In}
use Rattle.algebra.specs.Lists.{Below}
use Rattle.algebra.specs.Rows.{row}
use Rattle.model.specs.Deal.{Row, Deal}
use Rattle.model.specs.Sheet.{Header, header_of, mask_bits, implied_length, script_in, input_in, deal_in, deal_rows, sheet_of}

-- a row as a sheet has it: n shares of 32 bits, and 0 past them
pub record SheetRow (n : ℕ) (x : Row) : Type 0 where
  pub is : x ≡ row n (λ j. get_or x j 0)
  pub small : (j : ℕ) → j < n → get_or x j 0 < 2 ^ 32

-- script, input and deal fit a header: each header number fits its bytes, and they are as long as it says
pub record FitsHeader (h : Header) (script : List ℕ) (input : List Row) (d : Deal) : Type 0 where
  pub field_fits : h.field < 256
  pub n_fits : h.n < 8
  pub t_fits : h.t < 256
  pub inputs_fit : h.inputs < 2 ^ 16
  pub masks_fit : h.masks < 2 ^ 16
  pub triples_fit : h.triples < 2 ^ 16
  pub script_fits : h.script < 2 ^ 16
  pub script_length : length script ≡ h.script
  pub inputs_length : length input ≡ h.inputs
  pub masks_length : length d.masks ≡ h.masks
  pub triples_length : length d.triples ≡ h.triples
  pub mask_lengths : (m : List Row) → In m d.masks → length m ≡ mask_bits h
  pub rows : (x : Row) → In x (input ++ deal_rows d) → SheetRow h.n x

-- what the bytes s say, read: this header, script, input and deal, and no bytes more
pub record Says (s : List ℕ) (h : Header) (script : List ℕ) (input : List Row) (d : Deal) : Type 0 where
  pub length_is : length s ≡ implied_length h
  pub header_is : header_of s ≡ h
  pub script_is : script_in h s ≡ script
  pub input_is : input_in h s ≡ input
  pub deal_is : deal_in h s ≡ d

-- Reading undoes making, and making undoes reading.
pub record Making : Type 0 where
  pub reading_undoes : (h : Header) (script : List ℕ) (input : List Row) (d : Deal) → FitsHeader h script input d
      → Says (sheet_of h script input d) h script input d
  pub making_undoes : (s : List ℕ) → Below 256 s → (h : Header) (script : List ℕ) (input : List Row) (d : Deal) → Says s h script input d
      → h.n < 8 → FitsHeader h script input d × (sheet_of h script input d ≡ s)
