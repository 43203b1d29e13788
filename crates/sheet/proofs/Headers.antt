-- The numbers of a header, the frame of one that is permitted, and what a frame says of its header.
-- Assumes nothing.
use mathlib.Core.Path.{◌≡◌, refl, sym, ap₂, ◌∙◌}
use mathlib.Core.Bool.{false, ◌&&◌}
use mathlib.Core.List.{List, ◌++◌}
use Prim.Native.Nat.{ℕ, ◌+◌, ◌*◌, ◌≤◌, ◌<◌}
use native.Mathlib.Nat.{mul-le-mul}
use native.Mathlib.Omega.{arith}
use borrow.Author.Tests.{le-leb, lt-leb}
use lib.Dec.{leb, le→leb}
use lib.ListN.{get_or}
use Rattle.algebra.proofs.Tests.{and_both}
use Rattle.model.specs.Bytes.{number}
use Rattle.model.specs.Deal.{Row, Deal}
use Rattle.model.specs.Presence.{PermittedSet}
use Rattle.model.specs.Fields.{Modulus, modulus, bits, largest_k}
use Rattle.model.specs.Sheet.{Header, header_of, header_size, mask_bits, largest_in, setting_with, limits, implied_length, input_in, deal_in, deal_rows, rows_at, Permitted}
use Rattle.model.proofs.SheetDeal.{all_rows}
use Rattle.model.proofs.Lengths.{header_field, mask_bits_most, fitting, length_most}
use Rattle.presence.specs.Openings.{WorkedBy}
use Rattle.presence.specs.declared.Opening.{Opening}
use Rattle.sheet.specs.Framed.{setting_in, inputs_of, deal_of, Headed, Presented}
use Rattle.sheet.specs.declared.frame.Frame.{Frame}

pub header_is : (s : List ℕ) {field n t inputs masks triples script : ℕ} → field ≡ get_or s 0 0 → n ≡ get_or s 1 0 → t ≡ get_or s 2 0 → inputs ≡ number 2 s 3
    → masks ≡ number 2 s 5 → triples ≡ number 2 s 7 → script ≡ number 2 s 9
    → ◌≡◌ {A = Header} (record { field = field; n = n; t = t; inputs = inputs; masks = masks; triples = triples; script = script }) (header_of s)
unfolding header_of
header_is s a b c d e f g = λ i. record { field = a i; n = b i; t = c i; inputs = d i; masks = e i; triples = f i; script = g i }

-- the place of the first triple is the largest number of a frame
pub places_most : (h : Header) {l : ℕ} → Permitted h → l ≡ bits h.field → 11 + h.script + 4 * h.n * h.inputs + 4 * h.n * l * h.masks ≤ 59723
unfolding mask_bits
places_most h P e = rw e (omega (arith, fitting h P))

-- the frame of a permitted header
pub frame_is : (h : Header) {p l k : ℕ} {o : Opening} → Permitted h → p ≡ modulus h.field → l ≡ bits h.field → k ≡ largest_k h.field → Headed h (record {
  p = p;
  l = l;
  largest = k;
  n = h.n;
  t = h.t;
  inputs = h.inputs;
  masks = h.masks;
  triples = h.triples;
  script = h.script;
  input = 11 + h.script;
  mask = 11 + h.script + 4 * h.n * h.inputs;
  triple = 11 + h.script + 4 * h.n * h.inputs + 4 * h.n * l * h.masks;
  opening = o;
})
unfolding header_size mask_bits largest_in
frame_is h P ep el ek =
    let F = fitting h P in
    record {
      in_use = P.field;
      p_is = ep;
      l_is = el;
      k_is = ek;
      n_is = refl;
      t_is = refl;
      inputs_is = refl;
      masks_is = refl;
      triples_is = refl;
      script_is = refl;
      parties = P.people;
      inputs_most = F.inputs_most;
      masks_most = F.masks_most;
      triples_most = F.triples_most;
      script_most = F.script_most;
      inputs_place = refl;
      masks_place = refl;
      triples_place = refl;
    }

-- the same frame, with its openings worked in another way
pub headed_with : {h : Header} {f : Frame} (o : Opening) → Headed h f → Headed h (record {
  p = f.p;
  l = f.l;
  largest = f.largest;
  n = f.n;
  t = f.t;
  inputs = f.inputs;
  masks = f.masks;
  triples = f.triples;
  script = f.script;
  input = f.input;
  mask = f.mask;
  triple = f.triple;
  opening = o;
})
headed_with o H =
    record {
      in_use = H.in_use;
      p_is = H.p_is;
      l_is = H.l_is;
      k_is = H.k_is;
      n_is = H.n_is;
      t_is = H.t_is;
      inputs_is = H.inputs_is;
      masks_is = H.masks_is;
      triples_is = H.triples_is;
      script_is = H.script_is;
      parties = H.parties;
      inputs_most = H.inputs_most;
      masks_most = H.masks_most;
      triples_most = H.triples_most;
      script_most = H.script_most;
      inputs_place = H.inputs_place;
      masks_place = H.masks_place;
      triples_place = H.triples_place;
    }

pub presented : {h : Header} {f : Frame} {present : ℕ} {o : Opening} → Headed h f → PermittedSet h.n h.t present → (o.present ≡ present) × WorkedBy (modulus h.field) h.n h.t o
    → (f' : Frame) → f'.p ≡ f.p → f'.n ≡ f.n → f'.t ≡ f.t → f'.opening ≡ o → Presented present f'
presented {h} {f} {present} {o} H Q O f' ep en et eo =
    record {
      present_is = rw eo O.0;
      permitted = rw (en, et, H.n_is, H.t_is) Q;
      opens = rw (eo, ep, en, et, H.p_is, H.n_is, H.t_is) O.1;
    }

-- what a frame says of its header
module _ {h : Header} {f : Frame} (H : Headed h f) where
  pub setting_is : {present : ℕ} → f.opening.present ≡ present → setting_with present h ≡ setting_in f
  setting_is e = λ i. record { p = sym H.p_is i; l = sym H.l_is i; n = sym H.n_is i; t = sym H.t_is i; present = sym e i }

  -- input, deal and all rows
  module _ (s : List ℕ) where
    pub inputs_are : input_in h s ≡ inputs_of s f
    unfolding input_in
    inputs_are = rw (H.inputs_place, H.n_is, H.inputs_is, H.script_is)

    pub deal_is : deal_in h s ≡ deal_of s f
    unfolding deal_in
    deal_is = rw (H.triples_place, H.masks_place, H.inputs_place, H.n_is, H.l_is, H.inputs_is, H.masks_is, H.triples_is, H.script_is)

    pub rows_are : inputs_of s f ++ deal_rows (deal_of s f) ≡ rows_at s f.n f.input (f.inputs + f.l * f.masks + 3 * f.triples)
    rows_are =
        let e : f.inputs + f.l * f.masks + 3 * f.triples ≡ f.inputs + (f.l * f.masks + 3 * f.triples) = omega arith in
        ap₂ (λ (x : List Row) (d : Deal). x ++ deal_rows d) (sym inputs_are) (sym deal_is) ∙ all_rows h s
        ∙ rw (e, H.inputs_place, H.n_is, H.l_is, H.inputs_is, H.masks_is, H.triples_is, H.script_is)

  pub modulus_in : Modulus f.p
  modulus_in = rw H.p_is (header_field h H.in_use).modulus_is

  pub bits_in : f.l ≤ 31
  bits_in = rw H.l_is (mask_bits_most h H.in_use)

  pub mask_rows_in : f.l * f.masks ≤ 496
  mask_rows_in = mul-le-mul {n₂ = 31} {m₂ = 16} bits_in H.masks_most

  -- how many rows there are at most
  pub row_count : f.inputs + f.l * f.masks + 3 * f.triples ≤ 2096
  row_count = omega (arith, H, mask_rows_in)

  permitted : Permitted h
  unfolding limits
  permitted =
      record {
        field = H.in_use;
        people = rw (H.n_is, H.t_is) at H.parties;
        counts =
            rw (← H.inputs_is, ← H.masks_is, ← H.triples_is, ← H.script_is)
            (and_both (leb f.inputs 64 && leb f.masks 16 && leb f.triples 512) (leb f.script 1024)
            (and_both (leb f.inputs 64 && leb f.masks 16) (leb f.triples 512)
            (and_both (leb f.inputs 64) (leb f.masks 16) (le→leb f.inputs 64 H.inputs_most) (le→leb f.masks 16 H.masks_most))
            (le→leb f.triples 512 H.triples_most))
            (le→leb f.script 1024 H.script_most));
      }

  pub end_is : f.triple + 4 * f.n * 3 * f.triples ≡ implied_length h
  unfolding implied_length
  end_is = rw (H.triples_place, H.masks_place, H.inputs_place, H.n_is, H.l_is, H.inputs_is, H.masks_is, H.triples_is, H.script_is)

  pub end_most : f.triple + 4 * f.n * 3 * f.triples ≤ 59723
  end_most = rw end_is (length_most h permitted)

-- the limits, test by test
module _ (h : Header) where
  pub inputs_over : 64 < h.inputs → false ≡ limits h
  unfolding limits
  inputs_over a = rw (lt-leb h.inputs 64 a)

  pub masks_over : h.inputs ≤ 64 → 16 < h.masks → false ≡ limits h
  unfolding limits
  masks_over a b = rw (le-leb h.inputs 64 a, lt-leb h.masks 16 b)

  pub triples_over : h.inputs ≤ 64 → h.masks ≤ 16 → 512 < h.triples → false ≡ limits h
  unfolding limits
  triples_over a b c = rw (le-leb h.inputs 64 a, le-leb h.masks 16 b, lt-leb h.triples 512 c)

  pub script_decides : h.inputs ≤ 64 → h.masks ≤ 16 → h.triples ≤ 512 → leb h.script 1024 ≡ limits h
  unfolding limits
  script_decides a b c = rw (le-leb h.inputs 64 a, le-leb h.masks 16 b, le-leb h.triples 512 c)
