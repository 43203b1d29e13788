-- What is known of a header: of its field, of one that 1, 2 and 3 do not refuse, of its limits and places, and of the length that it implies.
-- Assumes nothing.
use mathlib.Core.Path.{◌≡◌, refl, sym, ◌∙◌}
use mathlib.Core.Bool.{Bool, true, ◌&&◌}
use mathlib.Core.List.{List, [], ◌∷◌}
use Prim.Native.Nat.{ℕ, ◌*◌, ◌≤◌}
use native.Mathlib.Nat.{mul-le-mul}
use native.Mathlib.Omega.{arith}
use lib.Dec.{T, leb, leb→le, le→leb}
use lib.ListN.{length}
use Rattle.algebra.proofs.Tests.{and_left, and_right, is_true}
use Rattle.model.specs.Fields.{Field, InUse, Parties, field_tests, setting_tests}
use Rattle.model.specs.Refusing.{first_failed}
use Rattle.model.specs.Sheet.{Header, header_of, header_size, mask_bits, largest_in, setting_of, limits, implied_length, header_tests, Permitted}
use Rattle.model.proofs.Fields.{fields}
use Rattle.model.proofs.Trying.{passes, numbered, holding, all_hold, front_passes, others_pass, setting_passes, setting_field, setting_people}

pub header_field : (h : Header) → InUse h.field → Field (setting_of h).p (mask_bits h) (largest_in h)
unfolding mask_bits largest_in
header_field h f = fields h.field f

pub mask_bits_most : (h : Header) → InUse h.field → mask_bits h ≤ 31
mask_bits_most h f = omega (arith, header_field h f)

-- where 1, 2 and 3 do not refuse
pub record HeaderRead (s : List ℕ) : Type 0 where
  pub long : header_size (header_of s) ≤ length s
  pub field : InUse (header_of s).field
  pub people : Parties (header_of s).n (header_of s).t

pub header_numbered : (s : List ℕ) → T (numbered (header_tests s))
unfolding field_tests setting_tests header_tests numbered
header_numbered s = tt

pub header_read : (s : List ℕ) {r : ℕ} → r ≡ first_failed (header_tests s) → r ≡ 0 → HeaderRead s
unfolding header_tests numbered holding
header_read s e z =
    let h = header_of s in
    let size : List (Bool × ℕ) = (leb (header_size h) (length s), 1) ∷ [] in
    let long = and_left (leb (header_size h) (length s)) true (all_hold 1 size tt (front_passes size _ tt (sym e ∙ z))) in
    let setting = others_pass size (setting_tests h.field h.n h.t) tt (sym e ∙ z) in
    record {
      long = leb→le (header_size h) (length s) long;
      field = setting_field h.field h.n h.t refl setting;
      people = setting_people h.field h.n h.t refl setting;
    }

pub header_passes : (s : List ℕ) → HeaderRead s → first_failed (header_tests s) ≡ 0
unfolding header_tests
header_passes s R =
    let h = header_of s in
    sym (passes 1 _ (is_true _ (le→leb (header_size h) (length s) R.long)) (sym (setting_passes h.field h.n h.t R.field R.people)))

-- the counts within their limits, and what follows for places
pub record Fitting (h : Header) : Type 0 where
  pub inputs_most : h.inputs ≤ 64
  pub masks_most : h.masks ≤ 16
  pub triples_most : h.triples ≤ 512
  pub script_most : h.script ≤ 1024
  pub mask_rows_most : h.n * mask_bits h ≤ 217
  pub inputs_fit : h.n * h.inputs ≤ 448
  pub masks_fit : h.n * mask_bits h * h.masks ≤ 3472
  pub triples_fit : h.n * h.triples ≤ 3584

pub fitting : (h : Header) → Permitted h → Fitting h
unfolding limits
fitting h P =
    let m = P.people.most in
    let t = P.counts in
    let three = and_left (leb h.inputs 64 && leb h.masks 16 && leb h.triples 512) (leb h.script 1024) t in
    let two = and_left (leb h.inputs 64 && leb h.masks 16) (leb h.triples 512) three in
    let a = leb→le h.inputs 64 (and_left (leb h.inputs 64) (leb h.masks 16) two) in
    let b = leb→le h.masks 16 (and_right (leb h.inputs 64) (leb h.masks 16) two) in
    let c = leb→le h.triples 512 (and_right (leb h.inputs 64 && leb h.masks 16) (leb h.triples 512) three) in
    let rows = mul-le-mul {n₂ = 7} {m₂ = 31} m (mask_bits_most h P.field) in
    record {
      inputs_most = a;
      masks_most = b;
      triples_most = c;
      script_most = leb→le h.script 1024 (and_right (leb h.inputs 64 && leb h.masks 16 && leb h.triples 512) (leb h.script 1024) t);
      mask_rows_most = rows;
      inputs_fit = mul-le-mul {n₂ = 7} {m₂ = 64} m a;
      masks_fit = mul-le-mul {n₂ = 217} {m₂ = 16} rows b;
      triples_fit = mul-le-mul {n₂ = 7} {m₂ = 512} m c;
    }

pub length_most : (h : Header) → Permitted h → implied_length h ≤ 59723
unfolding header_size implied_length
length_most h P = omega (arith, fitting h P)
