-- Encode and decode: what they accept, and that they undo each other as entries.
-- Assumes nothing.
use mathlib.Core.Path.{◌≡◌, refl, ◌∙◌}
use mathlib.Core.Bool.{true}
use Prim.Native.Nat.{ℕ, ◌≤◌, ◌<◌}
use lib.Dec.{T, ltb, leb, ltb→lt, lt→ltb, leb→le, le→leb}
use lib.IntN.{ℤ}
use Rattle.algebra.specs.Lists.{none, one}
use Rattle.algebra.proofs.Tests.{and_left, and_right}
use Rattle.model.specs.Fields.{modulus, largest_k, InUse, field_tests}
use Rattle.model.specs.Coding.{in_range, code, read_back}
use Rattle.model.specs.Entries.{encode_tests, encode_number, encode_value, decode_tests, decode_number, decode_value}
use Rattle.model.specs.Shamir.{EveryCodeEntry}
use Rattle.model.proofs.Coding.{every_coding}
use Rattle.model.proofs.Trying.{given_done, numbered, holding, all_hold, all_pass, both_pass, front_passes, field_numbered, field_passed, field_passes}

-- what encode accepts, and what decode does
pub record Encodes (f k : ℕ) (a : ℤ) : Type 0 where
  pub field : InUse f
  pub least : 2 ≤ k
  pub most : k ≤ largest_k f
  pub range : T (in_range k a)

pub record Decodes (f v : ℕ) : Type 0 where
  pub field : InUse f
  pub below : v < modulus f

module _ (f k : ℕ) (a : ℤ) where
  pub encode_accepted : encode_number f k a ≡ 0 → Encodes f k a
  unfolding field_tests encode_tests holding numbered
  encode_accepted e =
      let t = all_hold 11 (encode_tests f k a) tt e in
      let m = and_right (leb 2 k) _ t in
      record {
        field = field_passed f refl (front_passes (field_tests f) _ (field_numbered f) e);
        least = leb→le 2 k (and_left (leb 2 k) _ t);
        most = leb→le k (largest_k f) (and_left (leb k (largest_k f)) _ m);
        range = and_left (in_range k a) true (and_right (leb k (largest_k f)) _ m);
      }

  pub encode_accepts : Encodes f k a → encode_number f k a ≡ 0
  unfolding encode_tests
  encode_accepts A =
      both_pass (field_tests f) _ (field_passes f A.field)
      (all_pass (one (le→leb 2 k A.least) (one (le→leb k (largest_k f) A.most) (one A.range none))))

  pub encode_value_lem : encode_number f k a ≡ 0 → encode_value f k a ≡ code (modulus f) a
  unfolding encode_value
  encode_value_lem e = given_done _ _ _ e

module _ (f v : ℕ) where
  pub decode_accepted : decode_number f v ≡ 0 → Decodes f v
  unfolding field_tests decode_tests holding numbered
  decode_accepted e =
      record {
        field = field_passed f refl (front_passes (field_tests f) _ (field_numbered f) e);
        below = ltb→lt v (modulus f) (and_left (ltb v (modulus f)) true (all_hold 5 (decode_tests f v) tt e));
      }

  pub decode_accepts : Decodes f v → decode_number f v ≡ 0
  unfolding decode_tests
  decode_accepts A = both_pass (field_tests f) _ (field_passes f A.field) (all_pass (one (lt→ltb v (modulus f) A.below) none))

  pub decode_value_lem : decode_number f v ≡ 0 → decode_value f v ≡ read_back (modulus f) v
  unfolding decode_value
  decode_value_lem e = given_done _ _ _ e

module _ (f : ℕ) (h : InUse f) where
  decoded : (k : ℕ) (a : ℤ) → encode_number f k a ≡ 0 → (decode_number f (encode_value f k a) ≡ 0) × (decode_value f (encode_value f k a) ≡ a)
  decoded k a e =
      let A = encode_accepted f k a e in
      let C = every_coding f h in
      let N = decode_accepts f (code (modulus f) a) (record { field = h; below = C.below a }) in
      rw (encode_value_lem f k a e) (N, decode_value_lem f (code (modulus f) a) N ∙ C.reading_undoes k a A.least A.most A.range)

  encoded : (k v : ℕ) → 2 ≤ k → k ≤ largest_k f → decode_number f v ≡ 0 → T (in_range k (decode_value f v))
      → (encode_number f k (decode_value f v) ≡ 0) × (encode_value f k (decode_value f v) ≡ v)
  encoded k v l m e t =
      let N = encode_accepts f k (decode_value f v) (record { field = h; least = l; most = m; range = t }) in
      (N, encode_value_lem f k (decode_value f v) N ∙ rw (decode_value_lem f v e) ((every_coding f h).coding_undoes v (decode_accepted f v e).below))

pub every_code_entry : EveryCodeEntry
every_code_entry f h = record { decode_undoes = decoded f h; encode_undoes = encoded f h }
