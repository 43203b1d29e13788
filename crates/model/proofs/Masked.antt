-- MOD on the values of rows: whatever the mask, the plain interpreter's formula.
-- Assumes nothing.
use mathlib.Core.Path.{◌≡◌, ◌∙◌}
use mathlib.Core.List.{List, ◌∷◌}
use Prim.Native.Nat.{ℕ, suc, ◌+◌, ◌-◌, ◌^◌, ◌≤◌, ◌<◌}
use native.Mathlib.Nat.{mod-lt}
use native.Mathlib.Omega.{arith}
use lib.ListN.{length, take}
use lib.Pow.{pow_pos, pow_mono}
use lib.Seq.{length-take-le}
use Rattle.algebra.specs.Ring.{add}
use Rattle.algebra.proofs.Ring.{add_lt}
use Rattle.model.specs.Fields.{Field, Modulus, Parties}
use Rattle.model.specs.Trees.{Tree, Comparison, Remainder}
use Rattle.model.specs.Trees as Trees
use Rattle.model.specs.Steps.{Setting, Row, row_ops, row_remainder}
use Rattle.model.specs.Costs.{mod_triples}
use Rattle.model.specs.Plain.{rem}
use Rattle.model.proofs.Operands.{Ranges}
use Rattle.model.proofs.Polynomials.{positive}
use Rattle.model.proofs.Bits.{bits_of, length_bits, below_bits, below_take, spell_small}
use Rattle.model.proofs.Unmasking.{spelt, unmask, spelt_mask, unmask_is, masking_bits}
use Rattle.model.proofs.Each.{each_take}
use Rattle.model.proofs.Shared.{Shared, shared_plus, shared_minus, shared_times, shared_constant, shared_spelled}
use Rattle.model.proofs.Determined.{Determined, d_multiply, d_mask, recount, Bounds, DeterminedComparison, comparison_determined}

-- A MOD masks a + 2^(k−1) and leaves the plain interpreter's remainder, and takes so many triples for its m. 2^m is below p for m up to K, so that
-- BLOCKS can add 2^m − 1 as a constant.
pub record DeterminedMod (S : Setting) (B K : ℕ) {A : Type 0} (Q : A → Type 0) (triples : ℕ → ℕ) (MOD : Remainder Row A) : Type 0 where
  pub power_lt : (m : ℕ) → m ≤ K → 2 ^ m < S.p
  pub determined : {xs : List ℕ} {n : ℕ} {vs : List ℕ} (k m : ℕ) → Ranges K k m → {a : ℕ} {x : Row} {go : Row → Tree Row A} → Shared S a x
      → ((z : Row) → Shared S (rem S.p k m a) z → Determined S B Q xs n vs (go z))
      → Determined S B Q (add S.p a (2 ^ (k - 1)) ∷ xs) (triples m + n) vs (MOD k m x go)

-- the numbers of whole-field masks are those below p
pub whole_field : {p l K : ℕ} → Field p l K → Bounds p l p
whole_field F = record { modulus_is = F.modulus_is; bits = omega (arith, F.bits_hold); below = omega arith }

module _ (S : Setting) {K : ℕ} (F : Field S.p S.l K) (P : Parties S.n S.t) where
  abbrev M : Modulus S.p
  M = F.modulus_is

  power_lt : (m : ℕ) → m ≤ K → 2 ^ m < S.p
  power_lt m h = omega (arith, pow_mono {i = m} {j = K} h, F.range_fits)

  -- MOD's last line, of a mask r
  unmask_mask : (k m a r : ℕ) → Ranges K k m → r < S.p → unmask S.p m (add S.p (add S.p a (2 ^ (k - 1))) r) (bits_of S.l r) ≡ rem S.p k m a
  unmask_mask k m a r R h =
      let B = masking_bits F r h in
      let e : spelt S.p (bits_of S.l r) ≡ r = spelt_mask F B ∙ spell_small S.l r (omega (arith, F.bits_hold)) in
      rw e at (unmask_is F B k m a R.k_most R.m_least R.m_most)

  module _ {A : Type 0} {Q : A → Type 0} where
    -- MOD with any comparison: one of ℓ bits, two of m bits, and a product
    remainder_by : {count triples : ℕ → ℕ} {BITLT : Comparison Row A} → DeterminedComparison S S.p Q count BITLT
        → ((m : ℕ) → 1 ≤ m → triples m ≡ count S.l + (count m + (count m + 1)))
        → DeterminedMod S S.p K Q triples (Trees.remainder S.p (row_ops S) BITLT)
    unfolding Trees.remainder unmask
    remainder_by {count} {triples} D many =
        record {
          power_lt = power_lt;
          determined = λ {xs} {n} {vs} k m R {a} {x} {go} X h.
              d_mask {n = triples m + n} (shared_plus S M P X (shared_constant S M P (power_lt (k - 1) (omega (arith, R.k_most))))) λ r b hr Bs.
              let C = add S.p (add S.p a (2 ^ (k - 1))) r in
              let hC : C < S.p = add_lt (add S.p a (2 ^ (k - 1))) r (positive M) in
              let bits = bits_of S.l r in
              let low = take m bits in
              let all : length bits ≡ S.l = length_bits S.l r in
              let len : length low ≡ m = length-take-le m bits (omega (arith, R.m_most, R.k_most, F.k_is)) in
              let low_bits = below_take m bits (below_bits S.l r) in
              recount {n = count (length bits) + (count (length low) + (count (length low) + suc n))} (rw (all, len) (omega (arith, many m R.m_least)))
              (D.determined _ (omega (arith, F.k_is, F.k_least)) (rw all (omega (arith, F.bits_hold))) (below_bits S.l r) Bs λ f f-is.
              D.determined _ (omega (arith, R.m_least)) (rw len (mod-lt C (pow_pos m))) low_bits (each_take m Bs) λ u0 u0-is.
              D.determined _ (omega (arith, R.m_least)) (rw len (mod-lt (C + S.p) (pow_pos m))) low_bits (each_take m Bs) λ u1 u1-is.
              d_multiply f-is (shared_minus S M P u1-is u0-is) λ g g-is.
              let c0 = shared_constant S M P (omega (arith, power_lt m (omega (arith, R.m_most, R.k_most)), mod-lt C (pow_pos m))) in
              let Z = shared_plus S M P
              (shared_minus S M P (shared_plus S M P c0 (shared_times S M P _ f-is)) (shared_spelled S M P (each_take m Bs)))
              (shared_times S M P (2 ^ m) (shared_plus S M P u0-is g-is)) in
              h _ (record { sharing = Z.sharing; is = Z.is ∙ unmask_mask k m a r R hr }));
        }

    pub remainder_determined : DeterminedMod S S.p K Q (mod_triples S.l) (row_remainder S)
    remainder_determined = remainder_by (comparison_determined S M P) (λ m h. omega (arith, F.k_is))
