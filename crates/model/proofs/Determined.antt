-- Trees whose course the deal does not decide: whatever well-formed masks and triples it is given, such a tree masks and reveals the same values, takes
-- as many triples, and ends with a result of the same property.
-- Assumes nothing.
use mathlib.Core.Path.{◌≡◌, refl, ap, ap₂, ◌∙◌}
use mathlib.Core.List.{List, [], ◌∷◌}
use Prim.Native.Nat.{ℕ, suc, ◌+◌, ◌-◌, ◌/◌, ◌^◌, ◌≤◌, ◌<◌}
use native.Mathlib.Nat.{mod-eq_of_lt}
use native.Mathlib.Omega.{arith}
use lib.ListN.{length}
use Rattle.algebra.specs.Ring.{add, mul}
use Rattle.algebra.specs.Lists.{All, none, one, Below}
use Rattle.model.specs.Fields.{Modulus, Parties}
use Rattle.model.specs.Sharing.{Sharing}
use Rattle.model.specs.Trees.{Tree, done, multiply, mask, reveal, Comparison, odd}
use Rattle.model.specs.Trees as Trees
use Rattle.model.specs.Steps.{Setting, Row, Triple, row_ops, plus, minus, value, beaver, spelled}
use Rattle.model.specs.Sheet.{spell, secrets}
use Rattle.model.specs.Plain.{less_from, less}
use Rattle.model.proofs.Polynomials.{positive}
use Rattle.model.proofs.Bits.{bits_of, spell_small}
use Rattle.model.proofs.Unmasking.{spelt, spelt_is}
use Rattle.model.proofs.Each.{no_more, and}
use Rattle.model.proofs.Shared.{Shared, Shareds, TripleOk, shared_plus, shared_minus, shared_zero, shared_beaver, shared_chosen, shared_start, shared_spelled, opens}

-- Masks are sharings of the bits of numbers below B. Whatever well-formed masks and triples it is given, the tree masks the numbers xs, takes n triples,
-- reveals the values vs, and ends with a result that has Q.
pub data Determined (S : Setting) (B : ℕ) {A : Type 0} (Q : A → Type 0) : List ℕ → ℕ → List ℕ → Tree Row A → Type 0 where
  d_done : {a : A} → Q a → Determined S B Q [] 0 [] (done a)
  d_multiply : {xs : List ℕ} {n : ℕ} {vs : List ℕ} {v w : ℕ} {x y : Row} {go : Row → Tree Row A} → Shared S v x → Shared S w y
      → ((z : Row) → Shared S (mul S.p v w) z → Determined S B Q xs n vs (go z)) → Determined S B Q xs (suc n) vs (multiply x y go)
  d_mask : {v : ℕ} {xs : List ℕ} {n : ℕ} {vs : List ℕ} {x : Row} {go : ℕ → List Row → Tree Row A} → Shared S v x
      → ((r : ℕ) (b : List Row) → r < B → Shareds S (bits_of S.l r) b → Determined S B Q xs n vs (go (add S.p v r) b))
      → Determined S B Q (v ∷ xs) n vs (mask x go)
  d_reveal : {xs : List ℕ} {n : ℕ} {vs : List ℕ} {v : ℕ} {x : Row} {T : Tree Row A} → Shared S v x → Determined S B Q xs n vs T
      → Determined S B Q xs n (v ∷ vs) (reveal x T)

pub recount : {S : Setting} {B : ℕ} {A : Type 0} {Q : A → Type 0} {xs : List ℕ} {n n' : ℕ} {vs : List ℕ} {T : Tree Row A} → n' ≡ n
    → Determined S B Q xs n vs T → Determined S B Q xs n' vs T
recount e t = rw e t

-- a well-formed mask: sharings of the bits of a number below B
pub record MaskOk (S : Setting) (B : ℕ) (b : List Row) : Type 0 where
  pub r : ℕ
  pub small : r < B
  pub shareds : Shareds S (bits_of S.l r) b

pub secrets_are : {S : Setting} {vs : List ℕ} {xs : List Row} → Shareds S vs xs → secrets S xs ≡ vs
unfolding secrets
secrets_are no_more = refl
secrets_are (and X Xs) = ap₂ {C = List ℕ} ◌∷◌ X.is (secrets_are Xs)

pub all_sharings : {S : Setting} {vs : List ℕ} {xs : List Row} → Shareds S vs xs → All (Sharing S.p S.n S.t) xs
all_sharings no_more = none
all_sharings (and X Xs) = one X.sharing (all_sharings Xs)

-- What is used of the numbers that masks spell: they have l bits, and are below p.
pub record Bounds (p l B : ℕ) : Type 0 where
  pub modulus_is : Modulus p
  pub bits : B ≤ 2 ^ l
  pub below : B ≤ p

pub mask_number : {S : Setting} {B : ℕ} {b : List Row} → Bounds S.p S.l B → (ok : MaskOk S B b) → spell (secrets S b) ≡ ok.r
mask_number {S} N ok = ap spell (secrets_are ok.shareds) ∙ spell_small S.l ok.r (omega (arith, ok.small, N.bits))

module _ (S : Setting) {B : ℕ} (N : Bounds S.p S.l B) (P : Parties S.n S.t) where
  -- what is opened with a mask
  pub shared_masked : {v r : ℕ} {x : Row} {b : List Row} → Shared S v x → r < B → Shareds S (bits_of S.l r) b → Shared S (add S.p v r) (plus S x (spelled S b))
  shared_masked {v} {r} X l Bs =
      let e : spelt S.p (bits_of S.l r) ≡ r =
      spelt_is (positive N.modulus_is) (bits_of S.l r) ∙ rw (spell_small S.l r (omega (arith, N.bits))) (mod-eq_of_lt (omega (arith, N.below))) in
      rw e at (shared_plus S N.modulus_is P X (shared_spelled S N.modulus_is P Bs))

  -- what a product leaves
  pub shared_product : {x y : Row} {v w : ℕ} → Shared S v x → Shared S w y → (t : Triple) → TripleOk S t → {a1 b1 : ℕ} → a1 ≡ value S (minus S x t.a)
      → b1 ≡ value S (minus S y t.b) → Shared S (mul S.p v w) (beaver S a1 b1 t)
  shared_product {v = v} {w} X Y t ok ea eb =
      let M = N.modulus_is in
      shared_beaver S M P v w t ok
      (ea ∙ opens S M P (shared_minus S M P X (record { sharing = ok.a_sharing_lem; is = refl })))
      (eb ∙ opens S M P (shared_minus S M P Y (record { sharing = ok.b_sharing; is = refl })))

-- A comparison leaves BITLT's value of bits, and takes so many triples for their number.
pub record DeterminedComparison (S : Setting) (B : ℕ) {A : Type 0} (Q : A → Type 0) (triples : ℕ → ℕ) (BITLT : Comparison Row A) : Type 0 where
  pub determined : {xs : List ℕ} {n : ℕ} {vs : List ℕ} (v : ℕ) {bs : List ℕ} {rows : List Row} {go : Row → Tree Row A}
      → 1 ≤ length bs → v < 2 ^ length bs → Below 2 bs → Shareds S bs rows
      → ((z : Row) → Shared S (less S.p v bs) z → Determined S B Q xs n vs (go z)) → Determined S B Q xs (triples (length bs) + n) vs (BITLT v rows go)

module _ (S : Setting) (M : Modulus S.p) (P : Parties S.n S.t) {B : ℕ} {A : Type 0} {Q : A → Type 0} where
  module _ {xs : List ℕ} {n : ℕ} {vs : List ℕ} {go : Row → Tree Row A} where
    determined_from : (v : ℕ) {bs : List ℕ} {rows : List Row} {lt : ℕ} {y : Row} → Shareds S bs rows → Shared S lt y
        → ((z : Row) → Shared S (less_from S.p v bs lt) z → Determined S B Q xs n vs (go z))
        → Determined S B Q xs (length bs + n) vs (Trees.comparison_from (row_ops S) v rows y go)
    unfolding Trees.comparison_from less_from
    determined_from v no_more L h = recount (omega arith) (h _ L)
    determined_from v (and {xs = bs} Y Ys) L h =
        recount {n = suc (length bs + n)} (omega arith)
        (d_multiply Y L (λ q q-is. determined_from (v / 2) Ys (shared_chosen S M P (odd v) Y L q-is) h))

    -- BITLT, of bits or of anything
    pub determined_comparison : (v : ℕ) {bs : List ℕ} {rows : List Row} → Shareds S bs rows
        → ((z : Row) → Shared S (less S.p v bs) z → Determined S B Q xs n vs (go z))
        → Determined S B Q xs ((length bs - 1) + n) vs (Trees.comparison (row_ops S) v rows go)
    unfolding Trees.comparison less
    determined_comparison v no_more h = recount (omega arith) (h _ (shared_zero S M P))
    determined_comparison v (and {xs = bs} Y Ys) h =
        recount {n = length bs + n} (omega arith) (determined_from (v / 2) Ys (shared_start S M P (odd v) Y) h)

  pub comparison_determined : DeterminedComparison S B Q (λ w. w - 1) (Trees.comparison (row_ops S))
  comparison_determined = record { determined = λ v low high bits Bs h. determined_comparison v Bs h }
