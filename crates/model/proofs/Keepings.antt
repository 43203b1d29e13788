-- A row, a triple and a mask with a set's shares kept and other secrets: so made that they open with one operand what was opened with another. The same
-- from the second operand to the first undoes it.
-- Assumes nothing.
use mathlib.Core.Path.{◌≡◌, refl, sym, ap, ap₂, ◌∙◌}
use mathlib.Core.List.{List, [], ◌∷◌}
use Prim.Native.Nat.{ℕ, ◌<◌}
use native.Mathlib.Omega.{arith}
use lib.ListN.{length}
use Rattle.algebra.specs.Ring.{add, sub, mul}
use Rattle.algebra.specs.Lists.{Below}
use Rattle.algebra.proofs.Ring.{ring, mod-ring, reduced, sub_lt, mul_lt}
use Rattle.algebra.proofs.Lists.{below_head, below_tail}
use Rattle.model.specs.Fields.{Modulus, Parties}
use Rattle.model.specs.Sharing.{Sharing, value_from}
use Rattle.model.specs.Shamir.{Group, Agree}
use Rattle.model.specs.Steps.{Setting, Row, Triple, plus, minus, value, spelled}
use Rattle.model.specs.Secrecy.{Alike, end}
use Rattle.model.specs.Secrecy as Secrecy
use Rattle.model.proofs.Polynomials.{positive, eval_lt}
use Rattle.model.proofs.Sharings.{secret_lt, keeping, sharing_keeping, secret_keeping, keeping_agrees, unique}
use Rattle.model.proofs.Bits.{bits_of, length_bits, below_bits}
use Rattle.model.proofs.Each.{no_more, and, each_length}
use Rattle.model.proofs.Shared.{Shared, Shareds, TripleOk, shared_minus, value_secret, opens}
use Rattle.model.proofs.Pairs.{paired_spelled}
use Rattle.model.proofs.Agreeing.{agree_sym, agree_trans, alike_each, agree_plus, agree_minus, agree_keep}
use Rattle.model.proofs.Determined.{MaskOk, shared_masked}
use Rattle.model.proofs.Partners.{Space}

-- what is opened where x is masked with b
abbrev pub masked_with : (S : Setting) → Row → List Row → Row
masked_with S x b = plus S x (spelled S b)

module _ (S : Setting) (set : List ℕ) where
  abbrev keep : Row → ℕ → Row
  keep x v = keeping S.p S.n set x v

  -- rows that keep the set's shares and share the values vs
  unfoldable pub keepings : List Row → List ℕ → List Row
  keepings [] vs = []
  keepings (x ∷ xs) [] = []
  keepings (x ∷ xs) (v ∷ vs) = keep x v ∷ keepings xs vs

  -- the triple that keeps the set's shares of t and opens v and w where x and y are multiplied
  unfoldable pub kept_triple : Row → Row → ℕ → ℕ → Triple → Triple
  kept_triple x y v w t =
      let a = sub S.p (value S x) v in
      let b = sub S.p (value S y) w in
      record { a = keep t.a a; b = keep t.b b; c = keep t.c (mul S.p a b) }

  -- the mask that keeps the set's shares of b and opens C where x is masked
  unfoldable pub kept_mask : Row → ℕ → List Row → List Row
  kept_mask x C b = keepings b (bits_of S.l (sub S.p C (value S x)))

  -- t' is well formed, keeps the set's shares of t, and opens with x' and y' what t opens with x and y; and t is got back from it.
  pub record TripleImage (x y x' y' : Row) (t t' : Triple) : Type 0 where
    pub ok : TripleOk S t'
    pub a_kept : Agree set t.a t'.a
    pub b_kept : Agree set t.b t'.b
    pub c_kept : Agree set t.c t'.c
    pub left : minus S x' t'.a ≡ minus S x t.a
    pub right : minus S y' t'.b ≡ minus S y t.b
    pub back : kept_triple x y (value S (minus S x t.a)) (value S (minus S y t.b)) t' ≡ t

  -- The same of a mask b of the number r, with x and x' that share X and X'.
  pub record MaskImage (B : ℕ) (Opens : ℕ → ℕ → ℕ → ℕ → Type 0) (X X' r : ℕ) (x x' : Row) (b b' : List Row) : Type 0 where
    pub ok : MaskOk S B b'
    pub partner : Opens X r X' ok.r
    pub kept : Alike set b b'
    pub same : masked_with S x' b' ≡ masked_with S x b
    pub first : value S (masked_with S x b) ≡ add S.p X r
    pub second : value S (masked_with S x b) ≡ add S.p X' ok.r
    pub back : kept_mask x (value S (masked_with S x b)) b' ≡ b

module _ (S : Setting) (M : Modulus S.p) (P : Parties S.n S.t) where
  abbrev IsSharing : Row → Type 0
  IsSharing x = Sharing S.p S.n S.t x

  of : {x : Row} → IsSharing x → Shared S (value S x) x
  of s = record { sharing = s; is = sym (value_secret S M P s) }

  pub shared_lt : {v : ℕ} {x : Row} → Shared S v x → v < S.p
  shared_lt {x = x} X = rw X.is at (secret_lt M P x)

  value_lt : (x : Row) → value S x < S.p
  unfolding value value_from
  value_lt x = eval_lt (positive M) _ 0

  -- a value taken from another twice, and a sum's other part
  less_twice : (v : ℕ) {c : ℕ} → c < S.p → sub S.p v (sub S.p v c) ≡ c
  less_twice v l = let h = positive M in reduced l (simp mod-ring (ring h _ _ _ _ (omega arith)))

  sum_less : (v : ℕ) {r : ℕ} → r < S.p → sub S.p (add S.p v r) v ≡ r
  sum_less v l = let h = positive M in reduced l (simp mod-ring (ring h _ _ _ _ (omega arith)))

  -- a's value, from what is opened where a is taken from x
  minus_back : {x a : Row} → IsSharing x → IsSharing a → sub S.p (value S x) (value S (minus S x a)) ≡ value S a
  minus_back {x} {a} s t = ap (sub S.p (value S x)) (opens S M P (shared_minus S M P (of s) (of t))) ∙ less_twice (value S x) (value_lt a)

  module _ {set : List ℕ} (G : Group S.n S.t set) where
    -- two sharings of one value that agree are one row
    pub same_row : {v : ℕ} {x y : Row} → Shared S v x → Shared S v y → Agree set x y → x ≡ y
    same_row X Y a = unique M P G X.sharing Y.sharing a (X.is ∙ sym Y.is)

    -- one row, and back
    keep_shared : (x : Row) {v : ℕ} → v < S.p → Shared S v (keep S set x v)
    keep_shared x l = record { sharing = sharing_keeping M P G x _; is = secret_keeping M P G x l }

    keep_agree : {x : Row} (v : ℕ) → IsSharing x → Agree set x (keep S set x v)
    keep_agree v s = keeping_agrees M P G v s

    keep_back : {x y : Row} {v : ℕ} → Shared S v x → IsSharing y → Agree set x y → keep S set y v ≡ x
    keep_back {v = v} X s a = same_row (keep_shared _ (shared_lt X)) X (agree_sym (agree_trans a (keep_agree v s)))

    -- many rows, and back
    keepings_shared : (xs : List Row) (vs : List ℕ) → length xs ≡ length vs → Below 2 vs → Shareds S vs (keepings S set xs vs)
    unfolding keepings
    keepings_shared [] [] e B = no_more
    keepings_shared [] (v ∷ vs) e B = absurd (omega arith)
    keepings_shared (x ∷ xs) [] e B = absurd (omega arith)
    keepings_shared (x ∷ xs) (v ∷ vs) e B =
        and {x = v} (keep_shared x (omega (arith, below_head B, M.above))) (keepings_shared xs vs (omega arith) (below_tail B))

    keepings_alike : {ws : List ℕ} {xs : List Row} (vs : List ℕ) → Shareds S ws xs → length xs ≡ length vs → Alike set xs (keepings S set xs vs)
    unfolding keepings
    keepings_alike [] no_more e = end
    keepings_alike (v ∷ vs) no_more e = absurd (omega arith)
    keepings_alike [] (and X Xs) e = absurd (omega arith)
    keepings_alike (v ∷ vs) (and X Xs) e = Secrecy.row (keep_agree v X.sharing) (keepings_alike vs Xs (omega arith))

    keepings_back : {vs ws : List ℕ} {xs ys : List Row} → Shareds S vs xs → Shareds S ws ys → Alike set xs ys → keepings S set ys vs ≡ xs
    unfolding keepings
    keepings_back no_more Ys end = refl
    keepings_back (and X Xs) (and Y Ys) (Secrecy.row a as') = ap₂ {C = List Row} ◌∷◌ (keep_back X Y.sharing a) (keepings_back Xs Ys as')
    keepings_back (and {y = y} {xs = xs} {ys = ys} X Xs) no_more x9 = elim x9 [ ]

    -- a row of a triple opens with x' what a opens with x
    minus_same : {x x' a : Row} → IsSharing x → IsSharing x' → Agree set x x' → IsSharing a
        → minus S x' (keep S set a (sub S.p (value S x') (value S (minus S x a)))) ≡ minus S x a
    minus_same {x} {x'} {a} s s' e t =
        let D = shared_minus S M P (of s) (of t) in
        let D' = shared_minus S M P (of s') (keep_shared a (sub_lt (value S x') (value S (minus S x a)) (positive M))) in
        same_row (rw (less_twice (value S x') (value_lt (minus S x a))) at D') (of D.sharing)
        (agree_minus S G (agree_sym e) (agree_sym (keep_agree _ t)))

    pub triple_image : {v w v' w' : ℕ} {x y x' y' : Row} → Shared S v x → Shared S w y → Shared S v' x' → Shared S w' y' → Agree set x x'
        → Agree set y y' → (t : Triple) → TripleOk S t
        → TripleImage S set x y x' y' t (kept_triple S set x' y' (value S (minus S x t.a)) (value S (minus S y t.b)) t)
    unfolding kept_triple
    triple_image {x = x} {y} {x'} {y'} X Y X' Y' ex ey t ok =
        let h = positive M in
        let a = sub S.p (value S x') (value S (minus S x t.a)) in
        let b = sub S.p (value S y') (value S (minus S y t.b)) in
        let A = keep_shared t.a {v = a} (sub_lt (value S x') (value S (minus S x t.a)) h) in
        let B = keep_shared t.b {v = b} (sub_lt (value S y') (value S (minus S y t.b)) h) in
        let C = keep_shared t.c (mul_lt a b h) in
        let c-is : Shared S (mul S.p (value S t.a) (value S t.b)) t.c = record { sharing = ok.c_sharing; is = rw (value_secret S M P ok.a_sharing_lem, value_secret S M P ok.b_sharing) ok.good } in
        record {
          ok =
              record {
                a_sharing_lem = A.sharing;
                b_sharing = B.sharing;
                c_sharing = C.sharing;
                good = C.is ∙ ap₂ (mul S.p) (sym A.is) (sym B.is);
              };
          a_kept = keep_agree _ ok.a_sharing_lem;
          b_kept = keep_agree _ ok.b_sharing;
          c_kept = keep_agree _ ok.c_sharing;
          left = minus_same X.sharing X'.sharing ex ok.a_sharing_lem;
          right = minus_same Y.sharing Y'.sharing ey ok.b_sharing;
          back =
              rw (minus_back X.sharing ok.a_sharing_lem, minus_back Y.sharing ok.b_sharing)
              (λ i. record {
                a = keep_back (of ok.a_sharing_lem) A.sharing (keep_agree _ ok.a_sharing_lem) i;
                b = keep_back (of ok.b_sharing) B.sharing (keep_agree _ ok.b_sharing) i;
                c = keep_back c-is C.sharing (keep_agree _ ok.c_sharing) i;
              });
        }

module _ (S : Setting) {B : ℕ} {Opens : ℕ → ℕ → ℕ → ℕ → Type 0} (N : Space S.p S.l B Opens) (P : Parties S.n S.t) {set : List ℕ}
    (G : Group S.n S.t set) where
  pub mask_image : {X X' : ℕ} {x x' : Row} → Shared S X x → Shared S X' x' → Agree set x x' → (b : List Row) (ok : MaskOk S B b) (r' : ℕ) → r' < B
      → Opens X ok.r X' r' → MaskImage S set B Opens X X' ok.r x x' b (kept_mask S set x' (value S (masked_with S x b)) b)
  unfolding kept_mask
  mask_image {X} {X'} {x} {x'} sx sx' ex b ok r' small q =
      let M = N.bounds.modulus_is in
      let bits = bits_of S.l r' in
      let sum : add S.p X ok.r ≡ add S.p X' r' = N.same q in
      let Y = shared_masked S N.bounds P sx ok.small ok.shareds in
      let first : value S (masked_with S x b) ≡ add S.p X ok.r = opens S M P Y in
      let is : sub S.p (value S (masked_with S x b)) (value S x) ≡ ok.r =
      rw (first, opens S M P sx) (sum_less S M P X (omega (arith, N.bounds.below, ok.small))) in
      let is' : sub S.p (value S (masked_with S x b)) (value S x') ≡ r' =
      rw (first, opens S M P sx', sum) (sum_less S M P X' (omega (arith, N.bounds.below, small))) in
      let len : length b ≡ length bits = each_length ok.shareds ∙ length_bits S.l ok.r ∙ sym (length_bits S.l r') in
      let R : Shareds S bits (keepings S set b bits) = keepings_shared S M P G b bits len (below_bits S.l r') in
      let kept : Alike set b (keepings S set b bits) = keepings_alike S M P G bits ok.shareds len in
      rw is'
      (record {
        ok = record { r = r'; small = small; shareds = R };
        partner = q;
        kept = kept;
        same = same_row S M P G (rw (sym sum) at (shared_masked S N.bounds P sx' small R)) Y
            (agree_plus S G (agree_sym ex) (agree_sym (paired_spelled S.p (agree_keep S G) (alike_each kept))));
        first = first;
        second = first ∙ sum;
        back = rw is (keepings_back S M P G ok.shareds R kept);
      })
