-- What a tree takes from the front of the deal and how many rows it opens, whatever its operands and the deal are, if masks have their bits: shown once
-- for all trees. So what the steps really take and open.
-- Assumes nothing.
use mathlib.Core.Path.{◌≡◌, refl, ap, ◌∙◌}
use mathlib.Core.List.{List, [], ◌∷◌, ◌++◌}
use Prim.Native.Nat.{ℕ, zero, suc, ◌+◌, ◌-◌, ◌*◌, ◌/◌, ◌≤◌}
use native.Mathlib.Omega.{arith}
use lib.ListN.{length, take, drop, length-take}
use lib.Seq.{drop-nil, drop-drop}
use Rattle.algebra.specs.Lists.{All, none, one, first, others}
use Rattle.algebra.proofs.Rows.{length_row}
use Rattle.model.specs.Trees.{Ops, Tree, done, multiply, mask, Remainder, odd}
use Rattle.model.specs.Trees as Trees
use Rattle.model.specs.Costs.{mod_triples}
use Rattle.model.specs.Steps.{Setting, Row, Deal, row_ops, by_rows, Step, step_of, row_remainder, plus, minus, product, comparison, remainder, floor, sign, over, blocks}
use Rattle.model.proofs.StepLaws.{made}

-- a row of seven cells
abbrev pub Seven : Row → Type 0
Seven x = length x ≡ 7

-- m masks and k triples are gone from the front of the deal d
pub record Used (d : Deal) (m k : ℕ) (d' : Deal) : Type 0 where
  pub masks : d'.masks ≡ drop m d.masks
  pub triples : d'.triples ≡ drop k d.triples

pub used_then : {d d' d'' : Deal} {m k m' k' : ℕ} → Used d m k d' → Used d' m' k' d'' → Used d (m + m') (k + k') d''
used_then {d} {m = m} {k} {m'} {k'} A B =
    record {
      masks = B.masks ∙ ap (drop m') A.masks ∙ drop-drop m' m d.masks;
      triples = B.triples ∙ ap (drop k') A.triples ∙ drop-drop k' k d.triples;
    }

-- a step on the deal d took m masks and k triples, and opened o rows
pub record Took (d : Deal) (m k o : ℕ) (s : Step) : Type 0 where
  pub used : Used d m k s.deal
  pub opens : length s.opened ≡ o
  pub rows : All Seven s.opened

pub drop_others : {A : Type 0} (k : ℕ) (xs : List A) → drop k (others xs) ≡ drop (suc k) xs
drop_others k [] = drop-nil k
drop_others k (x ∷ xs) = refl

pub all_append : {A : Type 0} {P : A → Type 0} {xs ys : List A} → All P xs → All P ys → All P (xs ++ ys)
all_append none qs = qs
all_append (one p ps) qs = one p (all_append ps qs)

-- The tree takes m masks of l bits and n triples, and reveals nothing, whatever it is given.
pub data Takes (l : ℕ) {X A : Type 0} : ℕ → ℕ → Tree X A → Type 0 where
  t_done : {a : A} → Takes l 0 0 (done a)
  t_multiply : {m n : ℕ} {x y : X} {go : X → Tree X A} → ((z : X) → Takes l m n (go z)) → Takes l m (suc n) (multiply x y go)
  t_mask : {m n : ℕ} {x : X} {go : ℕ → List X → Tree X A} → ((C : ℕ) (b : List X) → length b ≡ l → Takes l m n (go C b)) → Takes l (suc m) n (mask x go)

recount : {l : ℕ} {X A : Type 0} {m n n' : ℕ} {T : Tree X A} → n' ≡ n → Takes l m n T → Takes l m n' T
recount e t = rw e t

-- one lemma for each builder
module _ (p l : ℕ) {X : Type 0} (O : Ops X) {A : Type 0} where
  module _ {m n : ℕ} {go : X → Tree X A} where
    takes_from : (v : ℕ) (bits : List X) (lt : X) → ((z : X) → Takes l m n (go z)) → Takes l m (length bits + n) (Trees.comparison_from O v bits lt go)
    unfolding Trees.comparison_from
    takes_from v [] lt h = recount (omega arith) (h lt)
    takes_from v (b ∷ bs) lt h = recount {n = suc (length bs + n)} (omega arith) (t_multiply (λ q. takes_from (v / 2) bs (Trees.chosen O (odd v) b lt q) h))

    pub takes_comparison : (v : ℕ) (bits : List X) → ((z : X) → Takes l m n (go z)) → Takes l m ((length bits - 1) + n) (Trees.comparison O v bits go)
    unfolding Trees.comparison
    takes_comparison v [] h = recount (omega arith) (h _)
    takes_comparison v (b ∷ bs) h = recount {n = length bs + n} (omega arith) (takes_from (v / 2) bs _ h)

  -- a MOD takes one mask, and so many triples for its m
  pub record TakesMod (triples : ℕ → ℕ) (MOD : Remainder X A) : Type 0 where
    pub takes : {i n : ℕ} (k m : ℕ) (a : X) {go : X → Tree X A} → 1 ≤ m → m ≤ l → ((z : X) → Takes l i n (go z)) → Takes l (suc i) (triples m + n) (MOD k m a go)

  -- "ℓ + 2m − 2 triples"
  pub takes_remainder : TakesMod (mod_triples l) (Trees.remainder p O (Trees.comparison O))
  unfolding Trees.remainder
  takes_remainder =
      record {
        takes = λ {i} {n} k m a low high h. t_mask {n = mod_triples l m + n} (λ C r e.
            let w : length (take m r) ≡ m = length-take m r ∙ omega arith in
            recount {n = (length r - 1) + ((length (take m r) - 1) + ((length (take m r) - 1) + suc n))} (omega arith)
            (takes_comparison _ r λ f.
            takes_comparison _ (take m r) λ u0.
            takes_comparison _ (take m r) λ u1.
            t_multiply λ g. h _));
      }

  -- what rests on MOD takes the same
  module _ {triples : ℕ → ℕ} {MOD : Remainder X A} (M : TakesMod triples MOD) {i n : ℕ} {go : X → Tree X A} (h : (z : X) → Takes l i n (go z)) where
    pub takes_floor : (k m : ℕ) (a : X) → 1 ≤ m → m ≤ l → Takes l (suc i) (triples m + n) (Trees.floor p O MOD k m a go)
    unfolding Trees.floor
    takes_floor k m a low high = M.takes k m a low high (λ z. h _)

  module _ {triples : ℕ → ℕ} {MOD : Remainder X A} (M : TakesMod triples MOD) {i n : ℕ} {go : X → Tree X A} (h : (z : X) → Takes l i n (go z)) where
    pub takes_sign : (k : ℕ) (a : X) → 1 ≤ k - 1 → k - 1 ≤ l → Takes l (suc i) (triples (k - 1) + n) (Trees.sign p O MOD k a go)
    unfolding Trees.sign
    takes_sign k a low high = takes_floor M (λ z. h _) k (k - 1) a low high

    pub takes_over : (k v : ℕ) (a : X) → 1 ≤ k - 1 → k - 1 ≤ l → Takes l (suc i) (triples (k - 1) + n) (Trees.over p O MOD k v a go)
    unfolding Trees.over Trees.sign
    takes_over k v a low high = takes_floor M (λ z. h _) k (k - 1) _ low high

    pub takes_blocks : (k m : ℕ) (a : X) → 1 ≤ m → m ≤ l → Takes l (suc i) (triples m + n) (Trees.blocks p O MOD k m a go)
    unfolding Trees.blocks
    takes_blocks k m a low high = takes_floor M h k m _ low high

-- the next m masks have l bits each
abbrev pub Sized : ℕ → ℕ → List (List Row) → Type 0
Sized l zero ms = Unit {0}
Sized l (suc m) ms = (length (first [] ms) ≡ l) × Sized l m (others ms)

module _ (S : Setting) (h : S.n ≤ 7) where
  pub seven_plus : (x y : Row) → Seven (plus S x y)
  unfolding plus
  seven_plus x y = length_row S.n _ h

  pub seven_minus : (x y : Row) → Seven (minus S x y)
  unfolding minus
  seven_minus x y = length_row S.n _ h

  pub took : {m n : ℕ} {T : Tree Row Row} → Takes S.l m n T → (d : Deal) → Sized S.l m d.masks → Took d m n (m + 2 * n) (step_of S T d)
  unfolding by_rows
  took t_done d z = record { used = record { masks = refl; triples = refl }; opens = refl; rows = none }
  took (t_multiply {n = n} {x} {y} go) d z =
      let next = took (go _) _ z in
      record {
        used = record { masks = next.used.masks; triples = next.used.triples ∙ drop_others n d.triples };
        opens = omega (arith, next.opens);
        rows = one (seven_minus x _) (one (seven_minus y _) next.rows);
      }
  took (t_mask {m = m} {x = x} go) d z =
      let next = took (go _ _ z.0) _ z.1 in
      record {
        used = record { masks = next.used.masks ∙ drop_others m d.masks; triples = next.used.triples };
        opens = omega (arith, next.opens);
        rows = one (seven_plus x _) next.rows;
      }

  took_so : {m n k o : ℕ} {T : Tree Row Row} → Takes S.l m n T → n ≡ k → m + 2 * n ≡ o → (d : Deal) → Sized S.l m d.masks → Took d m k o (step_of S T d)
  took_so t e f d z = rw (← e, ← f) (took t d z)

  pub took_nothing : (x : Row) (d : Deal) → Took d 0 0 0 (made d x)
  took_nothing x d = record { used = record { masks = refl; triples = refl }; opens = refl; rows = none }

  pub took_product : (x y : Row) (d : Deal) → Took d 0 1 2 (product S x y d)
  unfolding product
  took_product x y d = took (t_multiply (λ z. t_done)) d tt

  pub took_comparison : (v : ℕ) (bs : List Row) (d : Deal) → Took d 0 (length bs - 1) (2 * (length bs - 1)) (comparison S v bs d)
  unfolding comparison
  took_comparison v bs d = took_so (takes_comparison S.p S.l (row_ops S) v bs (λ z. t_done)) (omega arith) (omega arith) d tt

  -- MOD and what rests on it, where the next mask has its ℓ bits: "one mask, ℓ + 2m − 2 triples, and 1 + 2(ℓ + 2m − 2) openings"
  abbrev Took1 : Deal → ℕ → Step → Type 0
  Took1 d m x = length (first [] d.masks) ≡ S.l → Took d 1 (mod_triples S.l m) (1 + 2 * mod_triples S.l m) x

  took_1 : {n : ℕ} {T : Tree Row Row} → Takes S.l 1 (n + 0) T → (d : Deal) → length (first [] d.masks) ≡ S.l → Took d 1 n (1 + 2 * n) (step_of S T d)
  took_1 t d len = took_so t (omega arith) (omega arith) d (len, tt)

  M : TakesMod S.p S.l (row_ops S) {A = Row} (mod_triples S.l) (row_remainder S)
  M = takes_remainder S.p S.l (row_ops S)

  pub took_remainder : (k m : ℕ) (a : Row) (d : Deal) → 1 ≤ m → m ≤ S.l → Took1 d m (remainder S k m a d)
  unfolding remainder
  took_remainder k m a d low high = took_1 (M.takes k m a low high (λ z. t_done)) d

  pub took_floor : (k m : ℕ) (a : Row) (d : Deal) → 1 ≤ m → m ≤ S.l → Took1 d m (floor S k m a d)
  unfolding floor
  took_floor k m a d low high = took_1 (takes_floor S.p S.l (row_ops S) M (λ z. t_done) k m a low high) d

  pub took_sign : (k : ℕ) (a : Row) (d : Deal) → 1 ≤ k - 1 → k - 1 ≤ S.l → Took1 d (k - 1) (sign S k a d)
  unfolding sign
  took_sign k a d low high = took_1 (takes_sign S.p S.l (row_ops S) M (λ z. t_done) k a low high) d

  pub took_over : (k v : ℕ) (a : Row) (d : Deal) → 1 ≤ k - 1 → k - 1 ≤ S.l → Took1 d (k - 1) (over S k v a d)
  unfolding over
  took_over k v a d low high = took_1 (takes_over S.p S.l (row_ops S) M (λ z. t_done) k v a low high) d

  pub took_blocks : (k m : ℕ) (a : Row) (d : Deal) → 1 ≤ m → m ≤ S.l → Took1 d m (blocks S k m a d)
  unfolding blocks
  took_blocks k m a d low high = took_1 (takes_blocks S.p S.l (row_ops S) M (λ z. t_done) k m a low high) d
