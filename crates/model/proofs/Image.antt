-- Demand 3 over trees. Given are two trees in pairs, with operands that agree in a set's columns, each determined, that reveal the same values. A deal's
-- image keeps the set's shares and has other secrets, so that the second tree opens on it what the first opens on the deal. Then the second tree
-- worked on the image shows the set what the first does on the deal; and with the trees exchanged, the image's image is the deal.
-- Assumes nothing.
use mathlib.Core.Path.{◌≡◌, refl, sym, ap, ap₂}
use mathlib.Core.List.{List, [], ◌∷◌}
use Prim.Native.Nat.{ℕ, suc, ◌≤◌}
use native.Mathlib.Omega.{arith}
use lib.ListN.{length}
use Rattle.algebra.specs.Lists.{All, none, one, first, others}
use Rattle.model.specs.Fields.{Parties}
use Rattle.model.specs.Shamir.{Group, Agree}
use Rattle.model.specs.Trees.{Tree, done, multiply, mask, reveal}
use Rattle.model.specs.Steps.{Setting, Row, Triple, Deal, less_triple, less_mask, minus, value, next_triple, next_mask, beaver, by_rows}
use Rattle.model.specs.Sheet.{mask_rows, triple_rows}
use Rattle.model.specs.Secrecy.{Alike}
use Rattle.model.specs.Secrecy as Secrecy
use Rattle.model.proofs.Shared.{TripleOk}
use Rattle.model.proofs.Determined.{Determined, d_done, d_multiply, d_mask, d_reveal, MaskOk, mask_number, shared_product}
use Rattle.model.proofs.Pairs.{Paired, p_last, Ends, ends, p_multiply, p_mask, p_reveal, paired_beaver}
use Rattle.model.proofs.Agreeing.{alike_refl, alike_append, alike_each, agree_keep}
use Rattle.model.proofs.Partners.{Space, Linked, unlinked, linked}
use Rattle.model.proofs.Keepings.{masked_with, kept_triple, kept_mask, TripleImage, MaskImage, same_row, triple_image, mask_image}

abbrev dealt : List (List Row) → List Triple → Deal
dealt ms ts = record { masks = ms; triples = ts }

module _ (S : Setting) {A : Type 0} where
  -- the values that a tree opens, REVEAL's aside, in order
  unfoldable pub hidden_values : Tree Row A → Deal → List ℕ
  hidden_values (done a) d = []
  hidden_values (multiply x y go) d =
      let t = next_triple S d in
      let v = value S (minus S x t.a) in
      let w = value S (minus S y t.b) in
      v ∷ w ∷ hidden_values (go (beaver S v w t)) (less_triple d)
  hidden_values (mask x go) d =
      let b = next_mask S d in
      let C = value S (masked_with S x b) in
      C ∷ hidden_values (go C b) (less_mask d)
  hidden_values (reveal x T) d = hidden_values T d

  -- the deal that keeps a set's shares of d and on which a tree opens the values vs, REVEAL's aside
  unfoldable pub placed : List ℕ → Tree Row A → List ℕ → Deal → Deal
  placed set (done a) vs d = d
  placed set (multiply x y go) vs d =
      let v = first 0 vs in
      let w = first 0 (others vs) in
      let t = kept_triple S set x y v w (next_triple S d) in
      let e = placed set (go (beaver S v w t)) (others (others vs)) (less_triple d) in
      dealt e.masks (t ∷ e.triples)
  placed set (mask x go) vs d =
      let C = first 0 vs in
      let b = kept_mask S set x C (next_mask S d) in
      let e = placed set (go C b) (others vs) (less_mask d) in
      dealt (b ∷ e.masks) e.triples
  placed set (reveal x T) vs d = placed set T vs d

-- a deal's image, from the tree T to the tree T'
abbrev pub mapped : (S : Setting) → List ℕ → {A A' : Type 0} → Tree Row A → Tree Row A' → Deal → Deal
mapped S set T T' d = placed S set T' (hidden_values S T d) d

-- The masks, or triples, ys are well formed, as many as xs, and keep the set's shares of them.
pub record Keeps {A : Type 0} (Ok : A → Type 0) (rows : List A → List Row) (set : List ℕ) (xs ys : List A) : Type 0 where
  pub ok : All Ok ys
  pub many : length ys ≡ length xs
  pub kept : Alike set (rows xs) (rows ys)

keeps : {A : Type 0} {Ok : A → Type 0} {rows : List A → List Row} {set : List ℕ} {xs : List A} → All Ok xs → Keeps Ok rows set xs xs
keeps ok = record { ok = ok; many = refl; kept = alike_refl _ }

-- The deal e is well formed, has as much as d, keeps the set's shares of d, and its masks have partners the other way. T' worked on e opens and reveals
-- what T does on d, and leaves what R relates to what T leaves. And d is the image of e from T' to T.
pub record Image (S : Setting) (B : ℕ) (Opens : ℕ → ℕ → ℕ → ℕ → Type 0) (set : List ℕ) {A A' : Type 0} (R : A → A' → Type 0) (xs xs' : List ℕ)
    (T : Tree Row A) (T' : Tree Row A') (d e : Deal) : Type 0 where
  pub masks : Keeps (MaskOk S B) mask_rows set d.masks e.masks
  pub triples : Keeps (TripleOk S) triple_rows set d.triples e.triples
  pub partners : Linked S B Opens xs' xs e.masks
  pub left : R (by_rows S T d).left (by_rows S T' e).left
  pub opened : (by_rows S T d).opened ≡ (by_rows S T' e).opened
  pub shown : (by_rows S T d).shown ≡ (by_rows S T' e).shown
  pub back : mapped S set T' T e ≡ d

module _ (S : Setting) {B : ℕ} {Opens : ℕ → ℕ → ℕ → ℕ → Type 0} (N : Space S.p S.l B Opens) (P : Parties S.n S.t) {set : List ℕ}
    (G : Group S.n S.t set) {A A' : Type 0} {R : A → A' → Type 0} where
  -- a node of both trees, and what comes after it
  image_done : {a : A} {b : A'} (ms : List (List Row)) (ts : List Triple) → R a b → All (MaskOk S B) ms → All (TripleOk S) ts
      → Image S B Opens set R [] [] (done a) (done b) (dealt ms ts) (dealt ms ts)
  unfolding by_rows hidden_values placed
  image_done ms ts q wm wt = record { masks = keeps wm; triples = keeps wt; partners = unlinked; left = q; opened = refl; shown = refl; back = refl }

  image_multiply : {xs xs' : List ℕ} {x y x' y' : Row} {go : Row → Tree Row A} {go' : Row → Tree Row A'} (ms : List (List Row)) (ts : List Triple)
      (t t' : Triple) (e : Deal) → TripleImage S set x y x' y' t t'
      → (let v = value S (minus S x t.a) in
      let w = value S (minus S y t.b) in
      Image S B Opens set R xs xs' (go (beaver S v w t)) (go' (beaver S v w t')) (dealt ms ts) e)
      → Image S B Opens set R xs xs' (multiply x y go) (multiply x' y' go') (dealt ms (t ∷ ts)) (dealt e.masks (t' ∷ e.triples))
  unfolding by_rows hidden_values placed triple_rows
  image_multiply {x = x} {y = y} ms ts t t' e I next =
      let el = I.left in
      let er = I.right in
      record {
        masks = next.masks;
        triples =
            record {
              ok = one I.ok next.triples.ok;
              many = ap suc next.triples.many;
              kept = Secrecy.row I.a_kept (Secrecy.row I.b_kept (Secrecy.row I.c_kept next.triples.kept));
            };
        partners = next.partners;
        left = rw (el, er) next.left;
        opened = rw (el, er) (ap {B = List Row} (λ os. minus S x t.a ∷ minus S y t.b ∷ os) next.opened);
        shown = rw (el, er) next.shown;
        back = rw (el, er, I.back) (ap (λ (z : Deal). dealt z.masks (t ∷ z.triples)) next.back);
      }

  image_mask : {X X' : ℕ} {xs xs' : List ℕ} {x x' : Row} {go : ℕ → List Row → Tree Row A} {go' : ℕ → List Row → Tree Row A'} (ms : List (List Row))
      (ts : List Triple) (b b' : List Row) (ok : MaskOk S B b) (e : Deal) → MaskImage S set B Opens X X' ok.r x x' b b'
      → (let C = value S (masked_with S x b) in Image S B Opens set R xs xs' (go C b) (go' C b') (dealt ms ts) e)
      → Image S B Opens set R (X ∷ xs) (X' ∷ xs') (mask x go) (mask x' go') (dealt (b ∷ ms) ts) (dealt (b' ∷ e.masks) e.triples)
  unfolding by_rows hidden_values placed mask_rows
  image_mask {X = X} {X' = X'} {x = x} ms ts b b' ok e I next =
      let eo = I.same in
      record {
        masks = record { ok = one I.ok next.masks.ok; many = ap suc next.masks.many; kept = alike_append I.kept next.masks.kept };
        triples = next.triples;
        partners = linked {X = X'} {X' = X} {b = b'} ok.r ok.small (rw (mask_number N.bounds I.ok) (N.back I.partner)) next.partners;
        left = rw eo next.left;
        opened = rw eo (ap {B = List Row} (λ os. masked_with S x b ∷ os) next.opened);
        shown = rw eo next.shown;
        back = rw (eo, I.back) (ap (λ (z : Deal). dealt (b ∷ z.masks) z.triples) next.back);
      }

  image_reveal : {xs xs' : List ℕ} {x x' : Row} {T : Tree Row A} {T' : Tree Row A'} (d e : Deal) → x ≡ x' → Image S B Opens set R xs xs' T T' d e
      → Image S B Opens set R xs xs' (reveal x T) (reveal x' T') d e
  unfolding by_rows hidden_values placed
  image_reveal d e q next =
      record {
        masks = next.masks;
        triples = next.triples;
        partners = next.partners;
        left = next.left;
        opened = ap₂ {C = List Row} ◌∷◌ q next.opened;
        shown = ap₂ {C = List ℕ} ◌∷◌ (ap (value S) q) next.shown;
        back = next.back;
      }

  -- both trees from the start of a deal's masks and triples
  along : {Q : A → Type 0} {Q' : A' → Type 0} {xs xs' : List ℕ} {n n' : ℕ} {vs : List ℕ} {T : Tree Row A} {T' : Tree Row A'} → Paired (Agree set) (Ends R) T T'
      → Determined S B Q xs n vs T → Determined S B Q' xs' n' vs T' → (ms : List (List Row)) (ts : List Triple) → All (MaskOk S B) ms
      → All (TripleOk S) ts → n ≤ length ts → Linked S B Opens xs xs' ms
      → Image S B Opens set R xs xs' T T' (dealt ms ts) (mapped S set T T' (dealt ms ts))
  unfolding hidden_values placed
  along (p_last (ends q)) (d_done x) (d_done x') ms ts wm wt le links = image_done ms ts q wm wt
  along (p_multiply ex ey pk) (d_multiply X Y k) (d_multiply X' Y' k') ms ts wm none le links = absurd (omega arith)
  along (p_multiply {x} {y} {x'} {y'} ex ey pk) (d_multiply {n = n} X Y k) (d_multiply {n = n'} X' Y' k') ms ts wm (one {x = t} {xs = us} ok wt) le links =
      let M = N.bounds.modulus_is in
      let v = value S (minus S x t.a) in
      let w = value S (minus S y t.b) in
      let t' = kept_triple S set x' y' v w t in
      let I = triple_image S M P G X Y X' Y' ex ey t ok in
      let Z = shared_product S N.bounds P X Y t ok refl refl in
      let Z' = shared_product S N.bounds P X' Y' t' I.ok (ap (value S) (sym I.left)) (ap (value S) (sym I.right)) in
      image_multiply ms us t t' _ I
      (along {n = n} {n' = n'} (pk _ _ (paired_beaver S.p (agree_keep S G) v w I.a_kept I.b_kept I.c_kept)) (k _ Z) (k' _ Z') ms us wm wt (omega arith) links)
  along (p_mask {x = x} {x' = x'} ex pk) (d_mask {xs = zs} X k) (d_mask {xs = zs'} X' k') ms ts (one {x = b} {xs = bs} ok wm) wt le (linked r' small q links) =
      let C = value S (masked_with S x b) in
      let b' = kept_mask S set x' C b in
      let I = mask_image S N P G X X' ex b ok r' small (rw (mask_number N.bounds ok) at q) in
      image_mask bs ts b b' ok _ I
      (along {xs = zs} {xs' = zs'} (pk C b b' (alike_each I.kept)) (rw (← I.first) at (k ok.r b ok.small ok.shareds))
      (rw (← I.second) at (k' I.ok.r b' I.ok.small I.ok.shareds)) bs ts wm wt le links)
  along (p_mask ex pk) (d_mask X k) (d_mask X' k') ms ts none wt le links = elim links [ ]
  along (p_reveal ex pk) (d_reveal X k) (d_reveal X' k') ms ts wm wt le links =
      image_reveal _ _ (same_row S N.bounds.modulus_is P G X X' ex) (along pk k k' ms ts wm wt le links)

  -- Of the first tree's triples there are enough, and each mask that it uses has a partner.
  pub image : {Q : A → Type 0} {Q' : A' → Type 0} {xs xs' : List ℕ} {n n' : ℕ} {vs vs' : List ℕ} {T : Tree Row A} {T' : Tree Row A'}
      → Paired (Agree set) (Ends R) T T' → Determined S B Q xs n vs T → Determined S B Q' xs' n' vs' T' → vs ≡ vs'
      → (d : Deal) → All (MaskOk S B) d.masks → All (TripleOk S) d.triples → n ≤ length d.triples → Linked S B Opens xs xs' d.masks
      → Image S B Opens set R xs xs' T T' d (mapped S set T T' d)
  image pairs D D' e d wm wt le links = along pairs D (rw (sym e) at D') d.masks d.triples wm wt le links
