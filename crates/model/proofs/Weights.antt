-- Lagrange's weights: the value at 0 of the polynomial through some points is the sum of weight times value, reduced once; and the value
-- at any place is the same sum over the t + 1 places after it.
-- Assumes nothing.
use mathlib.Core.Path.{◌≡◌, refl, sym, ap, ◌∙◌}
use mathlib.Core.Logic.{◌≢◌}
use mathlib.Core.List.Memᴰ.{head as here}
use mathlib.Core.List.Memᴰ.{tail as there}
use mathlib.Core.List.{List, [], ◌∷◌, Memᴰ as In}
use Prim.Native.Nat.{ℕ, zero, suc, ◌+◌, ◌*◌, ◌%◌, ◌<◌}
use native.Mathlib.Nat.{mod-eq_of_lt}
use native.Mathlib.Omega.{arith}
use borrow.Author.Tests.{eq-eqb, ne_eqb}
use lib.ListN.{length}
use Rattle.algebra.specs.Ring.{add, sub, mul}
use Rattle.algebra.specs.Lists.{Below, from, total}
use Rattle.algebra.proofs.Ring.{ring, mod-ring, reduced, both_reduced, given, add_lt, mul_lt}
use Rattle.algebra.proofs.Lists.{below_nil, length_from, total_cong}
use Rattle.model.specs.Fields.{Modulus}
use Rattle.model.specs.Sharing.{eval, newton, reciprocal, slope, interpolate, at, recover, secret, ratio, weight, weighted}
use Rattle.model.proofs.Polynomials.{Apart, Nodes, positive, length_newton, below_newton, interpolate_cong, eval_newton, reciprocal_unit, interpolate_only}
use Rattle.model.proofs.Sharings.{nodes_from}

ratio_same : (p x z : ℕ) → z ≡ x → ratio p x z ≡ 1
unfolding ratio
ratio_same p x z e = rw (eq-eqb z x e)

ratio_other : (p x z : ℕ) → z ≢ x → ratio p x z ≡ mul p z (reciprocal p x z)
unfolding ratio
ratio_other p x z n = rw (ne_eqb z x n)

module _ {p : ℕ} (h : 0 < p) where
  weight_same : (x : ℕ) (zs : List ℕ) → weight p (x ∷ zs) x ≡ weight p zs x % p
  unfolding weight
  weight_same x zs = rw (ratio_same p x x refl) (simp mod-ring (ring h _ _ _ _ (omega arith)))

  -- the value at 0 by its first point
  first : (x : ℕ) (xs : List ℕ) (f : ℕ → ℕ)
      → eval p (interpolate p (x ∷ xs) f) 0 ≡ sub p (f x) (mul p x (eval p (interpolate p xs (slope p f x)) 0))
  unfolding interpolate
  first x xs f = eval_newton h x (f x) _ 0 ∙ simp mod-ring (ring h _ _ _ _ (omega arith))

  cong : (xs : List ℕ) (f g : ℕ → ℕ) → ((z : ℕ) → In z xs → f z ≡ g z) → eval p (interpolate p xs f) 0 ≡ eval p (interpolate p xs g) 0
  cong xs f g k = ap (λ (q : List ℕ). eval p q 0) (interpolate_cong p xs f g k)

  -- the value at 0 is linear in the values
  linear : (k l : ℕ) (xs : List ℕ) (f g : ℕ → ℕ)
      → eval p (interpolate p xs (λ z. add p (mul p k (f z)) (mul p l (g z)))) 0
      ≡ add p (mul p k (eval p (interpolate p xs f) 0)) (mul p l (eval p (interpolate p xs g) 0))
  unfolding interpolate eval slope
  linear k l [] f g = sym (reduced h (simp mod-ring (ring h _ _ _ _ (omega arith))))
  linear k l (x ∷ xs) f g =
      rw (
        first x xs _,
        first x xs f,
        first x xs g,
        cong xs (slope p (λ z. add p (mul p k (f z)) (mul p l (g z))) x) (λ z. add p (mul p k (slope p f x z)) (mul p l (slope p g x z)))
            (λ z m. simp mod-ring (ring h _ _ _ _ (omega arith))),
        linear k l xs (slope p f x) (slope p g x),
      )
      (simp mod-ring (ring h _ _ _ _ (omega arith)))

  split : (a b : ℕ) → (a + b) % p ≡ add p a (b % p)
  split a b = simp mod-ring (ring h _ _ _ _ (omega arith))

  -- the other terms of a sum over x ∷ xs
  rest : (x : ℕ) (xs : List ℕ) (f : ℕ → ℕ) (ys : List ℕ) → ((z : ℕ) → In z ys → z ≢ x)
      → total ys (λ z. weight p (x ∷ xs) z * f z) % p ≡ mul p (sub p 0 x) (total ys (λ z. weight p xs z * mul p (f z) (reciprocal p x z)) % p)
  unfolding total reciprocal weight
  rest x xs f [] n = simp mod-ring (ring h _ _ _ _ (omega arith))
  rest x xs f (y ∷ ys) n =
      rw (ratio_other p y x (λ e. n y (here refl) (sym e)))
      (split _ _ ∙ rw (rest x xs f ys (λ z m. n z (there m))) (simp mod-ring (ring h _ _ _ _ (omega arith))))

module _ {p : ℕ} (M : Modulus p) where
  slope_reciprocal : (x z y : ℕ) → Apart x z → Apart x y → Apart z y
      → slope p (reciprocal p x) z y ≡ add p (mul p (sub p 0 (reciprocal p x z)) (reciprocal p x y)) (mul p 0 (reciprocal p x y))
  slope_reciprocal x z y m n o =
      unfold slope in
      turn (reciprocal p x y) (reciprocal p x z) (reciprocal p z y) (reciprocal_unit M x y n) (reciprocal_unit M x z m) (reciprocal_unit M z y o)
    where
      turn : (a b c : ℕ) → mul p (sub p y x) a ≡ 1 → mul p (sub p z x) b ≡ 1 → mul p (sub p y z) c ≡ 1
          → mul p (sub p a b) c ≡ add p (mul p (sub p 0 b) a) (mul p 0 a)
      turn a b c d e f =
          let h = positive M in
          both_reduced (mul_lt _ _ h) (add_lt _ _ h)
          (given (mul p b c) _ _ h d
          (given (sub p 0 (mul p a c)) _ _ h e
          (given (sub p 0 (mul p a b)) _ _ h f (simp mod-ring (ring h _ _ _ _ (omega arith))))))

  -- x's own weight
  own : (x : ℕ) (zs : List ℕ) → Nodes (x ∷ zs) → weight p zs x % p ≡ (1 + x * eval p (interpolate p zs (reciprocal p x)) 0) % p
  unfolding weight eval interpolate
  own x [] n = let h = positive M in simp mod-ring (ring h _ _ _ _ (omega arith))
  own x (z ∷ zs) n =
      let h = positive M in
      rw (
        ratio_other p x z (n.0 z (here refl)).differ,
        first h z zs (reciprocal p x),
        cong h zs _ _ (λ y m. slope_reciprocal x z y (n.0 z (here refl)) (n.0 y (there m)) (n.1.0 y m)),
        linear h (sub p 0 (reciprocal p x z)) 0 zs (reciprocal p x) (reciprocal p x),
      )
      (given (mul p z (reciprocal p x z)) _ _ h (own x zs (λ y m. n.0 y (there m), n.1.1))
      (given 1 _ _ h (reciprocal_unit M x z (n.0 z (here refl))) (simp mod-ring (ring h _ _ _ _ (omega arith)))))

  pub weighted_value : (xs : List ℕ) (f : ℕ → ℕ) → Nodes xs → weighted p xs f % p ≡ eval p (interpolate p xs f) 0
  unfolding weighted total slope
  weighted_value [] f n = unfold eval interpolate in mod-eq_of_lt (positive M)
  weighted_value (x ∷ xs) f n =
      let h = positive M in
      rw (
        weight_same h x xs,
        own x xs n,
        first h x xs f,
        cong h xs (slope p f x) (λ z. add p (mul p 1 (mul p (f z) (reciprocal p x z))) (mul p (sub p 0 (f x)) (reciprocal p x z)))
            (λ z m. simp mod-ring (ring h _ _ _ _ (omega arith))),
        linear h 1 (sub p 0 (f x)) xs (λ z. mul p (f z) (reciprocal p x z)) (reciprocal p x),
        ← (weighted_value xs (λ z. mul p (f z) (reciprocal p x z)) n.1),
      )
      (split h _ _ ∙ rw (rest h x xs f xs (λ z m. (n.0 z m).differ)) (simp mod-ring (ring h _ _ _ _ (omega arith))))

  pub secret_weighted : (t : ℕ) → t < 7 → (x : List ℕ) → weighted p (from 1 (suc t)) (at 0 x) % p ≡ secret p t x
  unfolding secret recover
  secret_weighted t h x = weighted_value (from 1 (suc t)) (at 0 x) (nodes_from 1 (suc t) (omega arith))

pub weighted_cong : (p : ℕ) (xs : List ℕ) (f g : ℕ → ℕ) → ((z : ℕ) → In z xs → f z ≡ g z) → weighted p xs f ≡ weighted p xs g
unfolding weighted
weighted_cong p xs f g k = total_cong xs _ _ (λ z m. ap (λ (v : ℕ). weight p xs z * v) (k z m))

pub weight_lt : {p : ℕ} → 1 < p → (zs : List ℕ) (x : ℕ) → weight p zs x < p
unfolding weight
weight_lt h [] x = h
weight_lt h (z ∷ zs) x = mul_lt _ _ (omega arith)

-- the coefficients of the polynomial's value one place further
shifted : ℕ → List ℕ → List ℕ
shifted p [] = []
shifted p (c ∷ cs) = newton p (sub p 0 1) c (shifted p cs)

length_shifted : (p : ℕ) (cs : List ℕ) → length (shifted p cs) ≡ length cs
unfolding shifted
length_shifted p [] = refl
length_shifted p (c ∷ cs) = length_newton p _ _ _ ∙ ap suc (length_shifted p cs)

below_shifted : {p : ℕ} → 0 < p → (cs : List ℕ) → Below p (shifted p cs)
unfolding shifted
below_shifted {p} h [] = below_nil p
below_shifted {p} h (c ∷ cs) = below_newton h _ _ _

eval_shifted : {p : ℕ} → 0 < p → (cs : List ℕ) (z : ℕ) → eval p (shifted p cs) z ≡ eval p cs (suc z)
unfolding shifted eval
eval_shifted h [] z = refl
eval_shifted {p} h (c ∷ cs) z = eval_newton h (sub p 0 1) c _ z ∙ rw (eval_shifted h cs z) (simp mod-ring (ring h _ _ _ _ (omega arith)))

module _ {p : ℕ} (M : Modulus p) where
  -- a polynomial of m coefficients at i, from its values at the m places after i
  pub value_before : (m : ℕ) (cs : List ℕ) → m < 8 → length cs ≡ m → Below p cs → (i : ℕ)
      → weighted p (from 1 m) (λ x. eval p cs (i + x)) % p ≡ eval p cs i
  value_before m cs l e b zero =
      ap (λ (s : ℕ). s % p) (weighted_cong p (from 1 m) _ (eval p cs) (λ z _. ap (eval p cs) (omega arith)))
      ∙ weighted_value M (from 1 m) (eval p cs) (nodes_from 1 m (omega arith))
      ∙ ap (λ (q : List ℕ). eval p q 0) (interpolate_only M (from 1 m) cs (nodes_from 1 m (omega arith)) (e ∙ sym (length_from 1 m)) b)
  value_before m cs l e b (suc i) =
      ap (λ (s : ℕ). s % p)
      (weighted_cong p (from 1 m) _ _ (λ z _. ap (eval p cs) (omega arith) ∙ sym (eval_shifted (positive M) cs (i + z))))
      ∙ value_before m (shifted p cs) l (length_shifted p cs ∙ e) (below_shifted (positive M) cs) i
      ∙ eval_shifted (positive M) cs i
