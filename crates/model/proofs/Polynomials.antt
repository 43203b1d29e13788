-- Polynomials by their coefficients, and Newton's interpolation through distinct points below 8: it takes the values, and no other
-- polynomial with as many coefficients does.
-- Assumes nothing.
use mathlib.Core.Path.{◌≡◌, refl, sym, ap, ap₂, ◌∙◌}
use mathlib.Core.Logic.{◌≢◌}
use mathlib.Core.List.Memᴰ.{head as here}
use mathlib.Core.List.Memᴰ.{tail as there}
use mathlib.Core.List.{List, [], ◌∷◌, Memᴰ as In}
use Prim.Native.Nat.{ℕ, suc, ◌+◌, ◌-◌, ◌%◌, ◌<◌}
use native.Mathlib.Nat.{mod-lt, mod-eq_of_lt}
use native.Mathlib.Decide.{dec_lt}
use native.Mathlib.Omega.{arith}
use lib.ListN.{length}
use Rattle.algebra.specs.Ring.{add, sub, mul}
use Rattle.algebra.specs.Lists.{Below}
use Rattle.algebra.proofs.Ring.{ring, mod-ring, reduced, both_reduced, given, add_lt, mul_lt, sub_lt}
use Rattle.algebra.proofs.Lists.{below_nil, below_head, below_tail, below_cons}
use Rattle.model.specs.Fields.{Modulus, inverse}
use Rattle.model.specs.Sharing.{eval, newton, reciprocal, slope, interpolate}

-- two distinct points below 8, and a list of them
pub record Apart (x z : ℕ) : Type 0 where
  pub left : x < 8
  pub right : z < 8
  pub differ : z ≢ x

abbrev pub Nodes : List ℕ → Type 0
Nodes [] = Unit {0}
Nodes (x ∷ xs) = ((z : ℕ) → In z xs → Apart x z) × Nodes xs

-- the Q of c + X cs = y + (X - x) Q, where y is the value at x
unfoldable pub quotient : ℕ → List ℕ → ℕ → List ℕ
quotient p [] x = []
quotient p (c ∷ cs) x = eval p (c ∷ cs) x ∷ quotient p cs x

pub interpolate_cong : (p : ℕ) (xs : List ℕ) (f g : ℕ → ℕ) → ((z : ℕ) → In z xs → f z ≡ g z) → interpolate p xs f ≡ interpolate p xs g
unfolding interpolate slope
interpolate_cong p [] f g k = refl
interpolate_cong p (x ∷ xs) f g k =
    rw (k x (here refl)) (ap (newton p x (g x)) (interpolate_cong p xs _ _ (λ z m. rw (k z (there m), k x (here refl)))))

pub length_newton : (p x y : ℕ) (qs : List ℕ) → length (newton p x y qs) ≡ suc (length qs)
unfolding newton
length_newton p x y [] = refl
length_newton p x y (q ∷ qs) = ap suc (length_newton p x q qs)

pub length_interpolate : (p : ℕ) (xs : List ℕ) (f : ℕ → ℕ) → length (interpolate p xs f) ≡ length xs
unfolding interpolate
length_interpolate p [] f = refl
length_interpolate p (x ∷ xs) f = length_newton p _ _ _ ∙ ap suc (length_interpolate p xs _)

length_quotient : (p : ℕ) (cs : List ℕ) (x : ℕ) → length (quotient p cs x) ≡ length cs
unfolding quotient
length_quotient p [] x = refl
length_quotient p (c ∷ cs) x = ap suc (length_quotient p cs x)

module _ {p : ℕ} (h : 0 < p) where
  pub eval_lt : (cs : List ℕ) (x : ℕ) → eval p cs x < p
  unfolding eval
  eval_lt [] x = h
  eval_lt (c ∷ cs) x = add_lt c (mul p x (eval p cs x)) h

  pub below_newton : (x y : ℕ) (qs : List ℕ) → Below p (newton p x y qs)
  unfolding newton
  below_newton x y [] = below_cons (mod-lt y h) (below_nil p)
  below_newton x y (q ∷ qs) = below_cons (sub_lt y (mul p x q) h) (below_newton x q qs)

  pub below_interpolate : (xs : List ℕ) (f : ℕ → ℕ) → Below p (interpolate p xs f)
  unfolding interpolate
  below_interpolate [] f = below_nil p
  below_interpolate (x ∷ xs) f = below_newton x (f x) _

  below_quotient : (cs : List ℕ) (x : ℕ) → Below p (quotient p cs x)
  unfolding quotient
  below_quotient [] x = below_nil p
  below_quotient (c ∷ cs) x = below_cons (eval_lt (c ∷ cs) x) (below_quotient cs x)

  pub eval_newton : (x y : ℕ) (qs : List ℕ) (z : ℕ) → eval p (newton p x y qs) z ≡ add p y (mul p (sub p z x) (eval p qs z))
  unfolding eval newton
  eval_newton x y [] z = simp mod-ring (ring h _ _ _ _ (omega arith))
  eval_newton x y (q ∷ qs) z = rw (eval_newton x q qs z) (simp mod-ring (ring h _ _ _ _ (omega arith)))

  newton_quotient : (x c : ℕ) (cs : List ℕ) → Below p (c ∷ cs) → newton p x (eval p (c ∷ cs) x) (quotient p cs x) ≡ c ∷ cs
  unfolding eval newton quotient
  newton_quotient x c [] b = ap (λ (a : ℕ). a ∷ []) (reduced (below_head b) (simp mod-ring (ring h _ _ _ _ (omega arith))))
  newton_quotient x c (d ∷ ds) b =
      ap₂ ◌∷◌ (reduced (below_head b) (simp mod-ring (ring h _ _ _ _ (omega arith)))) (newton_quotient x d ds (below_tail b))

  -- the factor theorem
  factor : (x z c : ℕ) (cs : List ℕ) → Below p (c ∷ cs)
      → eval p (c ∷ cs) z ≡ add p (eval p (c ∷ cs) x) (mul p (sub p z x) (eval p (quotient p cs x) z))
  factor x z c cs b = ap (λ (l : List ℕ). eval p l z) (sym (newton_quotient x c cs b)) ∙ eval_newton x _ _ z

-- a modulus of the table is above 0
pub positive : {p : ℕ} → Modulus p → 0 < p
positive M = omega arith

module _ {p : ℕ} (M : Modulus p) where
  pub reciprocal_unit : (x z : ℕ) → Apart x z → mul p (sub p z x) (reciprocal p x z) ≡ 1
  unfolding reciprocal inverse
  reciprocal_unit x z a = go (dec_lt x z)
    where
      up : (x d : ℕ) → 0 < d → d < 8 → mul p (sub p (d + x) x) (sub p (inverse p d) 0) ≡ 1
      up x d a b = let h = positive M in simp mod-ring (ring h _ _ _ _ (omega arith)) ∙ M.units d a b

      down : (x d : ℕ) → 0 < d → d < 8 → mul p (sub p x (d + x)) (sub p 0 (inverse p d)) ≡ 1
      down x d a b = let h = positive M in simp mod-ring (ring h _ _ _ _ (omega arith)) ∙ M.units d a b

      go : Dec (x < z) → mul p (sub p z x) (reciprocal p x z) ≡ 1
      go (yes l) =
          let e : x - z ≡ 0 = omega arith in
          let q : z - x + x ≡ z = omega arith in
          rw e (rw q at (up x (z - x) (omega arith) (omega arith)))
      go (no l) =
          let n : z ≢ x = a.differ in
          let e : z - x ≡ 0 = omega arith in
          let q : x - z + z ≡ x = omega arith in
          rw e (rw q at (down z (x - z) (omega arith) (omega arith)))

  -- the interpolation takes the values
  pub interpolate_eval : (xs : List ℕ) (f : ℕ → ℕ) {z : ℕ} → Nodes xs → In z xs → eval p (interpolate p xs f) z ≡ f z % p
  unfolding interpolate slope
  interpolate_eval (x ∷ xs) f {z} n (here e) =
      let h = positive M in
      rw e (eval_newton h x (f x) _ x ∙ simp mod-ring (ring h _ _ _ _ (omega arith)))
  interpolate_eval (x ∷ xs) f {z} n (there m) =
      let h = positive M in
      eval_newton h x (f x) _ z ∙ rw (interpolate_eval xs _ n.1 m)
      (sym (mod-eq_of_lt (add_lt _ _ h))
      ∙ given (sub p (f z) (f x)) _ _ h (reciprocal_unit x z (n.0 z m)) (simp mod-ring (ring h _ _ _ _ (omega arith))))
  interpolate_eval [] f {z = z} n x'' = elim x'' [ ]

  -- and is the only polynomial of its length that does
  pub interpolate_only : (xs cs : List ℕ) → Nodes xs → length cs ≡ length xs → Below p cs → interpolate p xs (eval p cs) ≡ cs
  unfolding interpolate
  interpolate_only [] [] n l b = refl
  interpolate_only [] (c ∷ cs) n l b = absurd (omega arith)
  interpolate_only (x ∷ xs) [] n l b = absurd (omega arith)
  interpolate_only (x ∷ xs) (c ∷ cs) n l b =
      ap (newton p x (eval p (c ∷ cs) x))
      (interpolate_cong p xs _ (eval p (quotient p cs x)) step
      ∙ interpolate_only xs (quotient p cs x) n.1 (length_quotient p cs x ∙ omega arith) (below_quotient (positive M) cs x))
      ∙ newton_quotient (positive M) x c cs b
    where
      step : (z : ℕ) → In z xs → slope p (eval p (c ∷ cs)) x z ≡ eval p (quotient p cs x) z
      step z m =
          unfold slope in
          let h = positive M in
          rw (factor h x z c cs b)
          (both_reduced (mul_lt _ _ h) (eval_lt h _ z)
          (given (eval p (quotient p cs x) z) _ _ h (reciprocal_unit x z (n.0 z m)) (simp mod-ring (ring h _ _ _ _ (omega arith)))))

  -- so a polynomial is fixed by its values at as many points as it has coefficients
  pub same_values : (xs cs ds : List ℕ) → Nodes xs → length cs ≡ length xs → length ds ≡ length xs → Below p cs → Below p ds
      → ((z : ℕ) → In z xs → eval p cs z ≡ eval p ds z) → cs ≡ ds
  same_values xs cs ds n lc ld bc bd k =
      sym (interpolate_only xs cs n lc bc) ∙ interpolate_cong p xs _ _ k ∙ interpolate_only xs ds n ld bd
