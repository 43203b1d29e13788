-- The paper, "Fields and parties": polynomials over the field, rows of shares, and what is recovered from a row.
-- Assumes nothing.
use Rattle.std.specs.Prelude.{◌≡◌, Bool, cond, List, [], ◌∷◌, ℕ, zero, suc, ◌-◌, ◌*◌, ◌%◌, eqb, length, get_or}
use Rattle.algebra.specs.Ring.{add, sub, mul}
use Rattle.algebra.specs.Lists.{Below, from, total, same_list}
use Rattle.algebra.specs.Rows.{row}
use Rattle.model.specs.Fields.{inverse}

-- a polynomial's value at x, by its coefficients, the constant term first
unfoldable pub eval : ℕ → List ℕ → ℕ → ℕ
eval p [] x = 0
eval p (c ∷ cs) x = add p c (mul p x (eval p cs x))

-- "Sharing a secret (below p) with t coefficients (each below p, the first power's first)": share j is the value at j. The secret is the
-- first of the t + 1 coefficients cs.
unfoldable pub share : ℕ → ℕ → List ℕ → List ℕ
share p n cs = row n (λ j. eval p cs (suc j))

-- "A row of n shares is a sharing when one polynomial of degree at most t over the field takes the value of share j at j"
pub record Sharing (p n t : ℕ) (x : List ℕ) : Type 0 where
  pub poly : List ℕ
  pub size : length poly ≡ suc t
  pub below : Below p poly
  pub is : x ≡ share p n poly

-- Newton's interpolation, for any list of distinct points below 8. The coefficients of y + (X - x) Q:
unfoldable pub newton : ℕ → ℕ → ℕ → List ℕ → List ℕ
newton p x y [] = y % p ∷ []
newton p x y (q ∷ qs) = sub p y (mul p x q) ∷ newton p x q qs

-- 1/(z - x), one of the two inverses being that of 0, which is 0
unfoldable pub reciprocal : ℕ → ℕ → ℕ → ℕ
reciprocal p x z = sub p (inverse p (z - x)) (inverse p (x - z))

-- the divided difference of f between x and z
unfoldable pub slope : ℕ → (ℕ → ℕ) → ℕ → ℕ → ℕ
slope p f x z = mul p (sub p (f z) (f x)) (reciprocal p x z)

-- the polynomial that takes the value f x at each point x of the list
unfoldable pub interpolate : ℕ → List ℕ → (ℕ → ℕ) → List ℕ
interpolate p [] f = []
interpolate p (x ∷ xs) f = newton p x (f x) (interpolate p xs (slope p f x))

-- a row's value at a point: v at 0, share j at j
abbrev pub at : ℕ → List ℕ → ℕ → ℕ
at v x zero = v
at v x (suc j) = get_or x j 0

-- "recovering secret and coefficients from a row": the polynomial through the shares of parties 1 to t + 1
unfoldable pub recover : ℕ → ℕ → List ℕ → List ℕ
recover p t x = interpolate p (from 1 (suc t)) (at 0 x)

-- "its secret is the value at 0". Request 4 says how it is reconstructed: by `secret_sum`, below, which is reduced last.
unfoldable pub secret : ℕ → ℕ → List ℕ → ℕ
secret p t x = eval p (recover p t x) 0

-- Request 5: the value at 0 that the shares of some parties xs give, by the polynomial through them
unfoldable pub value_from : ℕ → List ℕ → List ℕ → ℕ
value_from p xs x = eval p (interpolate p xs (at 0 x)) 0

-- `Sharing` as a test: what is recovered is shared to the row again
unfoldable pub is_sharing : ℕ → ℕ → ℕ → List ℕ → Bool
is_sharing p n t x = same_list (share p n (recover p t x)) x

-- The secret as a weighted sum. z/(z - x), and 1 where z is x itself:
unfoldable pub ratio : ℕ → ℕ → ℕ → ℕ
ratio p x z = cond (eqb z x) 1 (mul p z (reciprocal p x z))

-- x's Lagrange weight at 0 among the points zs: the product of z/(z - x) over the others
unfoldable pub weight : ℕ → List ℕ → ℕ → ℕ
weight p [] x = 1
weight p (z ∷ zs) x = mul p (ratio p x z) (weight p zs x)

-- weight times value, summed and not reduced
unfoldable pub weighted : ℕ → List ℕ → (ℕ → ℕ) → ℕ
weighted p xs f = total xs (λ x. weight p xs x * f x)

-- Request 4: reconstruction "multiplies each of shares 1 to t + 1 by its weight below p, adds, and reduces last". This is the sum before it is reduced;
-- its remainder by p is the secret.
unfoldable pub secret_sum : ℕ → ℕ → List ℕ → ℕ
secret_sum p t x = weighted p (from 1 (suc t)) (at 0 x)
