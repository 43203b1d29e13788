-- The first register of a span that is not set, mark by mark; and of two spans, one after the other.
-- Assumes nothing.
use mathlib.Core.Path.{◌≡◌, ap}
use mathlib.Core.Bool.{Bool, true, false, cond}
use mathlib.Core.List.{List, [], ◌∷◌, ◌++◌}
use Prim.Native.Nat.{ℕ, zero, suc, ◌+◌, ◌-◌, ◌≤◌, ◌<◌}
use native.Mathlib.Omega.{arith}
use lib.ListN.{get_or}
use Rattle.algebra.specs.Lists.{from}
use Rattle.forecast.specs.Unset.{first_unset}

-- the registers b to b + w − 1 from the i-th on
abbrev pub rest : ℕ → ℕ → ℕ → List ℕ
rest b w i = from (b + i) (w - i)

module _ (b w : ℕ) where
  pub start : rest b w 0 ≡ from b w
  start =
      let e : b + 0 ≡ b = omega arith in
      let k : w - 0 ≡ w = omega arith in
      rw (e, k)

  pub turn : (i : ℕ) → i < w → rest b w i ≡ (b + i) ∷ rest b w (i + 1)
  unfolding from
  turn i h =
      let e : w - i ≡ suc (w - (i + 1)) = omega arith in
      let k : b + (i + 1) ≡ suc (b + i) = omega arith in
      rw (e, k)

  pub end : (i : ℕ) → w ≤ i → rest b w i ≡ []
  unfolding from
  end i h = let e : w - i ≡ 0 = omega arith in rw e

module _ (marks : List Bool) (b w : ℕ) where
  pub unset_start : first_unset marks (rest b w 0) ≡ first_unset marks (from b w)
  unset_start = ap (first_unset marks) (start b w)

  pub unset_more : (i : ℕ) → i < w → get_or marks (b + i) false ≡ true → first_unset marks (rest b w (i + 1)) ≡ first_unset marks (rest b w i)
  unfolding first_unset
  unset_more i h e = rw (turn b w i h, e)

  pub unset_here : (i : ℕ) → i < w → get_or marks (b + i) false ≡ false → b + i ≡ first_unset marks (rest b w i)
  unfolding first_unset
  unset_here i h e = rw (turn b w i h, e)

  pub unset_end : (i : ℕ) → w ≤ i → 64 ≡ first_unset marks (rest b w i)
  unfolding first_unset
  unset_end i h = rw (end b w i h)

-- the first span decides where one of its registers is not set, and else the second
pub in_first : (marks : List Bool) (xs ys : List ℕ) {r : ℕ} → r ≡ first_unset marks xs → r < 64 → r ≡ first_unset marks (xs ++ ys)
unfolding first_unset
in_first marks [] ys e h = absurd (omega arith)
in_first marks (x ∷ xs) ys e h = go (get_or marks x false) e (λ q. in_first marks xs ys q h)
  where
    go : (b : Bool) {r : ℕ} → r ≡ cond b (first_unset marks xs) x → (r ≡ first_unset marks xs → r ≡ first_unset marks (xs ++ ys)) → r ≡ cond b (first_unset marks (xs ++ ys)) x
    go true e k = k e
    go false e k = e

pub in_second : (marks : List Bool) (b w : ℕ) (ys : List ℕ) {r k : ℕ} → b + w ≤ 64 → k ≡ first_unset marks (from b w) → 64 ≤ k → r ≡ first_unset marks ys
    → r ≡ first_unset marks (from b w ++ ys)
unfolding first_unset from
in_second marks b zero ys h e l q = q
in_second marks b (suc w) ys {r} {k} h e l q = go (get_or marks b false) e (λ e. in_second marks (suc b) w ys (omega arith) e l q)
  where
    go : (m : Bool) → k ≡ cond m (first_unset marks (from (suc b) w)) b → (k ≡ first_unset marks (from (suc b) w) → r ≡ first_unset marks (from (suc b) w ++ ys))
        → r ≡ cond m (first_unset marks (from (suc b) w ++ ys)) b
    go true e next = next e
    go false e next = absurd (omega (arith, h, l, e))
