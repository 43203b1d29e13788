-- Two lists, element by element.
-- Assumes nothing.
use mathlib.Core.Path.{◌≡◌, refl, ap}
use mathlib.Core.List.{List, [], ◌∷◌}
use Prim.Native.Nat.{ℕ, zero, suc}
use lib.ListN.{length, get_or, set, take, replicate}

-- E relates each element of the one to the element of the other in its place
pub data Each {X Y : Type 0} (E : X → Y → Type 0) : List X → List Y → Type 0 where
  no_more : Each E [] []
  and : {x : X} {y : Y} {xs : List X} {ys : List Y} → E x y → Each E xs ys → Each E (x ∷ xs) (y ∷ ys)

module _ {X Y : Type 0} {E : X → Y → Type 0} where
  pub each_take : (m : ℕ) {xs : List X} {ys : List Y} → Each E xs ys → Each E (take m xs) (take m ys)
  each_take zero es = no_more
  each_take (suc m) no_more = no_more
  each_take (suc m) (and e es) = and e (each_take m es)

  pub each_at : {xs : List X} {ys : List Y} {x : X} {y : Y} → Each E xs ys → E x y → (i : ℕ) → E (get_or xs i x) (get_or ys i y)
  each_at no_more e i = e
  each_at (and d ds) e zero = d
  each_at (and d ds) e (suc i) = each_at ds e i

  pub each_set : {xs : List X} {ys : List Y} {x : X} {y : Y} (i : ℕ) → Each E xs ys → E x y → Each E (set xs i x) (set ys i y)
  each_set i no_more e = no_more
  each_set zero (and d ds) e = and e ds
  each_set (suc i) (and d ds) e = and d (each_set i ds e)

  pub each_replicate : (n : ℕ) (x : X) (y : Y) → E x y → Each E (replicate n x) (replicate n y)
  each_replicate zero x y e = no_more
  each_replicate (suc n) x y e = and e (each_replicate n x y e)

  pub each_length : {xs : List X} {ys : List Y} → Each E xs ys → length ys ≡ length xs
  each_length no_more = refl
  each_length (and e es) = ap suc (each_length es)
