-- Places of shares: they stand within the bytes, and no two of them overlap; and what a write leaves at other places.
-- Assumes nothing.
use mathlib.Core.Path.{◌≡◌, refl, ap, ◌∙◌}
use mathlib.Core.List.{List}
use Prim.Native.Nat.{ℕ, zero, suc, ◌+◌, ◌*◌, ◌-◌, ◌≤◌, ◌<◌}
use native.Mathlib.Nat.{le_refl, add-zero, mul-le-mul}
use native.Mathlib.Omega.{arith}
use lib.ListN.{length, take, drop, length-drop}
use lib.Seq.{take_at}
use Rattle.algebra.specs.Lists.{onto, onto_at}
use Rattle.algebra.proofs.Lists.{take_onto_at, drop_onto_at, drop_past}
use Rattle.column_form.specs.Grids.{place_in, further_on, Fits, Spaced, in_a_row, in_a_part}
use Rattle.column_form.specs.declared.grid.Grid.{Grid}

-- fewer steps do not lead further
pub steps_le : (step : ℕ) {a b : ℕ} → a ≤ b → step * a ≤ step * b
steps_le step {a} {b} h = mul-le-mul {n₂ = step} {m₂ = b} (le_refl step) h

module _ {G : Grid} {rows parties size : ℕ} (fits : Fits G rows parties size) where
  pub within : (i j : ℕ) → i < rows → j < parties → place_in G i j + 4 ≤ size
  within i j a b = omega (arith, fits.last, steps_le G.down a, steps_le G.across b)

  -- so many rows from row i on
  pub fits_on : (i k : ℕ) → i + k ≤ rows → Fits (further_on (G.down * i) G) k parties size
  fits_on i k h = record { last = omega (arith, fits.last, steps_le G.down h); steps = fits.steps; most = fits.most }

  pub fits_party : (j : ℕ) → j < parties → Fits (further_on (G.across * j) G) rows 1 size
  fits_party j h = record { last = omega (arith, fits.last, steps_le G.across h); steps = fits.steps; most = fits.most }

-- two numbers, by their order
pub data Order (a b : ℕ) : Type 0 where
  below : a < b → Order a b
  same : a ≡ b → Order a b
  above : b < a → Order a b

pub order : (a b : ℕ) → Order a b
order zero zero = same refl
order zero (suc b) = below (omega arith)
order (suc a) zero = above (omega arith)
order (suc a) (suc b) = go (order a b)
  where
    go : Order a b → Order (suc a) (suc b)
    go (below h) = below (omega arith)
    go (same h) = same (ap suc h)
    go (above h) = above (omega arith)

-- the share of row i and party j, and that of row i' and party j'
pub data Apart (G : Grid) (i j i' j' : ℕ) : Type 0 where
  at_once : i ≡ i' → j ≡ j' → Apart G i j i' j'
  before : place_in G i j + 4 ≤ place_in G i' j' → Apart G i j i' j'
  behind : place_in G i' j' + 4 ≤ place_in G i j → Apart G i j i' j'

module _ (G : Grid) {rows parties : ℕ} (i j i' j' : ℕ) (hi : i < rows) (hj : j < parties) (hi' : i' < rows) (hj' : j' < parties) where
  by_row : 4 ≤ G.across → G.across * parties ≤ G.down → Order i i' → Order j j' → Apart G i j i' j'
  by_row m n (below a) o = before (omega (arith, steps_le G.down a, steps_le G.across hj))
  by_row m n (above a) o = behind (omega (arith, steps_le G.down a, steps_le G.across hj'))
  by_row m n (same a) (below b) = rw a (before (omega (arith, steps_le G.across b)))
  by_row m n (same a) (above b) = rw a (behind (omega (arith, steps_le G.across b)))
  by_row m n (same a) (same b) = at_once a b

  by_part : 4 ≤ G.down → G.down * rows ≤ G.across → Order i i' → Order j j' → Apart G i j i' j'
  by_part m n o (below b) = before (omega (arith, steps_le G.across b, steps_le G.down hi))
  by_part m n o (above b) = behind (omega (arith, steps_le G.across b, steps_le G.down hi'))
  by_part m n (below a) (same b) = rw b (before (omega (arith, steps_le G.down a)))
  by_part m n (above a) (same b) = rw b (behind (omega (arith, steps_le G.down a)))
  by_part m n (same a) (same b) = at_once a b

  pub apart : Spaced G rows parties → Apart G i j i' j'
  apart (in_a_row m n) = by_row m n (order i i') (order j j')
  apart (in_a_part m n) = by_part m n (order i i') (order j j')

-- Four numbers at place i, after a write of four at place k.
module _ (vs xs : List ℕ) (k i : ℕ) (four : length vs ≡ 4) where
  pub written_here : i ≡ k → k ≤ length xs → take 4 (drop i (onto_at k vs xs)) ≡ vs
  unfolding onto_at onto
  written_here e h =
      let z : k + 0 ≡ k = add-zero k in
      rw e (ap (take 4) (rw z at (drop_onto_at k 0 vs xs h)) ∙ take_at vs _ 4 four)

  pub written_behind : i + 4 ≤ k → k ≤ length xs → take 4 (drop i (onto_at k vs xs)) ≡ take 4 (drop i xs)
  written_behind h l =
      let r = k - (i + 4) in
      let e : k ≡ i + (4 + r) = omega arith in
      rw e (ap (take 4) (drop_onto_at i (4 + r) vs xs (omega arith)) ∙ take_onto_at 4 r vs (drop i xs) (rw length-drop (omega arith)))

  pub written_before : k + 4 ≤ i → k ≤ length xs → take 4 (drop i (onto_at k vs xs)) ≡ take 4 (drop i xs)
  written_before h l = ap (take 4) (drop_past i k vs xs (omega arith) l)
