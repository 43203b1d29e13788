-- A test of each element of a run, as a chain over the elements' numbers has it.
-- Assumes nothing.
use mathlib.Core.Path.{◌≡◌, refl}
use mathlib.Core.Bool.{Bool}
use Rattle.std.specs.List.{list_all, range_with_len}
use mathlib.Core.List.{List, [], ◌∷◌}
use Prim.Native.Nat.{ℕ, zero, suc, ◌+◌, ◌*◌}
use native.Mathlib.Omega.{arith}
use Rattle.model.specs.Bytes.{row_at}
use Rattle.model.specs.Sheet.{all, rows_at, masks_from, triple_at, triples_from}

-- run i c is the c elements at i, i + step, and so on
pub record Run {A : Type 0} (at : ℕ → A) (step : ℕ) (run : ℕ → ℕ → List A) : Type 0 where
  pub none : (i : ℕ) → run i 0 ≡ []
  pub next : (i c : ℕ) → run i (suc c) ≡ at i ∷ run (i + step) c

pub rows_run : (s : List ℕ) (n : ℕ) → Run (row_at s n) (4 * n) (rows_at s n)
unfolding rows_at
rows_run s n = record { none = λ i. refl; next = λ i c. refl }

pub masks_run : (s : List ℕ) (n l : ℕ) → Run (λ i. rows_at s n i l) (4 * n * l) (masks_from s n l)
unfolding masks_from
masks_run s n l = record { none = λ i. refl; next = λ i c. refl }

pub triples_run : (s : List ℕ) (n : ℕ) → Run (triple_at s n) (4 * n * 3) (triples_from s n)
unfolding triples_from
triples_run s n = record { none = λ i. refl; next = λ i c. refl }

-- the test of each element of a run, as a chain over their numbers has it
module _ {A : Type 0} (f : A → Bool) {at : ℕ → A} {run : ℕ → ℕ → List A} {step : ℕ} (R : Run at step run) (i : ℕ) where
  all_numbered : (a c : ℕ) → list_all (λ k. f (at (i + step * k))) (range_with_len a c) ≡ all f (run (i + step * a) c)
  unfolding all
  all_numbered a zero = rw (R.none (i + step * a))
  all_numbered a (suc c) =
      let next : i + step * (a + 1) ≡ i + step * a + step = omega arith in
      rw (R.next (i + step * a) c, all_numbered (a + 1) c, next)

  pub all_run : (count : ℕ) → list_all (λ k. f (at (i + step * k))) (range_with_len 0 count) ≡ all f (run i count)
  all_run count =
      let first : i + step * 0 ≡ i = omega arith in
      rw first at (all_numbered 0 count)
