-- The marks after the registers of a list were set.
-- Assumes nothing.
use mathlib.Core.Path.{◌≡◌, refl, sym, ◌∙◌}
use mathlib.Core.Bool.{Bool, true, false}
use mathlib.Core.List.Memᴰ.{head as here}
use mathlib.Core.List.Memᴰ.{tail as there}
use mathlib.Core.List.{List, [], ◌∷◌, Memᴰ as In}
use Prim.Native.Nat.{ℕ, ◌<◌}
use native.Mathlib.Decide.{ℕ_discrete}
use lib.ListN.{length, get_or, set, length-set}
use lib.Seq.{get_or-set_same, get_or-set_other}
use Rattle.algebra.proofs.Tests.{true_false}
use Rattle.model.specs.Checks.{marked}

-- of the others, and of these
pub marked_kept : (marks : List Bool) (ds : List ℕ) (r : ℕ) → (In r ds → ⊥) → get_or (marked marks ds) r false ≡ get_or marks r false
unfolding marked
marked_kept marks [] r n = refl
marked_kept marks (d ∷ ds) r n = marked_kept (set marks d true) ds r (λ i. n (there i)) ∙ get_or-set_other marks d r true false (λ e. n (here e))

marked_true : (marks : List Bool) (ds : List ℕ) (r : ℕ) → r < length marks → get_or marks r false ≡ true → get_or (marked marks ds) r false ≡ true
unfolding marked
marked_true marks [] r h e = e
marked_true marks (d ∷ ds) r h e = marked_true (set marks d true) ds r (rw length-set h) (go (ℕ_discrete r d))
  where
    go : Dec (r ≡ d) → get_or (set marks d true) r false ≡ true
    go (yes q) = rw q (get_or-set_same marks d true false (rw q at h))
    go (no q) = get_or-set_other marks d r true false q ∙ e

pub marked_set : (marks : List Bool) (ds : List ℕ) (r : ℕ) → In r ds → r < length marks → get_or (marked marks ds) r false ≡ true
unfolding marked
marked_set marks (d ∷ ds) r (here e) h =
    marked_true (set marks d true) ds r (rw length-set h) (rw e (get_or-set_same marks d true false (rw e at h)))
marked_set marks (d ∷ ds) r (there i) h = marked_set (set marks d true) ds r i (rw length-set h)
marked_set marks [] r x'' h = elim x'' [ ]

pub length_marked : (marks : List Bool) (ds : List ℕ) → length (marked marks ds) ≡ length marks
unfolding marked
length_marked marks [] = refl
length_marked marks (d ∷ ds) = length_marked (set marks d true) ds ∙ length-set marks d true

-- a register that is unset after them is none of these, and was unset before
pub unmarked : (marks : List Bool) (ds : List ℕ) (r : ℕ) → r < length marks → get_or (marked marks ds) r false ≡ false
    → (In r ds → ⊥) × (get_or marks r false ≡ false)
unmarked marks ds r h e = (λ i. true_false (sym (marked_set marks ds r i h) ∙ e), go (get_or marks r false) refl)
  where
    go : (b : Bool) → get_or marks r false ≡ b → get_or marks r false ≡ false
    go false q = q
    go true q = absurd (true_false (sym (marked_true marks ds r h q) ∙ e))
