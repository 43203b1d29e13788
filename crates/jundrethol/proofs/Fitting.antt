-- Laws of lent lists: cells as rows; marks as numbers; and the outcome and the replay from what was written.
-- Assumes nothing.
use mathlib.Core.Path.{◌≡◌, refl, sym, ap, subst, ◌∙◌}
use mathlib.Core.Bool.{Bool, false, cond}
use mathlib.Core.List.{List, [], ◌∷◌, map}
use Prim.Native.Nat.{ℕ, zero, suc, ◌+◌, ◌*◌, ◌≤◌, ◌<◌}
use native.Mathlib.Decide.{dec_lt}
use native.Mathlib.Omega.{arith}
use lib.ListN.{length, get_or, set, take, drop, length-drop, take-append-drop}
use lib.Seq.{ext_get_or}
use Rattle.algebra.specs.Lists.{onto}
use Rattle.refusals.specs.Numbers.{told}
use Rattle.model.specs.Bytes.{sevens}
use Rattle.model.specs.Counts.{Counts, listed}
use Rattle.model.specs.Run.{Outcome}
use Rattle.model.specs.Replay.{Replayed}
use Rattle.machine.specs.declared.run.Answer.{Answer}
use Rattle.machine.specs.Answers.{outcome_of}
use Rattle.jundrethol.specs.Lent.{lent, joined, flags, Delivered, Handed, HandedReplay}

joined_sevens : (w : ℕ) (cells : List ℕ) → length cells ≡ 7 * w → joined (sevens w cells) ≡ cells
unfolding joined sevens
joined_sevens zero [] h = refl
joined_sevens zero (x ∷ xs) h = absurd (omega arith)
joined_sevens (suc w) cells h = rw (joined_sevens w (drop 7 cells) (rw length-drop (omega arith))) (take-append-drop 7 cells)

pub length_flags : (xs : List Bool) → length (flags xs) ≡ length xs
unfolding flags
length_flags [] = refl
length_flags (x ∷ xs) = ap suc (length_flags xs)

pub flag_at : (xs : List Bool) (i : ℕ) → i < length xs → cond (get_or xs i false) 1 0 ≡ get_or (flags xs) i 0
unfolding flags
flag_at [] i h = absurd (omega arith)
flag_at (x ∷ xs) zero h = refl
flag_at (x ∷ xs) (suc i) h = flag_at xs i (omega arith)

-- marks as numbers, one by one
pub flags_from : (xs : List Bool) (ys : List ℕ) → length ys ≡ length xs → ((i : ℕ) → i < length xs → get_or ys i 0 ≡ cond (get_or xs i false) 1 0) → ys ≡ flags xs
flags_from xs ys e k = ext_get_or 0 ys (flags xs) (e ∙ sym (length_flags xs)) (λ i h. k i (omega arith) ∙ flag_at xs i (omega arith))

module _ (a : Answer) {log shown : List ℕ} {o : Outcome} {cells₀ cells marks₀ marks counts₀ counts : List ℕ} where
  pub handed : {n : ℕ} → n ≡ told a.ended → length a.table.cells ≡ 448
      → outcome_of a log shown ≡ o
      → Delivered a cells₀ cells marks₀ marks counts₀ counts
      → Handed o n log shown cells₀ cells marks₀ marks counts₀ counts
  handed {n} q h e L =
      subst (λ (x : Outcome). Handed x n log shown cells₀ cells marks₀ marks counts₀ counts) e
      (record {
        number = q;
        log = refl;
        revealed = refl;
        registers = L.registers ∙ ap (λ xs. lent xs cells₀) (sym (joined_sevens 64 a.table.cells h));
        marks = L.marks;
        counts = L.counts;
      })

module _ {number place : ℕ} {own : List ℕ} {spent : Counts} {o : Replayed} {cells₀ cells counts₀ counts : List ℕ} where
  pub handed_replay : {n : ℕ} → n ≡ number → record { number = number; place = place; cells = own; counts = spent } ≡ o
      → cells ≡ lent own cells₀
      → counts ≡ lent (place ∷ listed spent) counts₀
      → HandedReplay o n cells₀ cells counts₀ counts
  handed_replay {n} q e f g =
      subst (λ (x : Replayed). HandedReplay x n cells₀ cells counts₀ counts) e (record { number = q; cells = f; counts = g })
