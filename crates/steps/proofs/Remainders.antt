-- MOD as the code has it, from its end to its start: each part leaves what its tree leaves, if the part behind it does.
-- Assumes nothing.
use mathlib.Core.Path.{◌≡◌, refl, ◌∙◌}
use mathlib.Core.List.{List, [], ◌∷◌}
use Prim.Native.Nat.{ℕ, zero, suc, ◌+◌, ◌-◌, ◌^◌, ◌≤◌}
use native.Mathlib.Omega.{arith}
use lib.ListN.{take, drop}
use Rattle.model.specs.Bytes.{sevens}
use Rattle.model.specs.Costs.{mod_triples}
use Rattle.model.specs.Steps.{Row, less_mask, plus, minus, constant, spelled, under_mask, by_rows, product, comparison, remainder}
use Rattle.model.specs.Trees as Trees
use Rattle.sharing.specs.Settings.{setting_of}
use Rattle.sharing.specs.declared.setting.Setting.{Setting}
use Rattle.local.specs.declared.remainder.Publics.{Publics}
use Rattle.local.specs.Unmasking.{publics, MaskBits, unmasked_by}
use Rattle.steps.specs.declared.places.Places.{Places}
use Rattle.steps.specs.Places.{past_triples, past_mask, Bits, Room}
use Rattle.steps.specs.Promises.{Opens, StepLeaves, Works, mask_at, MaskedLeaves}
use Rattle.steps.specs.Remainders.{f_triples, after_u1, after_f, after_c}
use Rattle.steps.proofs.Leaving.{log_then, done_leaves, product_then, comparison_then}
use Rattle.steps.proofs.Products.{one_opened}

-- the low bits
low_sevens : (m l : ℕ) (cells : List ℕ) → m ≤ l → take m (sevens l cells) ≡ sevens m cells
unfolding sevens
low_sevens zero l cells h = refl
low_sevens (suc m) zero cells h = absurd (omega arith)
low_sevens (suc m) (suc l) cells h = rw (low_sevens m l (drop 7 cells) (omega arith))

-- the triples of f, and the others
triples_of : (l m : ℕ) → 1 ≤ m → m ≤ l → mod_triples l m ≡ (l - 1) + f_triples m
triples_of l m low high = omega arith

module _ {S : Setting} {m : ℕ} {cells : List ℕ} (L : MaskBits S m cells) where
  pub low_bits : Bits m cells
  low_bits = record { some = L.least; there = omega (arith, L.within, L.there) }

  pub all_bits : Bits S.l cells
  all_bits = record { some = omega (arith, L.least, L.within); there = L.there }

  pub f_room : {s log : List ℕ} {at : Places} → Room s log S at (mod_triples S.l m) → Room s log S at ((S.l - 1) + f_triples m)
  f_room R = rw (triples_of S.l m L.least L.within) at R

module _ {s : List ℕ} {S : Setting} {at : Places} {log log' : List ℕ} {row : Row} where
  pub u1_leaves : (x : Publics) (low : List Row) (f u0 u1 : Row) {d g u : Row} → S.n ≤ 7 → d ≡ minus (setting_of S) u1 u0
      → StepLeaves s S at 1 (product (setting_of S) f d) g log log' → u ≡ plus (setting_of S) u0 g → row ≡ unmasked_by S x low f u
      → Works s S at 1 (after_u1 S x low f u0 u1) row log log'
  u1_leaves x low f u0 u1 h ed P eu er = product_then h {k = 0} f _ _ (rw ed at P) (rw (er, eu) done_leaves)

  pub c_leaves : (m C : ℕ) (cells : List ℕ) {x : Publics} {f : Row} {log'' : List ℕ} → MaskBits S m cells → x ≡ publics S.p m C
      → StepLeaves s S at (S.l - 1) (comparison (setting_of S) C (sevens S.l cells)) f log log'
      → Works s S (past_triples S at (S.l - 1)) (f_triples x.m) (after_f S x (sevens x.m cells) f) row log' log''
      → Works s S at (mod_triples S.l m) (after_c S m C (sevens S.l cells)) row log log''
  c_leaves m C cells L ex A R =
      rw (triples_of S.l m L.least L.within, low_sevens m S.l cells L.within)
      (comparison_then L.fitting.parties C S.l cells _ A (rw ex at R))

  pub mask_leaves : (k m : ℕ) (a : Row) (cells : List ℕ) {x r o : Row} {c : ℕ} {log'' : List ℕ} → S.n ≤ 7 → sevens S.l cells ≡ mask_at s S at
      → x ≡ plus (setting_of S) a (constant (setting_of S) (2 ^ (k - 1))) → r ≡ spelled (setting_of S) (sevens S.l cells) → o ≡ plus (setting_of S) x r
      → Opens S at.log o c log log'
      → Works s S (past_mask S at) (mod_triples S.l m) (after_c S m c (sevens S.l cells)) row log' log''
      → MaskedLeaves s S at (mask_at s S at) m (remainder (setting_of S) k m a) row log log''
  unfolding by_rows remainder Trees.remainder
  mask_leaves k m a cells {x} {r} {o} h bits ex er eo O R d e D =
      let under : o ≡ under_mask (setting_of S) x (mask_at s S at) = eo ∙ rw (er, bits) in
      let B = (rw bits at R) (less_mask d) (record { more = D.more; triples = D.triples }) in
      rw (e, ← ex, ← under, ← O.value_is)
      (record { row_is = B.row_is; log_is = log_then (setting_of S) at.log (o ∷ []) _ log O.log_is (one_opened (setting_of S) o) B.log_is })
