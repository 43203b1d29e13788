-- MOD, TRUNC, LTZ, OVER and BLOCKS by their core: what each leaves and opens, by the remainder that it rests on.
-- Assumes nothing.
use mathlib.Core.Path.{◌≡◌, refl, ◌∙◌}
use mathlib.Core.List.{List}
use Prim.Native.Nat.{ℕ, ◌-◌, ◌^◌}
use Rattle.model.specs.Steps.{Setting, Row, Deal, Step, plus, minus, constant, remainder}
use Rattle.model.proofs.StepLaws.{floor_is, sign_is, over_is, blocks_is}
use Rattle.sharing.specs.Settings.{setting_of}
use Rattle.sharing.specs.declared.setting.Setting as Code
use Rattle.cuts.specs.declared.cut.Cut.{Cut}
use Rattle.cuts.specs.declared.cut.Cut.TheVariants.{Mod, Trunc, Ltz, Over, Blocks}
use Rattle.steps.specs.declared.places.Places.{Places}
use Rattle.steps.specs.Promises.{MaskedLeaves}
use Rattle.cuts.specs.Cuts.{width_of, low_of, cut_step, before_row, after_row}

module _ (S : Setting) where
  -- the step that leaves another row
  abbrev leaving : (Row → Row) → Step → Step
  leaving f x = record { left = f x.left; opened = x.opened; deal = x.deal }

  sign_parts : (k : ℕ) (a : Row) (d : Deal) → cut_step S (Ltz k) a d ≡ leaving (after_row S (Ltz k) a) (remainder S k (k - 1) a d)
  sign_parts k a d = rw (sign_is S k a d, floor_is S k (k - 1) a d)

  cut_parts : (c : Cut) (a : Row) (d : Deal)
      → (let x = before_row S c a in cut_step S c a d ≡ leaving (after_row S c x) (remainder S (width_of c) (low_of c) x d))
  cut_parts (Mod k m) a d = refl
  cut_parts (Trunc k m) a d = floor_is S k m a d
  cut_parts (Ltz k) a d = sign_parts k a d
  cut_parts (Over k v) a d = over_is S k v a d ∙ sign_parts k (minus S (constant S v) a) d
  cut_parts (Blocks k m) a d = blocks_is S k m a d ∙ floor_is S k m (plus S a (constant S (2 ^ m - 1))) d

pub cut_leaves : {s : List ℕ} {S : Code.Setting} {at : Places} {log log' : List ℕ} {r : List Row} (c : Cut) (a : Row) {k m : ℕ} {x y row : Row}
    → k ≡ width_of c → m ≡ low_of c → x ≡ before_row (setting_of S) c a → MaskedLeaves s S at r m (remainder (setting_of S) k m x) y log log'
    → row ≡ after_row (setting_of S) c x y → MaskedLeaves s S at r (low_of c) (cut_step (setting_of S) c a) row log log'
cut_leaves {S = S} c a ek em ex L er d e D =
    let B = rw (ek, em, ex) at (L d e (rw em D)) in
    rw (cut_parts (setting_of S) c a d) (record { row_is = er ∙ rw (ex, B.row_is); log_is = B.log_is })
