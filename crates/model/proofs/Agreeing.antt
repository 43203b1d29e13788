-- Rows that agree in a set's columns: what the row operations make of such rows agrees there too.
-- Assumes nothing.
use mathlib.Core.Path.{◌≡◌, refl, sym, ap₂, ◌∙◌}
use mathlib.Core.List.{List, [], ◌∷◌, ◌++◌}
use Prim.Native.Nat.{ℕ, zero, suc, ◌≤◌}
use Rattle.algebra.specs.Ring.{add, sub, mul}
use Rattle.algebra.specs.Rows.{on}
use Rattle.algebra.proofs.Rows.{row_at_lem}
use Rattle.model.specs.Sharing.{at}
use Rattle.model.specs.Shamir.{Group, Agree}
use Rattle.model.specs.Steps.{Setting, Row, row_ops, plus, minus, times}
use Rattle.model.specs.Secrecy.{Alike, end}
use Rattle.model.specs.Secrecy as Secrecy
use Rattle.model.proofs.Each.{Each, no_more, and}
use Rattle.model.proofs.Pairs.{Keep}

module _ {set : List ℕ} where
  pub agree_refl : (x : Row) → Agree set x x
  agree_refl x = record { same = λ z m. refl }

  pub agree_sym : {x y : Row} → Agree set x y → Agree set y x
  agree_sym a = record { same = λ z m. sym (a.same z m) }

  pub agree_trans : {x y z : Row} → Agree set x y → Agree set y z → Agree set x z
  agree_trans a b = record { same = λ z m. a.same z m ∙ b.same z m }

  -- lists of rows
  pub alike_refl : (xs : List Row) → Alike set xs xs
  alike_refl [] = end
  alike_refl (x ∷ xs) = Secrecy.row (agree_refl x) (alike_refl xs)

  pub alike_sym : {xs ys : List Row} → Alike set xs ys → Alike set ys xs
  alike_sym end = end
  alike_sym (Secrecy.row a as') = Secrecy.row (agree_sym a) (alike_sym as')

  pub alike_append : {xs xs' ys ys' : List Row} → Alike set xs xs' → Alike set ys ys' → Alike set (xs ++ ys) (xs' ++ ys')
  alike_append end b = b
  alike_append (Secrecy.row a as') b = Secrecy.row a (alike_append as' b)

  pub alike_each : {xs ys : List Row} → Alike set xs ys → Each (Agree set) xs ys
  alike_each end = no_more
  alike_each (Secrecy.row a as') = and a (alike_each as')

  pub each_alike : {xs ys : List Row} → Each (Agree set) xs ys → Alike set xs ys
  each_alike no_more = end
  each_alike (and a as') = Secrecy.row a (each_alike as')

module _ (S : Setting) {set : List ℕ} (G : Group S.n S.t set) where
  agree_on : (op : ℕ → ℕ → ℕ) {x x' y y' : Row} → Agree set x x' → Agree set y y' → Agree set (on op S.n x y) (on op S.n x' y')
  agree_on op {x} {x'} {y} {y'} a b = record { same = λ z m. go z (G.least z m) (G.points.most z m) (a.same z m) (b.same z m) }
    where
      go : (z : ℕ) → 1 ≤ z → z ≤ S.n → at 0 x z ≡ at 0 x' z → at 0 y z ≡ at 0 y' z → at 0 (on op S.n x y) z ≡ at 0 (on op S.n x' y') z
      go zero l h e f = refl
      go (suc j) l h e f = row_at_lem S.n _ j h ∙ ap₂ op e f ∙ sym (row_at_lem S.n _ j h)

  pub agree_plus : {x x' y y' : Row} → Agree set x x' → Agree set y y' → Agree set (plus S x y) (plus S x' y')
  unfolding plus
  agree_plus = agree_on (add S.p)

  pub agree_minus : {x x' y y' : Row} → Agree set x x' → Agree set y y' → Agree set (minus S x y) (minus S x' y')
  unfolding minus
  agree_minus = agree_on (sub S.p)

  pub agree_times : (c : ℕ) {x x' : Row} → Agree set x x' → Agree set (times S c x) (times S c x')
  unfolding times
  agree_times c a = agree_on (λ a _. mul S.p c a) a a

  pub agree_keep : Keep (Agree set) (row_ops S) (row_ops S)
  agree_keep = record { plus = agree_plus; minus = agree_minus; times = agree_times; constant = λ v. agree_refl _ }
