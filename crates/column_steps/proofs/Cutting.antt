-- A cut on one column, by the remainder that it rests on.
-- Assumes nothing.
use mathlib.Core.Path.{◌≡◌, refl, subst, ◌∙◌}
use mathlib.Core.List.{List}
use Prim.Native.Nat.{ℕ}
use Rattle.model.specs.Costs.{mod_triples}
use Rattle.model.specs.Deal.{Row}
use Rattle.model.specs.Trees.{floor, sign, over, blocks}
use Rattle.sharing.specs.Settings.{setting_of}
use Rattle.cuts.specs.declared.cut.Cut.{Cut}
use Rattle.cuts.specs.declared.cut.Cut.TheVariants.{Mod, Trunc, Ltz, Over, Blocks}
use Rattle.cuts.specs.Cuts.{width_of, low_of, before_row, after_row}
use Rattle.column_steps.specs.declared.column.Column.{Column}
use Rattle.column_steps.specs.declared.column.Ahead.{Ahead}
use Rattle.refusals.specs.declared.Refusal.{Refusal}
use Rattle.column_steps.specs.Reads.{own_of, Working, Builder, ComesTo, Stops, past, past_mask}
use Rattle.column_steps.specs.Remainders.{modded}
use Rattle.column_steps.specs.Cutting.{cut_tree}
use Rattle.column_steps.proofs.Coming.{made_stops, made_comes}

-- the remainder of a row, and a row made of it
abbrev by_mod : Column → Cut → Row → Builder
by_mod c y a go = let x = before_row (own_of c) y a in modded c (width_of y) (low_of y) x λ z. go (after_row (own_of c) y x z)

cut_is : (c : Column) (y : Cut) (a : Row) → ◌≡◌ {A = Builder} (by_mod c y a) (cut_tree c y a)
unfolding floor sign over blocks
cut_is c (Mod k m) a = refl
cut_is c (Trunc k m) a = refl
cut_is c (Ltz k) a = refl
cut_is c (Over k v) a = refl
cut_is c (Blocks k m) a = refl

module _ {c : Column} (W : Working c) {part log : List ℕ} {at : Ahead} (y : Cut) (a : Row) {k m : ℕ} {x : Row} (ek : k ≡ width_of y) (em : m ≡ low_of y)
    (ex : x ≡ before_row (setting_of c.setting) y a) where
  pub cut_stops : {e : Refusal} → Stops c part log at 1 (mod_triples c.setting.l m) (modded c k m x) e
      → Stops c part log at 1 (mod_triples c.setting.l (low_of y)) (cut_tree c y a) e
  cut_stops {e} S =
      let n = mod_triples c.setting.l (low_of y) in
      let here : Stops c part log at 1 n (modded c (width_of y) (low_of y) (before_row (own_of c) y a)) e = rw W.own at (rw (ek, em, ex) at S) in
      subst (λ (B : Builder). Stops c part log at 1 n B e) (cut_is c y a) (made_stops (after_row (own_of c) y (before_row (own_of c) y a)) here)

  pub cut_comes : {z o : Row} → ComesTo c part log at (past (past_mask c.setting.l at) (mod_triples c.setting.l m)) 1 (mod_triples c.setting.l m) (modded c k m x) z
      → o ≡ after_row (setting_of c.setting) y x z
      → ComesTo c part log at (past (past_mask c.setting.l at) (mod_triples c.setting.l (low_of y))) 1 (mod_triples c.setting.l (low_of y)) (cut_tree c y a) o
  cut_comes {z} {o} C eo =
      let n = mod_triples c.setting.l (low_of y) in
      let next = past (past_mask c.setting.l at) n in
      let here : ComesTo c part log at next 1 n (modded c (width_of y) (low_of y) (before_row (own_of c) y a)) z = rw W.own at (rw (ek, em, ex) at C) in
      let row : o ≡ after_row (own_of c) y (before_row (own_of c) y a) z = eo ∙ rw (ex, W.own) in
      subst (λ (B : Builder). ComesTo c part log at next 1 n B o) (cut_is c y a) (rw row (made_comes (after_row (own_of c) y (before_row (own_of c) y a)) here))
