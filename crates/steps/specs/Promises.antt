-- What the steps promise: the row that the paper's step leaves, and in the record what it opened.
-- Assumes nothing.
use Rattle.std.specs.Prelude.{◌≡◌, List, [], ◌∷◌, ℕ, ◌+◌, ◌<◌}
use Rattle.algebra.specs.Lists.{onto_at}
use Rattle.model.specs.Costs.{mod_triples}
use Rattle.model.specs.Sheet.{rows_at, triples_from}
use Rattle.model.specs.Steps.{Row, Deal, Step, written, value, next_mask, step_of}
use Rattle.model.specs.Trees.{Tree}
use Rattle.sharing.specs.Settings.{setting_of}
use Rattle.sharing.specs.declared.setting.Setting.{Setting}
use Rattle.steps.specs.declared.places.Places.{Places}

-- "Opening: the n shares go to the record, party 1 first, and the value at 0 becomes public.": v is that value, and the shares, or p for an absent one, stand in
-- the record from a place on
pub record Opens (S : Setting) (at : ℕ) (x : Row) (v : ℕ) (log log' : List ℕ) : Type 0 where
  pub value_is : v ≡ value (setting_of S) x
  pub below : v < S.p
  pub log_is : log' ≡ onto_at at (written (setting_of S) (x ∷ [])) log

-- the deal's next k triples are those of the sheet's bytes s from their place on
pub record Dealt (s : List ℕ) (S : Setting) (at : Places) (k : ℕ) (d : Deal) : Type 0 where
  pub more : ℕ
  pub triples : d.triples ≡ triples_from s S.n at.triple (k + more)

-- the row is the one that the step left, and the record has the shares that it opened, from their place on
pub record Left (S : Setting) (at : Places) (x : Step) (row : Row) (log log' : List ℕ) : Type 0 where
  pub row_is : row ≡ x.left
  pub log_is : log' ≡ onto_at at.log (written (setting_of S) x.opened) log

-- so for every deal with k such triples
abbrev pub StepLeaves : List ℕ → Setting → Places → ℕ → (Deal → Step) → Row → List ℕ → List ℕ → Type 0
StepLeaves s S at k step row log log' = (d : Deal) → Dealt s S at k d → Left S at (step d) row log log'

-- the same of a tree, worked on rows
abbrev pub Works : List ℕ → Setting → Places → ℕ → Tree Row Row → Row → List ℕ → List ℕ → Type 0
Works s S at k T row log log' = StepLeaves s S at k (step_of (setting_of S) T) row log log'

-- the rows of the mask at its place
abbrev pub mask_at : List ℕ → Setting → Places → List Row
mask_at s S at = rows_at s S.n at.mask S.l

-- so for every deal whose next mask is r as well, with the triples of MOD of m
abbrev pub MaskedLeaves : List ℕ → Setting → Places → List Row → ℕ → (Deal → Step) → Row → List ℕ → List ℕ → Type 0
MaskedLeaves s S at r m step row log log' =
    (d : Deal) → next_mask (setting_of S) d ≡ r → Dealt s S at (mod_triples S.l m) d → Left S at (step d) row log log'
