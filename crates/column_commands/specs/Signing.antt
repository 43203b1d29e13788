-- LTZS on one column: the places past some signs, and what it comes to.
-- Assumes nothing.
use Rattle.std.specs.Prelude.{◌≡◌, List, ℕ, ◌+◌, ◌-◌, ◌*◌, ◌≤◌, length, Result, MatchResult}
use Rattle.model.specs.Bytes.{sevens}
use Rattle.model.specs.Commands.{registers_from, signs}
use Rattle.model.specs.Costs.{mod_triples}
use Rattle.model.specs.Deal.{Row, no_row}
use Rattle.model.specs.Steps.{row_ops}
use Rattle.model.specs.Trees.{Tree}
use Rattle.model.specs.Trees as Trees
use Rattle.model.specs.Replay.{stopped}
use Rattle.refusals.specs.declared.Refusal.{Refusal}
use Rattle.refusals.specs.Numbers.{number_of}
use Rattle.registers.specs.declared.table.Table.{Table}
use Rattle.column_steps.specs.declared.column.Column.{Column}
use Rattle.column_steps.specs.declared.column.Ahead.{Ahead}
use Rattle.column_steps.specs.Reads.{own_of, read_from}

-- past h signs with k: a mask and the triples of MOD with m = k − 1 each
abbrev pub past_signs : Column → ℕ → Ahead → ℕ → Ahead
past_signs c k at h =
    let n = mod_triples c.setting.l (k - 1) in
    record { mask = at.mask + h * (4 * c.setting.l); triple = at.triple + 12 * (h * n); opening = at.opening + h * (1 + 2 * n) }

-- the signs of h registers from a on, of the registers g, into those from d on, of the registers w; and what follows
abbrev pub signs_tree : Column → ℕ → List Row → ℕ → ℕ → ℕ → List Row → (List Row → Tree Row (List Row)) → Tree Row (List Row)
signs_tree c k g a h d w go =
    signs c.setting.p (row_ops (own_of c)) no_row (Trees.remainder c.setting.p (row_ops (own_of c))) k (registers_from no_row g a h) d w go

-- whatever follows goes on from the registers that are left
pub record SignsTo (c : Column) (part log : List ℕ) (at : Ahead) (d a h k : ℕ) (cells cells' : List ℕ) : Type 0 where
  pub reads : (M T : ℕ) (go : List Row → Tree Row (List Row))
      → read_from c part log at (h + M) (h * mod_triples c.setting.l (k - 1) + T) (signs_tree c k (sevens 64 cells) a h d (sevens 64 cells) go)
      ≡ read_from c part log (past_signs c k at h) M T (go (sevens 64 cells'))
  pub there : c.reader.n * (past_signs c k at h).opening ≤ length log

-- or it is refused
pub record SignsStop (c : Column) (part log : List ℕ) (at : Ahead) (d a h k : ℕ) (cells : List ℕ) (e : Refusal) : Type 0 where
  pub reads : (M T : ℕ) (go : List Row → Tree Row (List Row))
      → read_from c part log at (h + M) (h * mod_triples c.setting.l (k - 1) + T) (signs_tree c k (sevens 64 cells) a h d (sevens 64 cells) go) ≡ stopped (number_of e)

abbrev pub SignsCome : Column → List ℕ → List ℕ → Ahead → ℕ → ℕ → ℕ → ℕ → Table → Result Table Refusal → Type 0
SignsCome c part log at d a h k t r = MatchResult r (λ t'. SignsTo c part log at d a h k t.cells t'.cells × (t'.spent ≡ t.spent)) (SignsStop c part log at d a h k t.cells)
