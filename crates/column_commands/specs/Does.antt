-- What a command on one party's column asks, and what it does.
-- Assumes nothing.
use Rattle.std.specs.Prelude.{◌≡◌, List, ℕ, ◌+◌, ◌*◌, ◌^◌, ◌≤◌, ◌<◌, T, length, Ok, Err, Result, MatchResult}
use Rattle.algebra.specs.Lists.{onto_at}
use Rattle.model.specs.Bytes.{sevens}
use Rattle.model.specs.Counts.{Counts, added}
use Rattle.model.specs.Costs.{cost}
use Rattle.model.specs.Deal.{Row}
use Rattle.model.specs.Fields.{Field}
use Rattle.model.specs.Run.{row_command}
use Rattle.model.specs.Script.{Command, in_ranges}
use Rattle.model.specs.Sheet.{rows_at}
use Rattle.model.specs.Trees.{done}
use Rattle.model.specs.Replay.{stopped, finished}
use Rattle.refusals.specs.declared.Refusal.{Refusal}
use Rattle.refusals.specs.Numbers.{number_of}
use Rattle.secret.specs.declared.Row.{Row as Shares}
use Rattle.registers.specs.declared.table.Table.{Table}
use Rattle.column_steps.specs.declared.column.Column.{Column}
use Rattle.column_steps.specs.declared.column.Ahead.{Ahead}
use Rattle.column_steps.specs.Reads.{table_of, own_of, Working, OpensTo, StopsAt, deal_from, record_from, read_from, Builder, ComesTo, Stops}
use Rattle.column_commands.specs.declared.own.Own.{Own}

-- where a column goes on that has spent so much
abbrev pub ahead_of : Own → Counts → Ahead
ahead_of o k = record { mask = o.mask + k.masks * (4 * o.column.setting.l); triple = o.triple + 12 * k.triples; opening = k.openings }

-- these places can be computed
pub record Reached (o : Own) (k : Counts) : Type 0 where
  pub bits : o.column.setting.l ≤ 31
  pub mask : (ahead_of o k).mask < 2 ^ 64
  pub triple : (ahead_of o k).triple < 2 ^ 64

-- the row went to register d
pub record Kept (t : Table) (d : ℕ) (row : Row) (t' : Table) : Type 0 where
  pub seven : length row ≡ 7
  pub size : length t.cells ≡ 448
  pub cells : t'.cells ≡ onto_at (7 * d) row t.cells
  pub spent : t'.spent ≡ t.spent

-- what a step came to: its row goes to register d
abbrev pub Stores : {E : Type 0} → Table → ℕ → Result Shares E → Result Table E → Type 0
Stores t d made r = MatchResult r (λ t'. (row : Shares) × (made ≡ Ok row) × Kept t d row.shares t') (λ e. made ≡ Err e)

-- what the command costs
abbrev pub price_of : Own → Command → Counts
price_of o c = (cost (table_of o.column) c).counts

-- A command may be performed on a column that has spent k: its operands are in range, and inputs, masks and triples suffice.
pub record Ready (o : Own) (part log : List ℕ) (k : Counts) (c : Command) : Type 0 where
  pub working : Working o.column
  pub field : Field o.column.setting.p o.column.setting.l o.largest
  pub ranged : T (in_ranges o.column.setting.p o.largest c)
  pub inputs_there : 4 * o.inputs ≤ length part
  pub loads : k.inputs + (price_of o c).inputs ≤ o.inputs
  pub masks : (ahead_of o (added k (price_of o c))).mask ≤ length part
  pub triples : (ahead_of o (added k (price_of o c))).triple ≤ length part
  pub openings : o.column.reader.n * k.openings ≤ length log

-- A command performed: its tree, read from what is left of deal and record, finishes with these cells.
pub record Finishes (o : Own) (part log : List ℕ) (k : Counts) (c : Command) (cells cells' : List ℕ) : Type 0 where
  pub reads : (M T : ℕ) → let price = price_of o c in
      let next = ahead_of o (added k price) in
      read_from o.column part log (ahead_of o k) (price.masks + M) (price.triples + T)
      (row_command (own_of o.column) (rows_at part 1 0 o.inputs) k.inputs c (sevens 64 cells) done)
      ≡ finished (sevens 64 cells') (deal_from o.column part next M T) (record_from o.column log next.opening)
  pub there : o.column.reader.n * (ahead_of o (added k (price_of o c))).opening ≤ length log

-- or it is refused
pub record Refuses (o : Own) (part log : List ℕ) (k : Counts) (c : Command) (cells : List ℕ) (e : Refusal) : Type 0 where
  pub reads : (M T : ℕ) → read_from o.column part log (ahead_of o k) ((price_of o c).masks + M) ((price_of o c).triples + T)
      (row_command (own_of o.column) (rows_at part 1 0 o.inputs) k.inputs c (sevens 64 cells) done)
      ≡ stopped (number_of e)

abbrev pub Does : Own → List ℕ → List ℕ → Counts → Command → Table → Result Table Refusal → Type 0
Does o part log k c t r = MatchResult r (λ t'. Finishes o part log k c t.cells t'.cells × (t'.spent ≡ t.spent)) (Refuses o part log k c t.cells)

-- a step's row went to register d: with m masks and k triples, from these places to the next ones
pub record StepStored (c : Column) (part log : List ℕ) (at next : Ahead) (m k : ℕ) (step : Builder) (t : Table) (d : ℕ) (t' : Table) : Type 0 where
  pub row : Row
  pub comes : ComesTo c part log at next m k step row
  pub kept : Kept t d row t'

abbrev pub Storing : Column → List ℕ → List ℕ → Ahead → Ahead → ℕ → ℕ → Builder → Table → ℕ → Result Table Refusal → Type 0
Storing c part log at next m k step t d r = MatchResult r (StepStored c part log at next m k step t d) (Stops c part log at m k step)

-- the row x was opened, and the table is as it was
pub record RowRevealed (c : Column) (log : List ℕ) (read : ℕ) (x : Row) (t t' : Table) : Type 0 where
  pub value : ℕ
  pub opens : OpensTo c log read x value
  pub same : t' ≡ t

abbrev pub Reveals : Column → List ℕ → ℕ → Row → Table → Result Table Refusal → Type 0
Reveals c log read x t r = MatchResult r (RowRevealed c log read x t) (StopsAt c log read x)
