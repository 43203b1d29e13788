-- One party's column, worked by the record: what a step asks, and what it comes to.
-- Assumes nothing.
use Rattle.std.specs.Prelude.{◌≡◌, List, ℕ, ◌+◌, ◌*◌, ◌≤◌, ◌<◌, length, drop, Result, MatchResult}
use Rattle.model.specs.Presence.{everyone}
use Rattle.model.specs.Deal.{Setting, Row, Deal}
use Rattle.model.specs.Trees.{Tree}
use Rattle.model.specs.Trees as Trees
use Rattle.model.specs.Steps.{row_ops}
use Rattle.model.specs.Sheet.{masks_from, triples_from}
use Rattle.model.specs.Replay.{Read, stopped, one_column, from_record, by_record}
use Rattle.refusals.specs.declared.Refusal.{Refusal}
use Rattle.refusals.specs.Numbers.{number_of}
use Rattle.secret.specs.declared.Row.{Row as Shares}
use Rattle.sharing.specs.Settings.{setting_of, Fitting}
use Rattle.from_record.specs.Reading.{Reading}
use Rattle.column_steps.specs.declared.column.Column.{Column}
use Rattle.column_steps.specs.declared.column.Ahead.{Ahead}

-- the setting of the table whose record it is: its rows have n shares
abbrev pub table_of : Column → Setting
table_of c = record { p = c.setting.p; l = c.setting.l; n = c.reader.n; t = c.reader.t; present = everyone c.reader.n }

-- the setting of the column itself, and what is done to its rows
abbrev pub own_of : Column → Setting
own_of c = one_column (table_of c)

pub record Working (c : Column) : Type 0 where
  pub fitting : Fitting c.setting
  pub own : setting_of c.setting ≡ own_of c
  pub same_p : c.reader.p ≡ c.setting.p
  pub reading : Reading c.reader

-- the places past k triples, with two openings each, and past a mask of l bits, with one opening; a share is 4 bytes
abbrev pub past : Ahead → ℕ → Ahead
past at k = record { mask = at.mask; triple = at.triple + 12 * k; opening = at.opening + 2 * k }

abbrev pub past_mask : ℕ → Ahead → Ahead
past_mask l at = record { mask = at.mask + 4 * l; triple = at.triple; opening = at.opening + 1 }

-- m masks and k triples are there from their places on, and what was read of the record is there
pub record Standing (c : Column) (part log : List ℕ) (at : Ahead) (m k : ℕ) : Type 0 where
  pub masks : at.mask + m * (4 * c.setting.l) ≤ length part
  pub triples : at.triple + 12 * k ≤ length part
  pub openings : c.reader.n * at.opening ≤ length log

-- what is left of the deal, M masks and T triples, and of the record
abbrev pub deal_from : Column → List ℕ → Ahead → ℕ → ℕ → Deal
deal_from c part at M T = record { masks = masks_from part 1 c.setting.l at.mask M; triples = triples_from part 1 at.triple T }

abbrev pub record_from : Column → List ℕ → ℕ → List ℕ
record_from c log read = drop (c.reader.n * read) log

-- a tree that ends with registers, read from there on
abbrev pub read_from : Column → List ℕ → List ℕ → Ahead → ℕ → ℕ → Tree Row (List Row) → Read (List Row)
read_from c part log at M T tree = by_record (table_of c) c.reader.party tree (deal_from c part at M T) (record_from c log at.opening)

-- an opening of the row x, so many having been read: whatever follows goes on with the value v
pub record OpensTo (c : Column) (log : List ℕ) (read : ℕ) (x : Row) (v : ℕ) : Type 0 where
  pub reads : (go : ℕ → List ℕ → Read (List Row)) → from_record (table_of c) c.reader.party x (record_from c log read) go ≡ go v (record_from c log (read + 1))
  pub there : c.reader.n * (read + 1) ≤ length log
  pub below : v < c.setting.p

-- or it is refused
pub record StopsAt (c : Column) (log : List ℕ) (read : ℕ) (x : Row) (e : Refusal) : Type 0 where
  pub reads : (go : ℕ → List ℕ → Read (List Row)) → from_record (table_of c) c.reader.party x (record_from c log read) go ≡ stopped (number_of e)

abbrev pub OpensNext : Column → List ℕ → ℕ → Row → Result ℕ Refusal → Type 0
OpensNext c log read x r = MatchResult r (OpensTo c log read x) (StopsAt c log read x)

-- a step, and what follows
abbrev pub Builder : Type 0
Builder = (Row → Tree Row (List Row)) → Tree Row (List Row)

-- A step with m masks and k triples, at these places: whatever follows goes on from the row x, with the next places.
pub record ComesTo (c : Column) (part log : List ℕ) (at next : Ahead) (m k : ℕ) (step : Builder) (x : Row) : Type 0 where
  pub reads : (M T : ℕ) (go : Row → Tree Row (List Row)) → read_from c part log at (m + M) (k + T) (step go) ≡ read_from c part log next M T (go x)
  pub there : c.reader.n * next.opening ≤ length log

-- or it is refused
pub record Stops (c : Column) (part log : List ℕ) (at : Ahead) (m k : ℕ) (step : Builder) (e : Refusal) : Type 0 where
  pub reads : (M T : ℕ) (go : Row → Tree Row (List Row)) → read_from c part log at (m + M) (k + T) (step go) ≡ stopped (number_of e)

abbrev pub Comes : Column → List ℕ → List ℕ → Ahead → Ahead → ℕ → ℕ → Builder → Result Shares Refusal → Type 0
Comes c part log at next m k step r = MatchResult r (λ x. ComesTo c part log at next m k step x.shares) (Stops c part log at m k step)

-- BITLT as a step
abbrev pub compared : Column → ℕ → List Row → Builder
compared c v bits go = Trees.comparison (row_ops (own_of c)) v bits go
