-- The lines of a script on one party's column, as the code works them.
-- Assumes nothing.
use Rattle.std.specs.Prelude.{◌≡◌, List, ℕ, ◌+◌, ◌*◌, length, replicate}
use Rattle.refusals.specs.Numbers.{told}
use Rattle.model.specs.Bytes.{sevens}
use Rattle.model.specs.Commands.{Ended}
use Rattle.model.specs.Deal.{Row, no_row}
use Rattle.model.specs.Fields.{Field}
use Rattle.model.specs.Run.{nothing_spent}
use Rattle.model.specs.Script.{Script, accepted, refused, script_of}
use Rattle.model.specs.Sheet.{rows_at, masks_from, triples_from}
use Rattle.model.specs.Replay.{replay_lines}
use Rattle.sheet.specs.declared.frame.Frame.{Frame}
use Rattle.script.specs.Meaning.{script_number}
use Rattle.costs.specs.Costing.{spent_of, supply_in}
use Rattle.column_steps.specs.Reads.{table_of, Working}
use Rattle.column_commands.specs.declared.own.Own.{Own}
use Rattle.replay.specs.declared.lines.Stopped.{Stopped}

-- a party's column and the frame of its header belong together, the part has the length that the frame implies, and 9 to 11 do not refuse the script
pub record Prepared (o : Own) (f : Frame) (script part : List ℕ) : Type 0 where
  pub working : Working o.column
  pub field : Field f.p f.l f.largest
  pub p_is : o.column.setting.p ≡ f.p
  pub l_is : o.column.setting.l ≡ f.l
  pub largest_is : o.largest ≡ f.largest
  pub n_is : o.column.reader.n ≡ f.n
  pub inputs_is : o.inputs ≡ f.inputs
  pub mask_is : o.mask ≡ 4 * f.inputs
  pub triple_is : o.triple ≡ 4 * f.inputs + 4 * f.l * f.masks
  pub part_is : length part ≡ 4 * (f.inputs + (f.l * f.masks + 3 * f.triples))
  pub unrefused : script_number (script_of f.p f.largest script) ≡ 0

-- how a replay ended, as the code has it
abbrev pub ended_of : Stopped → Ended Row
ended_of r = record { number = told r.ended; place = r.place; spent = spent_of r.table.spent; registers = sevens 64 r.table.cells }

-- and as the definition has it, of a script's lines
abbrev pub script_replayed : Own → Frame → List ℕ → List ℕ → Script → Ended Row
script_replayed o f part log (refused number place) = record { number = number; place = place; spent = nothing_spent; registers = replicate 64 no_row }
script_replayed o f part log (accepted xs end) =
    replay_lines (table_of o.column) o.column.reader.party (supply_in f 10850 511) (rows_at part 1 0 o.inputs) end xs nothing_spent (replicate 64 no_row)
    (record { masks = masks_from part 1 o.column.setting.l o.mask f.masks; triples = triples_from part 1 o.triple f.triples }) log

abbrev pub lines_replayed : Own → Frame → List ℕ → List ℕ → List ℕ → Ended Row
lines_replayed o f script part log = script_replayed o f part log (script_of f.p f.largest script)
