-- The theorems of this crate, all but the computed Cases, in the order of their files. Each is closed: it names all that it is claimed of.
-- Assumes nothing.
use Rattle.model.specs.Fields.{FieldsTested, PartiesTested, EveryField}
use Rattle.model.specs.Coding.{EveryCoding}
use Rattle.model.specs.Presence.{Presence}
use Rattle.model.specs.Script.{WholeScript}
use Rattle.model.specs.Parts.{EveryColumn, EveryStep, EveryCommand, RunByCommands}
use Rattle.model.specs.Stretches.{Stretches}
use Rattle.model.specs.Formulas.{OneDivision, OneBegun, EveryFormula}
use Rattle.model.specs.Shamir.{EverySharing, EveryEntry, EveryCodeEntry}
use Rattle.model.specs.SumFirst.{SumFirst}
use Rattle.model.specs.Making.{Making}
use Rattle.model.specs.ReadsOnly.{ReadsOnly}
use Rattle.model.specs.Exactness.{Exactness, Balance}
use Rattle.model.specs.Refusals.{Numbers, NothingRun}
use Rattle.model.specs.Buffers.{NoRunOutgrows, AllHeld}
use Rattle.model.specs.Secrecy.{Secrecy}
use Rattle.model.specs.RealRuns.{RealRuns}
use Rattle.model.specs.PresentRuns.{PresentRuns}
use Rattle.model.specs.CallLists.{Reads, CallLists}
use Rattle.model.specs.ColumnForms.{ColumnForms}
use Rattle.model.specs.Forecasts.{Forecasts}
use Rattle.model.specs.Replays.{Replays}

pub record Laws : Type 0 where
  pub fields_tested : FieldsTested
  pub parties_tested : PartiesTested
  pub every_field : EveryField
  pub every_coding : EveryCoding
  pub presence : Presence
  pub whole_script : WholeScript
  pub every_column : EveryColumn
  pub every_step : EveryStep
  pub every_command : EveryCommand
  pub run_by_commands : RunByCommands
  pub stretches : Stretches
  pub one_division : OneDivision
  pub one_begun : OneBegun
  pub every_formula : EveryFormula
  pub every_sharing : EverySharing
  pub every_entry : EveryEntry
  pub every_code_entry : EveryCodeEntry
  pub sum_first : SumFirst
  pub making : Making
  pub reads_only : ReadsOnly
  pub exactness : Exactness
  pub balance : Balance
  pub numbers : Numbers
  pub nothing_run : NothingRun
  pub no_run_outgrows : NoRunOutgrows
  pub all_held : AllHeld
  pub secrecy : Secrecy
  pub real_runs : RealRuns
  pub present_runs : PresentRuns
  pub reads : Reads
  pub call_lists : CallLists
  pub column_forms : ColumnForms
  pub forecasts : Forecasts
  pub replays : Replays
