-- All laws hold.
-- Assumes nothing.
use Rattle.model.specs.Laws.{Laws}
use Rattle.model.proofs.Fields.{fields_tested, parties_tested, every_field}
use Rattle.model.proofs.Coding.{every_coding}
use Rattle.model.proofs.Presence.{presence}
use Rattle.model.proofs.WholeScript.{whole_script}
use Rattle.model.proofs.StepLaws.{every_column, every_step, every_command, run_by_commands}
use Rattle.model.proofs.Stretches.{stretches}
use Rattle.model.proofs.Dividing.{one_division, one_begun}
use Rattle.model.proofs.Formulas.{every_formula}
use Rattle.model.proofs.Shamir.{every_sharing}
use Rattle.model.proofs.Entries.{every_entry}
use Rattle.model.proofs.CodeEntries.{every_code_entry}
use Rattle.model.proofs.SumFirst.{sum_first}
use Rattle.model.proofs.Making.{making}
use Rattle.model.proofs.ReadsOnly.{reads_only}
use Rattle.model.proofs.Exactness.{exactness}
use Rattle.model.proofs.Balance.{balance}
use Rattle.model.proofs.Refusals.{numbers, nothing_run}
use Rattle.model.proofs.Buffers.{no_run_outgrows, all_held}
use Rattle.model.proofs.Secrecy.{secrecy}
use Rattle.model.proofs.RealRuns.{real_runs}
use Rattle.model.proofs.PresentRuns.{present_runs}
use Rattle.model.proofs.CallReading.{reads}
use Rattle.model.proofs.CallLists.{call_lists}
use Rattle.model.proofs.ColumnForms.{every_form}
use Rattle.model.proofs.Forecasts.{forecasts}
use Rattle.model.proofs.Replays.{replays}

pub laws : Laws
laws =
    record {
      fields_tested = fields_tested;
      parties_tested = parties_tested;
      every_field = every_field;
      every_coding = every_coding;
      presence = presence;
      whole_script = whole_script;
      every_column = every_column;
      every_step = every_step;
      every_command = every_command;
      run_by_commands = run_by_commands;
      stretches = stretches;
      one_division = one_division;
      one_begun = one_begun;
      every_formula = every_formula;
      every_sharing = every_sharing;
      every_entry = every_entry;
      every_code_entry = every_code_entry;
      sum_first = sum_first;
      making = making;
      reads_only = reads_only;
      exactness = exactness;
      balance = balance;
      numbers = numbers;
      nothing_run = nothing_run;
      no_run_outgrows = no_run_outgrows;
      all_held = all_held;
      secrecy = secrecy;
      real_runs = real_runs;
      present_runs = present_runs;
      reads = reads;
      call_lists = call_lists;
      column_forms = every_form;
      forecasts = forecasts;
      replays = replays;
    }
