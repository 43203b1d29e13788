-- Replay against the run of an accepted sheet: from the record that the run wrote, whatever follows it, a party's replay is the party's column of the outcome.
-- Assumes nothing.
use mathlib.Core.Path.{◌≡◌, refl, sym, ap, ◌∙◌}
use mathlib.Core.Logic.{◌≢◌}
use mathlib.Core.List.{List, [], ◌++◌, append-nil, map}
use Prim.Native.Nat.{ℕ, zero, suc, ◌*◌, ◌≤◌, ◌<◌}
use native.Mathlib.Omega.{arith}
use lib.ListN.{length, get_or, replicate}
use lib.Seq.{take_at}
use Rattle.algebra.specs.Lists.{All, onto}
use Rattle.model.specs.Sharing.{Sharing}
use Rattle.model.specs.Deal.{Setting, Row, no_row}
use Rattle.model.specs.Steps.{Worked, written, by_rows}
use Rattle.model.specs.Commands.{Ended}
use Rattle.model.specs.Sheet.{Header, header_of, setting_with, setting_of, script_in, input_in, deal_in}
use Rattle.model.specs.Run.{Stop, row_lines, run_lines, nothing_spent, start, outcome, supply_of, stop_of, run}
use Rattle.model.specs.Exactness.{Accepted}
use Rattle.model.specs.Refusals.{From}
use Rattle.model.specs.Columns.{column_form, part_of}
use Rattle.model.specs.Forecast.{head_in, ample_supply}
use Rattle.model.specs.Replay.{replay_lines, replayed_by, replay_script, replay}
use Rattle.model.specs.Replays.{column_of, record_of, stopped_short}
use Rattle.model.proofs.Each.{each_replicate}
use Rattle.model.proofs.Pairs.{PairedEnds}
use Rattle.model.proofs.Lengths.{fitting}
use Rattle.model.proofs.Acceptance.{Sound, sound}
use Rattle.model.proofs.Exactness.{exactness}
use Rattle.model.proofs.Buffers.{Other, at_start, script_length}
use Rattle.model.proofs.Secrecy.{own_stop}
use Rattle.model.proofs.Forecasts.{same_header, same_script}
use Rattle.model.proofs.OneColumn.{Column, column_row, column_deal, no_column, own_shares}
use Rattle.model.proofs.ReplayLines.{Replaying, replays}
use Rattle.model.proofs.ReplayReady.{part_is, none_refuses}

-- the run of an accepted sheet with any buffers, and party i + 1's replay
module _ {present : ℕ} {s : List ℕ} (A : Accepted present s) (log revealed : List ℕ) (i : ℕ) (l : i < (header_of s).n) where
  abbrev h : Header
  h = header_of s

  abbrev S : Setting
  S = setting_with present h

  abbrev stop : Stop
  stop = stop_of present s (length log) (length revealed)

  -- what its lines leave
  abbrev w : Worked (Ended Row)
  w = by_rows S (row_lines S (supply_of h (length log) (length revealed)) (input_in h s) A.end A.lines nothing_spent (replicate 64 no_row)) (deal_in h s)

  stop_is : stop ≡ run_lines S (supply_of h (length log) (length revealed)) (input_in h s) A.end A.lines (start (deal_in h s))
  stop_is = own_stop present s A.lines A.end A.number A.script (length log) (length revealed)

  -- the rows that they open are sharings, and are written with n numbers each
  sharings : All (Sharing S.p S.n S.t) w.opened
  unfolding run_lines start
  sharings = let X = exactness present s (length log) (length revealed) A in rw stop_is at (X.right _ _ _ _ X.stops.passes).opened

  written_length : length (written S w.opened) ≡ h.n * w.left.spent.counts.openings
  unfolding run_lines start
  written_length = let X = exactness present s (length log) (length revealed) A in rw stop_is at (X.counted _ _ _ _ X.stops.passes).numbers

  -- the lines, read from the record
  abbrev read : List ℕ → Ended Row
  read rest =
      replay_lines (setting_of h) (suc i) (ample_supply h) (map (column_row i) (input_in h s)) A.end A.lines nothing_spent (replicate 64 no_row)
      (column_deal i (deal_in h s)) (written S w.opened ++ rest)

  abbrev Q : Sound present s
  Q = sound present s A.number

  replaying : (rest : List ℕ) → Replaying h present Q.permitted.field Q.permitted.people Q.permitted_set_lem i l w.left rest (read rest)
  unfolding nothing_spent
  replaying rest =
      let F = fitting h Q.permitted in
      replays h present Q.permitted.field Q.permitted.people Q.permitted_set_lem i l F (length log) (length revealed) (input_in h s) A.end A.lines
      nothing_spent (replicate 64 no_row) (replicate 64 no_row) (deal_in h s) (at_start _ _ (script_in h s) A.script (omega (arith, script_length h s)))
      (omega arith, omega arith) (each_replicate 64 no_row no_row (no_column i)) rest sharings

  replay_is : (rest : List ℕ) → replay (suc i) (head_in s) (part_of h (suc i) (column_form s)) (written S w.opened ++ rest) ≡ replayed_by (read rest)
  unfolding replay replay_script
  replay_is rest = rw (none_refuses A i l, same_script s, same_header s, A.script, (part_is A i l).0, (part_is A i l).1) refl

  column_is : {e e' : Ended Row} → PairedEnds (Column i) e e'
      → replayed_by e' ≡ record { number = e.number; place = e.place; cells = map (λ (x : Row). get_or x i 0) e.registers; counts = e.spent.counts }
  column_is P =
      λ k. record {
        number = sym P.number k;
        place = sym P.place k;
        cells = sym (own_shares i P.registers) k;
        counts = (sym P.spent k).counts;
      }

  -- from what the run wrote, and then whatever follows
  replayed : Other (run present s log revealed).number → (rest : List ℕ)
      → replay (suc i) (head_in s) (part_of h (suc i) (column_form s)) (written S w.opened ++ rest) ≡ column_of (suc i) (run present s log revealed)
  unfolding run outcome run_lines start
  replayed o rest =
      rw stop_is (replay_is rest ∙ column_is ((replaying rest).alike (rw stop_is at o)))

  -- from what a run wrote that 25 or 26 stopped
  cut_short : From 25 26 (run present s log revealed).number
      → replay (suc i) (head_in s) (part_of h (suc i) (column_form s)) (written S w.opened) ≡ stopped_short (suc i) (run present s log revealed)
  unfolding run outcome run_lines start
  cut_short f =
      rw stop_is
      (ap (replay (suc i) (head_in s) (part_of h (suc i) (column_form s))) (sym (append-nil (written S w.opened)))
      ∙ replay_is [] ∙ column_is ((replaying []).short (rw stop_is at f) refl))

  log_is : (run present s log revealed).log ≡ onto (written S w.opened) log
  unfolding run outcome run_lines start
  log_is = rw stop_is refl

  record_is : record_of s (run present s log revealed) ≡ written S w.opened
  unfolding run outcome run_lines start onto
  record_is = rw stop_is (take_at (written S w.opened) _ _ written_length)

-- the two statements of specs/Replays: from what the run wrote and then whatever follows, and from the whole lent buffer
pub as_run : (present : ℕ) (s log revealed : List ℕ) (j : ℕ) (more : List ℕ) → Accepted present s → 1 ≤ j → j ≤ (header_of s).n
    → let o = run present s log revealed in
    o.number ≢ 25 → o.number ≢ 26 → replay j (head_in s) (part_of (header_of s) j (column_form s)) (record_of s o ++ more) ≡ column_of j o
as_run present s log revealed zero more A a b e f = absurd (omega arith)
as_run present s log revealed (suc i) more A a b e f = rw (record_is A log revealed i b) (replayed A log revealed i b (e, f) more)

pub from_buffer : (present : ℕ) (s log revealed : List ℕ) (j : ℕ) → Accepted present s → 1 ≤ j → j ≤ (header_of s).n
    → let o = run present s log revealed in
    o.number ≢ 25 → o.number ≢ 26 → replay j (head_in s) (part_of (header_of s) j (column_form s)) o.log ≡ column_of j o
unfolding onto
from_buffer present s log revealed zero A a b e f = absurd (omega arith)
from_buffer present s log revealed (suc i) A a b e f = rw (log_is A log revealed i b) (replayed A log revealed i b (e, f) _)

-- from exactly what a run wrote that 25 or 26 stopped
pub from_short : (present : ℕ) (s log revealed : List ℕ) (j : ℕ) → Accepted present s → 1 ≤ j → j ≤ (header_of s).n
    → let o = run present s log revealed in
    From 25 26 o.number → replay j (head_in s) (part_of (header_of s) j (column_form s)) (record_of s o) ≡ stopped_short j o
from_short present s log revealed zero A a b f = absurd (omega arith)
from_short present s log revealed (suc i) A a b f = rw (record_is A log revealed i b) (cut_short A log revealed i b f)
