-- Before the replay of an accepted sheet: a party's part of the column form has the party's column, and none of 1 to 5 refuses.
-- Assumes nothing.
use mathlib.Core.Path.{◌≡◌, refl, ◌∙◌}
use mathlib.Core.List.{List, [], map}
use Prim.Native.Nat.{ℕ, suc, ◌≤◌, ◌<◌}
use native.Mathlib.Omega.{arith}
use lib.Dec.{T, ltb, lt→ltb}
use lib.ListN.{length, get_or}
use Rattle.algebra.specs.Lists.{All, none, one, all_below}
use Rattle.algebra.proofs.Lists.{all_below_lem}
use Rattle.algebra.proofs.Tests.{and_both}
use Rattle.model.specs.Fields.{Modulus, Parties}
use Rattle.model.specs.Sharing.{Sharing}
use Rattle.model.specs.Presence.{everyone}
use Rattle.model.specs.Refusing.{first_failed}
use Rattle.model.specs.Deal.{Row}
use Rattle.model.specs.Sheet.{Header, header_of, inputs_at, input_in, deal_in, header_tests, limit_tests, sheet_number}
use Rattle.model.specs.Exactness.{Accepted}
use Rattle.model.specs.Columns.{column_form, part_of, shares_in, column_in}
use Rattle.model.specs.ColumnForms.{Shaped, InParts}
use Rattle.model.specs.Forecast.{head_in}
use Rattle.model.specs.Replay.{part_input, part_deal, replay_tests}
use Rattle.model.proofs.Fields.{fields}
use Rattle.model.proofs.Trying.{all_pass}
use Rattle.model.proofs.Sharings.{share_lt}
use Rattle.model.proofs.Lengths.{header_passes}
use Rattle.model.proofs.SheetDeal.{implied}
use Rattle.model.proofs.Acceptance.{sound}
use Rattle.model.proofs.PresentRuns.{present_runs}
use Rattle.model.proofs.ColumnForms.{every_form}
use Rattle.model.proofs.Forecasts.{same_header, whole_head}
use Rattle.model.proofs.OneColumn.{column_row, column_deal}
use Rattle.model.proofs.PartColumns.{part_columns}
use Rattle.model.proofs.ReplayTests.{ready}

-- a column of sharings is below p
column_below : {p n t : ℕ} → Modulus p → Parties n t → (i : ℕ) → i < n → {xs : List Row} → All (Sharing p n t) xs → T (all_below p (map (λ (x : Row). get_or x i 0) xs))
unfolding all_below
column_below M P i l none = tt
column_below {p} M P i l (one {x = x} s ss) =
    and_both (ltb (get_or x i 0) p) _ (lt→ltb (get_or x i 0) p (share_lt M P s (suc i) (record { least = omega arith; most = l }))) (column_below M P i l ss)

module _ {present : ℕ} {s : List ℕ} (A : Accepted present s) (i : ℕ) (l : i < (header_of s).n) where
  abbrev h : Header
  h = header_of s

  abbrev part : List ℕ
  part = part_of h (suc i) (column_form s)

  shaped : Shaped s
  shaped =
      let z : sheet_number (everyone h.n) s ≡ 0 = ((present_runs.accepted present s).0 A).0.number in
      (every_form.numbers s []).as_sheet_lem (omega arith) ∙ z

  in_parts : InParts s (column_form s)
  in_parts = every_form.parts s shaped (column_form s) (((every_form.forms s shaped).columns (column_form s)).1 refl)

  part_column : shares_in h part ≡ column_in h (suc i) s
  part_column = in_parts.column (suc i) (omega arith) l

  pub part_is : (part_input h part ≡ map (column_row i) (input_in h s)) × (part_deal h part ≡ column_deal i (deal_in h s))
  part_is = part_columns h i s part part_column

  long : inputs_at h ≤ length s
  long = omega (arith, (sound present s A.number).size, implied h)

  header_passed : first_failed (header_tests (head_in s)) ≡ 0
  header_passed =
      let P = (sound present s A.number).permitted in
      header_passes (head_in s)
      (record { long = rw (same_header s, whole_head s long) (omega arith); field = rw (same_header s) P.field; people = rw (same_header s) P.people })

  pub none_refuses : first_failed (replay_tests (suc i) (head_in s) part) ≡ 0
  unfolding limit_tests column_in
  none_refuses =
      let Q = sound present s A.number in
      let M = (fields h.field Q.permitted.field).modulus_is in
      (ready (suc i) (head_in s) part).0
      (record {
        header = header_passed;
        party = rw (same_header s) (omega arith);
        limits = rw (same_header s) (all_pass (one Q.permitted.counts none));
        head_length = rw (same_header s) (whole_head s long);
        part_length = rw (same_header s) (in_parts.length_each (suc i) (omega arith) l);
        shares = rw (same_header s) ((all_below_lem _ _).0 (rw part_column (column_below M Q.permitted.people i l Q.sharings)));
      })
