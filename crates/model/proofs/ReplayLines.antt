-- The lines of a script gone over by one party from the record, beside their run: where neither 25 nor 26 stops the run, they end alike, with the party's
-- column of the registers; and where one does, with 43 in its place, if nothing follows what was written.
-- Assumes nothing.
use mathlib.Core.Path.{◌≡◌, refl}
use mathlib.Core.List.{List, [], ◌∷◌, ◌++◌, append_assoc, map}
use Prim.Native.Nat.{ℕ, zero, suc, ◌<◌}
use native.Mathlib.Omega.{arith}
use lib.ListN.{length}
use Rattle.algebra.specs.Lists.{All}
use Rattle.model.specs.Fields.{InUse, Parties}
use Rattle.model.specs.Sharing.{Sharing}
use Rattle.model.specs.Presence.{PermittedSet}
use Rattle.model.specs.Refusing.{given}
use Rattle.model.specs.Deal.{Setting, Row, Deal}
use Rattle.model.specs.Trees.{Tree, done}
use Rattle.model.specs.Steps.{written, by_rows}
use Rattle.model.specs.Script.{Command, Line}
use Rattle.model.specs.Costs.{cost}
use Rattle.model.specs.Checks.{Spent, Supply, check, pay}
use Rattle.model.specs.Commands.{Ended, through_lines}
use Rattle.model.specs.Sheet.{Header, setting_with, setting_of}
use Rattle.model.specs.Run.{row_command, row_lines, supply_of}
use Rattle.model.specs.Refusals.{From}
use Rattle.model.specs.Forecast.{ample_supply}
use Rattle.model.specs.Replay.{one_column, by_record, onward, replay_lines}
use Rattle.model.proofs.Each.{Each}
use Rattle.model.proofs.Pairs.{PairedEnds}
use Rattle.model.proofs.Reaching.{command_does}
use Rattle.model.proofs.Written.{written_append}
use Rattle.model.proofs.Lengths.{Fitting}
use Rattle.model.proofs.Acceptance.{all_left, all_right}
use Rattle.model.proofs.Buffers.{Other, Before, Roomy, paid, roomy_paid, same_unless, full_passes}
use Rattle.model.proofs.OneColumn.{Column, column_row, column_deal, column_command}
use Rattle.model.proofs.FromRecord.{finishes}
use Rattle.model.proofs.OpensFirst.{opens_first}

module _ (h : Header) (present : ℕ) (field : InUse h.field) (people : Parties h.n h.t)
    (set : PermittedSet h.n h.t present) (i : ℕ) (l : i < h.n) where
  abbrev S : Setting
  S = setting_with present h

  abbrev E : Setting
  E = setting_of h

  -- How a reading from the record ends, where the rows ended so and `rest` follows what they wrote: alike, where neither 25 nor 26 stopped them; and where
  -- one of them did and nothing follows, with 43 in their place.
  pub record Replaying (e : Ended Row) (rest : List ℕ) (e' : Ended Row) : Type 0 where
    pub alike : Other e.number → PairedEnds (Column i) e e'
    pub short : From 25 26 e.number → rest ≡ [] → PairedEnds (Column i) (record { number = 43; place = e.place; spent = e.spent; registers = e.registers }) e'

  -- A tree worked on rows, whose opened rows are sharings, and a reading from the record that it wrote and what follows.
  abbrev Alike : Tree Row (Ended Row) → (Deal → List ℕ → Ended Row) → Deal → List ℕ → Type 0
  Alike T read d rest =
      let w = by_rows S T d in
      All (Sharing S.p S.n S.t) w.opened → Replaying w.left rest (read (column_deal i d) (written S w.opened ++ rest))

  -- Where 25 or 26 refuses on the side of the rows, nothing does before the command is read, and where no record is left it is 43.
  abbrev Stuck : ℕ → ℕ → ℕ → Spent → List Row → Deal → (Deal → List ℕ → Ended Row) → Type 0
  Stuck n m place s g' d read =
      From 25 26 n → (m ≡ 0) × (read (column_deal i d) [] ≡ record { number = 43; place = place; spent = s; registers = g' })

  -- by the number of the check: both go on, or both stop here
  either : (n m place : ℕ) (s : Spent) {g g' : List Row} (d : Deal) (T : Tree Row (Ended Row)) (read : Deal → List ℕ → Ended Row) (rest : List ℕ)
      → (Other n → n ≡ m) → Stuck n m place s g' d read → Each (Column i) g g' → (n ≡ 0 → Alike T read d rest)
      → Alike (given n T (done (record { number = n; place = place; spent = s; registers = g })))
      (given m read (λ d log. record { number = m; place = place; spent = s; registers = g' })) d rest
  unfolding by_rows written
  either zero m place s d T read rest e f gs k os = rw (← e (omega arith)) (k refl os)
  either (suc n) m place s d T read rest e f gs k os =
      record {
        alike = λ o. rw (← e o) (record { number = refl; place = refl; spent = refl; registers = gs });
        short = λ z r. let q = f z in rw (q.0, r, q.1) (record { number = refl; place = refl; spent = refl; registers = gs });
      }

  -- a command, and what goes on with the registers that it leaves
  module _ (input : List Row) (j : ℕ) (c : Command) where
    goes_on : (refusal : ℕ → Deal → List ℕ → Ended Row) {g g' : List Row} (d : Deal) (rest : List ℕ) (go : List Row → Tree Row (Ended Row))
        (read : List Row → Deal → List ℕ → Ended Row) → Each (Column i) g g'
        → ((w w' : List Row) (d : Deal) → Each (Column i) w w' → Alike (go w) (read w') d rest)
        → Alike (row_command S input j c g go)
        (λ d log. onward E (suc i) (λ number. refusal number d log) read (by_record E (suc i) (row_command (one_column E) (map (column_row i) input) j c g' done) d log)) d rest
    goes_on refusal {g} {g'} d rest go read gs k =
        rw (command_does S input j c g go d) (λ os.
        let w = by_rows S (row_command S input j c g done) d in
        let v = by_rows S (go w.left) w.deal in
        let F = finishes h present field people set i l (column_command S i l input j c gs) d (all_left w.opened v.opened os) (written S v.opened ++ rest) in
        rw (written_append S w.opened v.opened, append_assoc (written S w.opened) (written S v.opened) rest, F.is)
        (k w.left F.left w.deal F.related (all_right w.opened v.opened os)))

  module _ (fits : Fitting h) (log shown : ℕ) (input : List Row) (end : ℕ) where
    abbrev u : Supply
    u = supply_of h log shown

    -- the lines, read from the record
    abbrev read : List Line → Spent → List Row → Deal → List ℕ → Ended Row
    read = replay_lines E (suc i) (ample_supply h) (map (column_row i) input) end

    pub replays : (xs : List Line) (s : Spent) (g g' : List Row) (d : Deal) → Before s (length xs) → Roomy h fits people.most log shown s → Each (Column i) g g'
        → (rest : List ℕ) → Alike (row_lines S u input end xs s g) (read xs s g') d rest
    unfolding through_lines replay_lines by_rows
    replays [] s g g' d k r gs rest =
        λ os. record { alike = λ o. record { number = refl; place = refl; spent = refl; registers = gs }; short = λ z. absurd (omega arith) }
    replays (x ∷ xs) s g g' d k r gs rest =
        let c = cost S x.command in
        let F = full_passes h fits people.most log shown S x.command k r in
        either (check u c s) (check (ample_supply h) c s) x.place s d _ _ rest (same_unless h fits people.most log shown S x.command k)
        (λ z. ((F z).0, rw (opens_first E (suc i) (omega arith) (map (column_row i) input) s.counts.inputs x.command g' (column_deal i d) (F z).1) refl)) gs
        (λ z. goes_on input s.counts.inputs x.command (λ number d log. record { number = number; place = x.place; spent = s; registers = g' }) d rest _
        (read xs (pay c s)) gs
        (λ w w' d' ws. replays xs (pay c s) w w' d' (paid u S x.command k z) (roomy_paid h fits people.most log shown S x.command s z) ws rest))
