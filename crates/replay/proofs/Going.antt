-- The loop over a script's lines on one column: at each place the lines that are left stand from there on, and the replay goes on from there.
-- Assumes nothing.
use Rattle.std.specs.Prelude.{Option, Some, Result, Ok, Err}
use mathlib.Core.Path.{◌≡◌, refl, sym, ap, subst, ◌∙◌}
use mathlib.Core.Logic.{◌≢◌}
use mathlib.Core.List.{List, ◌∷◌}
use Prim.Native.Nat.{ℕ, ◌+◌, ◌-◌, ◌*◌, ◌≤◌, ◌<◌}
use native.Mathlib.Nat.{mul-le-mul_right}
use native.Mathlib.Omega.{arith}
use lib.Dec.{T}
use lib.ListN.{length, replicate}
use Rattle.refusals.specs.declared.Refusal.{Refusal}
use Rattle.refusals.specs.declared.Refused.{Refused}
use Rattle.refusals.specs.Numbers.{number_of}
use Rattle.refusals.proofs.Numbers.{numbered}
use Rattle.model.specs.Bytes.{sevens}
use Rattle.model.specs.Checks as Checks
use Rattle.model.specs.Commands.{Ended}
use Rattle.model.specs.Costs.{cost_by, cost, mod_triples}
use Rattle.model.specs.Costs as PaperCosts
use Rattle.model.specs.Deal.{Row, Deal, no_row}
use Rattle.model.specs.Run.{nothing_spent}
use Rattle.model.specs.Script as Paper_script
use Rattle.model.specs.Script.{Script, Line, accepted, refused, reading_at, script_of, in_ranges}
use Rattle.model.specs.Sheet.{rows_at}
use Rattle.model.specs.Replay.{replay_lines}
use Rattle.model.specs.Replays.{ByLines}
use Rattle.model.proofs.Checks.{Passed, check_passed}
use Rattle.model.proofs.ReplayTests.{by_lines}
use Rattle.model.proofs.WholeScript.{from}
use Rattle.model.proofs.Refusals.{script_late}
use Rattle.sheet.specs.declared.frame.Frame.{Frame}
use Rattle.sheet.specs.Framed.{setting_in}
use Rattle.script.specs.declared.command.Line as Code
use Rattle.script.specs.Meaning.{meant, standing, standing_of, script_number}
use Rattle.script.proofs.Lines.{ends_here, in_range_lem, line_first, others_left}
use Rattle.script.proofs.Lines as Lines
use Rattle.costs.specs.declared.counts.Counts.{Counts}
use Rattle.costs.specs.declared.cost.Cost.{Cost}
use Rattle.costs.specs.declared.spent.Spent.{Spent}
use Rattle.costs.specs.Costing.{counts_of, cost_of, spent_of, Costs, Within, Summing, Supplied, Checkable, supply_in}
use Rattle.costs.proofs.Attempts.{Words, Numbers, Tried, nothing_within, costable, checkable, number_is, summing, paid_within}
use Rattle.registers.specs.declared.table.Table.{Table}
use Rattle.column_steps.specs.Reads.{table_of, deal_from, record_from}
use Rattle.column_commands.specs.declared.own.Own.{Own}
use Rattle.column_commands.specs.Does.{ahead_of, price_of, Ready, Finishes, Refuses}
use Rattle.replay.specs.Lines.{Prepared, ended_of, script_replayed, lines_replayed}

-- the lines from what was spent and the cells on
abbrev gone_over : Own → Frame → List ℕ → List ℕ → ℕ → List Line → Checks.Spent → List ℕ → Ended Row
gone_over o f part log end xs s cells =
    replay_lines (table_of o.column) o.column.reader.party (supply_in f 10850 511) (rows_at part 1 0 o.inputs) end xs s (sevens 64 cells)
    (deal_from o.column part (ahead_of o s.counts) (f.masks - s.counts.masks) (f.triples - s.counts.triples)) (record_from o.column log s.counts.openings)

-- before what stands at a place, with a table of one column
pub record Going (o : Own) (f : Frame) (script part log : List ℕ) (supply : Counts) (t : Table) (at : ℕ) : Type 0 where
  pub prepared : Prepared o f script part
  pub lines : List Line
  pub end : ℕ
  pub left : from f.p f.largest script at ≡ accepted lines end
  pub goes_on : gone_over o f part log end lines (spent_of t.spent) t.cells ≡ lines_replayed o f script part log
  pub supplied : Supplied (supply_in f 10850 511) supply
  pub words : Words supply
  pub within : Within (counts_of t.spent.counts) (counts_of supply)
  pub openings : o.column.reader.n * t.spent.counts.openings ≤ length log

no_cells : sevens 64 (replicate 448 0) ≡ replicate 64 no_row
unfolding sevens
no_cells = refl

module _ (o : Own) (f : Frame) (part log : List ℕ) (end : ℕ) (xs : List Line) where
  -- with nothing spent
  first_line : gone_over o f part log end xs nothing_spent (replicate 448 0) ≡ script_replayed o f part log (accepted xs end)
  unfolding nothing_spent
  first_line =
      let a : o.mask + 0 * (4 * o.column.setting.l) ≡ o.mask = omega arith in
      let b : o.triple + 12 * 0 ≡ o.triple = omega arith in
      let c : o.column.reader.n * 0 ≡ 0 = omega arith in
      let d : f.masks - 0 ≡ f.masks = omega arith in
      let e : f.triples - 0 ≡ f.triples = omega arith in
      rw (no_cells, a, b, c, d, e)

pub going_start : {o : Own} {f : Frame} {script part log : List ℕ} {supply : Counts} {t : Table} → Prepared o f script part → (t.cells ≡ replicate 448 0) × (spent_of t.spent ≡ nothing_spent)
    → Supplied (supply_in f 10850 511) supply → Words supply → Going o f script part log supply t 0
going_start {o} {f} {script} {part} {log} {supply} {t} P e U B = go (script_of f.p f.largest script) refl P.unrefused
  where
    none : o.column.reader.n * t.spent.counts.openings ≤ length log
    none =
        let z : t.spent.counts.openings ≡ 0 = unfold nothing_spent in ap (λ (s : Checks.Spent). s.counts.openings) e.1 in
        rw z (omega arith)

    go : (x : Script) → script_of f.p f.largest script ≡ x → script_number x ≡ 0 → Going o f script part log supply t 0
    go (accepted xs end) q z =
        record {
          prepared = P;
          lines = xs;
          end = end;
          left = unfold script_of in q;
          goes_on =
              rw q (subst (λ (s : Checks.Spent). gone_over o f part log end xs s t.cells ≡ script_replayed o f part log (accepted xs end)) (sym e.1)
              (rw e.0 (first_line o f part log end xs)));
          supplied = U;
          words = B;
          within = nothing_within supply e.1;
          openings = none;
        }
    go (refused number place) q z = absurd (omega (arith, script_late f.p f.largest script q))

-- so many masks and triples are in the part
module _ {o : Own} {f : Frame} {script part : List ℕ} (P : Prepared o f script part) where
  masks_fit : (x : ℕ) → x ≤ f.masks → o.mask + x * (4 * o.column.setting.l) ≤ length part
  masks_fit x h =
      let m : x * (4 * f.l) ≤ f.masks * (4 * f.l) = mul-le-mul_right (4 * f.l) h in
      rw (P.l_is, P.mask_is) (omega (arith, m, P.part_is))

  triples_fit : (x : ℕ) → x ≤ f.triples → o.triple + 12 * x ≤ length part
  triples_fit x h = rw P.triple_is (omega (arith, P.part_is))

module _ {o : Own} {f : Frame} {script part log : List ℕ} {supply : Counts} {t : Table} {at : ℕ} (G : Going o f script part log supply t at) where
  -- the replay ends here like this
  abbrev EndsHere : Result (Unit {0}) Refusal → Type 0
  EndsHere ended = ended_of (record { ended = ended; place = at; table = t }) ≡ lines_replayed o f script part log

  module _ {d : Result (Option Code.Line) Refused} (e : standing_of at d ≡ standing (reading_at f.p f.largest script at) (length script) at) where
    -- where no command stands
    pub ended : ((line : Code.Line) → d ≡ Ok (Some line) → ⊥) → EndsHere (Ok tt)
    ended never =
        let z = ends_here f.p f.largest script at G.left e never in
        let L = (by_lines (table_of o.column) o.column.reader.party (supply_in f 10850 511) (rows_at part 1 0 o.inputs) G.end (spent_of t.spent) (sevens 64 t.cells) _ _).at_end in
        rw (← z.1) (sym L ∙ rw z.0 at G.goes_on)

    -- a command
    module _ {line : Code.Line} (q : d ≡ Ok (Some line)) where
      abbrev c : Paper_script.Command
      c = meant line.command

      pub closer : length script - line.next < length script - at
      closer = Lines.closer f.p f.largest script at e q

      abbrev others : List Line
      others = Lines.others f.p f.largest script at G.left e q

      tried : Tried f (supply_in f 10850 511) supply t.spent c
      tried =
          record {
            bits = omega (arith, G.prepared.field.k_is, G.prepared.field.k_most);
            k_most = omega (arith, G.prepared.field.k_most);
            ranged = in_range_lem f.p f.largest script at e q;
            supplied = G.supplied;
            words = G.words;
            within = G.within;
          }

      pub costed : (f.l ≤ 31) × (f.largest ≤ 30) × T (in_ranges f.p f.largest c)
      costed = costable tried

      -- the line comes first
      here : gone_over o f part log G.end (record { place = at; command = c } ∷ others) (spent_of t.spent) t.cells ≡ lines_replayed o f script part log
      here = rw (line_first f.p f.largest script at G.left e q) at G.goes_on

      -- what it costs, by the column and by the frame
      price : cost (setting_in f) c ≡ cost (table_of o.column) c
      price = ap (λ (l : ℕ). cost_by (mod_triples l) c) (sym G.prepared.l_is)

      abbrev left_deal : Deal
      left_deal = deal_from o.column part (ahead_of o (counts_of t.spent.counts)) (f.masks - t.spent.counts.masks) (f.triples - t.spent.counts.triples)

      line_by : ByLines (table_of o.column) o.column.reader.party (supply_in f 10850 511) (rows_at part 1 0 o.inputs) G.end (spent_of t.spent) (sevens 64 t.cells)
          left_deal (record_from o.column log t.spent.counts.openings)
      line_by = by_lines _ _ _ _ _ _ _ _ _

      module _ {need : Cost} (N : Costs need (cost (setting_in f) c)) where
        pub checked : Checkable t.spent supply need
        checked = checkable tried N

        same : {number : ℕ} → Numbers supply need t.spent number → number ≡ Checks.check (supply_in f 10850 511) (cost (table_of o.column) c) (spent_of t.spent)
        same E = number_is tried N E ∙ rw price

        pub refused_here : (r : Refusal) → Numbers supply need t.spent (number_of r) → EndsHere (Err r)
        refused_here r E =
            let z : number_of r ≢ 0 = λ e. omega (arith, numbered r) in
            rw (same E) (sym (line_by.refused_before (record { place = at; command = c }) others (λ q. z (same E ∙ q))) ∙ here)

        module _ (E : Numbers supply need t.spent 0) where
          zero_check : Checks.check (supply_in f 10850 511) (cost (table_of o.column) c) (spent_of t.spent) ≡ 0
          zero_check = sym (same E)

          let_through : Passed (supply_in f 10850 511) (cost (table_of o.column) c) (spent_of t.spent)
          let_through = check_passed (supply_in f 10850 511) (cost (table_of o.column) c) (spent_of t.spent) zero_check

          -- what the command takes is there
          pub ready_here : Ready o part log (counts_of t.spent.counts) c
          ready_here =
              let P = G.prepared in
              let K = let_through in
              record {
                working = P.working;
                field = rw (P.p_is, P.l_is, P.largest_is) P.field;
                ranged = rw (P.p_is, P.largest_is) tried.ranged;
                inputs_there = rw P.inputs_is (omega (arith, P.part_is));
                loads = rw P.inputs_is K.inputs;
                masks = masks_fit P _ K.masks;
                triples = triples_fit P _ K.triples;
                openings = G.openings;
              }

          pub payable_here : Summing t.spent.counts need.counts
          payable_here = summing tried N E refl

          -- its cost paid
          pays : {s s' : Spent} → s ≡ t.spent → spent_of s' ≡ Checks.pay (cost_of need) (spent_of s) → spent_of s' ≡ Checks.pay (cost (setting_in f) c) (spent_of t.spent)
          pays es paid = paid ∙ rw (es, N.is)

          -- what the command leaves of masks and triples
          abbrev M : ℕ
          M = f.masks - (t.spent.counts.masks + (price_of o c).masks)

          abbrev T' : ℕ
          T' = f.triples - (t.spent.counts.triples + (price_of o c).triples)

          all_masks : (price_of o c).masks + M ≡ f.masks - t.spent.counts.masks
          all_masks = omega (arith, let_through.masks)

          all_triples : (price_of o c).triples + T' ≡ f.triples - t.spent.counts.triples
          all_triples = omega (arith, let_through.triples)

          pub refused_inside : (r : Refusal) → Refuses o part log (counts_of t.spent.counts) c t.cells r → EndsHere (Err r)
          refused_inside r R =
              sym (line_by.refused_inside (record { place = at; command = c }) others (number_of r) zero_check (rw (← all_masks, ← all_triples) (R.reads M T'))) ∙ here

          pub goes_next : {done t' : Table} → Finishes o part log (counts_of t.spent.counts) c t.cells done.cells × (done.spent ≡ t.spent)
              → (t'.cells ≡ done.cells) × (spent_of t'.spent ≡ Checks.pay (cost_of need) (spent_of done.spent)) → Going o f script part log supply t' line.next
          unfolding Checks.pay
          goes_next {done} {t'} D paid =
              let p' : spent_of t'.spent ≡ Checks.pay (cost (setting_in f) c) (spent_of t.spent) = pays D.1 paid.1 in
              let p = p' ∙ ap (λ (x : PaperCosts.Cost). Checks.pay x (spent_of t.spent)) price in
              let q = line_by.goes_on (record { place = at; command = c }) others _ _ _ zero_check (rw (← all_masks, ← all_triples) (D.0.reads M T')) in
              record {
                prepared = G.prepared;
                lines = others;
                end = G.end;
                left = next_left;
                goes_on =
                    subst (λ (s : Checks.Spent). gone_over o f part log G.end others s t'.cells ≡ lines_replayed o f script part log) (sym p) (rw paid.0 (sym q ∙ here));
                supplied = G.supplied;
                words = G.words;
                within = paid_within tried N E refl p';
                openings =
                    subst (λ (s : Checks.Spent). o.column.reader.n * s.counts.openings ≤ length log) (sym p) D.0.there;
              }
            where
              next_left : from f.p f.largest script line.next ≡ accepted others G.end
              next_left = others_left f.p f.largest script at G.left e q
