-- The loop over a script's lines without rows: at each place the lines that are left stand from there on, and with every supply the forecast goes on from
-- there.
-- Assumes nothing.
use Rattle.std.specs.Prelude.{Option, Some, Result, Ok, Err}
use mathlib.Core.Path.{◌≡◌, refl, sym, ap, ◌∙◌}
use mathlib.Core.Logic.{◌≢◌}
use mathlib.Core.List.{List, []}
use Prim.Native.Nat.{ℕ, ◌-◌, ◌≤◌, ◌<◌}
use native.Mathlib.Nat.{div-one}
use native.Mathlib.Omega.{arith}
use lib.Dec.{T}
use lib.ListN.{length}
use Rattle.refusals.specs.declared.Refusal.{Refusal}
use Rattle.refusals.specs.declared.Refused.{Refused}
use Rattle.refusals.specs.Numbers.{number_of}
use Rattle.refusals.proofs.Numbers.{numbered}
use Rattle.model.specs.Refusing.{given}
use Rattle.model.specs.Costs.{mod_triples, cost}
use Rattle.model.specs.Checks as Checks
use Rattle.model.specs.Script.{Script, Line, accepted, refused, reading_at, script_of, in_ranges}
use Rattle.model.specs.Commands.{through_lines}
use Rattle.model.specs.Run.{nothing_spent}
use Rattle.model.specs.Forecast as Paper
use Rattle.model.specs.Forecast.{lines_foreseen, script_foreseen}
use Rattle.model.proofs.Trying.{given_refused}
use Rattle.model.proofs.WholeScript.{from}
use Rattle.model.proofs.Refusals.{script_late}
use Rattle.sheet.specs.declared.frame.Frame.{Frame}
use Rattle.sheet.specs.Framed.{setting_in}
use Rattle.script.specs.declared.command.Line as Code
use Rattle.script.specs.Meaning.{meant, standing, standing_of, script_number}
use Rattle.script.proofs.Lines.{ends_here, in_range_lem, line_first, others_left}
use Rattle.script.proofs.Lines as Lines
use Rattle.costs.specs.declared.counts.Counts.{Counts}
use Rattle.costs.specs.declared.cost.Cost.{Cost}
use Rattle.costs.specs.declared.spent.Spent.{Spent}
use Rattle.costs.specs.Costing.{counts_of, cost_of, spent_of, Costs, Within, Summing, Supplied, Checkable}
use Rattle.costs.proofs.Attempts.{Words, Numbers, Tried, nothing_within, costable, checkable, summing, paid_within}
use Rattle.forecasting.specs.Forecasting.{foreseen_of, Foresees}

-- lines gone over from what was spent on
abbrev gone_over : Frame → Checks.Supply → ℕ → List Line → Checks.Spent → Paper.Foreseen
gone_over f u end xs s = through_lines (λ e. e) (λ refusal j c g go. go g) (mod_triples f.l) u end xs s []

-- before what stands at a place, with so much spent
pub record Looking (f : Frame) (script : List ℕ) (supply : Counts) (k : Spent) (at : ℕ) : Type 0 where
  pub bits : f.l ≤ 31
  pub k_most : f.largest ≤ 30
  pub lines : List Line
  pub end : ℕ
  pub left : from f.p f.largest script at ≡ accepted lines end
  pub goes_on : (u : Checks.Supply) → Supplied u supply → gone_over f u end lines (spent_of k) ≡ script_foreseen f.l u (script_of f.p f.largest script)
  pub words : Words supply
  pub within : Within (counts_of k.counts) (counts_of supply)

-- a supply that these counts are of: one number in the record for each opening
abbrev own_supply : Counts → Checks.Supply
own_supply k = record { inputs = k.inputs; masks = k.masks; triples = k.triples; parties = 1; log = k.openings; shown = k.revealed }

own_supplied : (k : Counts) → Supplied (own_supply k) k
own_supplied k = record { parties = omega arith; inputs = refl; masks = refl; triples = refl; openings = sym (div-one k.openings); revealed = refl }

-- a script that is accepted, at its start
pub looking_start : {f : Frame} {script : List ℕ} {supply : Counts} {k : Spent} → (f.l ≤ 31) × (f.largest ≤ 30) × (script_number (script_of f.p f.largest script) ≡ 0)
    → spent_of k ≡ nothing_spent → Words supply → Looking f script supply k 0
unfolding script_foreseen lines_foreseen
looking_start {f} {script} {supply} {k} pre e words = go (script_of f.p f.largest script) refl pre.2
  where
    go : (x : Script) → script_of f.p f.largest script ≡ x → script_number x ≡ 0 → Looking f script supply k 0
    go (accepted xs end) q z =
        record {
          bits = pre.0;
          k_most = pre.1;
          lines = xs;
          end = end;
          left = unfold script_of in q;
          goes_on = λ u U. rw (q, e) refl;
          words = words;
          within = nothing_within supply e;
        }
    go (refused number place) q z = absurd (omega (arith, script_late f.p f.largest script q))

module _ {f : Frame} {script : List ℕ} {supply : Counts} {k : Spent} {at : ℕ} (L : Looking f script supply k at) where
  module _ {d : Result (Option Code.Line) Refused} (e : standing_of at d ≡ standing (reading_at f.p f.largest script at) (length script) at) where
    -- where no command stands
    pub ended : ((line : Code.Line) → d ≡ Ok (Some line) → ⊥) → Foresees f script supply (record { ended = Ok tt; place = at; spent = k })
    unfolding through_lines
    ended never u U =
        let z = ends_here f.p f.largest script at L.left e never in
        rw (← z.1) (rw z.0 at (L.goes_on u U))

    -- a command
    module _ {line : Code.Line} (q : d ≡ Ok (Some line)) where
      pub closer : length script - line.next < length script - at
      closer = Lines.closer f.p f.largest script at e q

      tried : Tried f (own_supply supply) supply k (meant line.command)
      tried =
          record {
            bits = L.bits;
            k_most = L.k_most;
            ranged = in_range_lem f.p f.largest script at e q;
            supplied = own_supplied supply;
            words = L.words;
            within = L.within;
          }

      pub costed : (f.l ≤ 31) × (f.largest ≤ 30) × T (in_ranges f.p f.largest (meant line.command))
      costed = costable tried

      abbrev others : List Line
      others = Lines.others f.p f.largest script at L.left e q

      module _ {need : Cost} (N : Costs need (cost (setting_in f) (meant line.command))) where
        pub checked : Checkable k supply need
        checked = checkable tried N

        -- what the rest of the forecast is, by the number
        turn : {number : ℕ} → Numbers supply need k number → (u : Checks.Supply) → Supplied u supply
            → given number (gone_over f u L.end others (Checks.pay (cost (setting_in f) (meant line.command)) (spent_of k))) (record { number = number; place = at; spent = spent_of k; registers = [] })
            ≡ script_foreseen f.l u (script_of f.p f.largest script)
        unfolding through_lines
        turn {number} E u U =
            let same : number ≡ Checks.check u (cost (setting_in f) (meant line.command)) (spent_of k) = E u U ∙ rw N.is in
            rw same (rw (line_first f.p f.largest script at L.left e q) at (L.goes_on u U))

        pub refused_here : (r : Refusal) → Numbers supply need k (number_of r) → Foresees f script supply (record { ended = Err r; place = at; spent = k })
        refused_here r E u U =
            let z : number_of r ≢ 0 = λ e. omega (arith, numbered r) in
            sym (given_refused (number_of r) _ _ z) ∙ turn E u U

        module _ (E : Numbers supply need k 0) where
          pub payable : Summing k.counts need.counts
          payable = summing tried N E refl

          pub goes_next : {k' : Spent} → spent_of k' ≡ Checks.pay (cost_of need) (spent_of k) → Looking f script supply k' line.next
          goes_next {k'} paid =
              let p : spent_of k' ≡ Checks.pay (cost (setting_in f) (meant line.command)) (spent_of k) = paid ∙ rw N.is in
              record {
                bits = L.bits;
                k_most = L.k_most;
                lines = others;
                end = L.end;
                left = others_left f.p f.largest script at L.left e q;
                goes_on = λ u U. rw p (turn E u U);
                words = L.words;
                within = paid_within tried N E refl p;
              }

-- a refusal, its place and what was spent make what is foreseen
pub foreseen_is : (r : Refusal) (place : ℕ) {k : Spent} → spent_of k ≡ nothing_spent
    → foreseen_of (record { ended = Err r; place = place; spent = k }) ≡ Paper.nothing_foreseen (number_of r) place
foreseen_is r place e = ap (λ (s : Checks.Spent). record { number = number_of r; place = place; spent = s; registers = [] }) e
