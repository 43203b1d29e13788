-- The command that the code has matched: what its method asks, and that it is performed.
-- Assumes nothing.
use mathlib.Core.Path.{◌≡◌, sym, subst, ◌∙◌}
use mathlib.Core.List.{List}
use Prim.Native.Nat.{ℕ, ◌+◌, ◌-◌, ◌*◌, ◌^◌, ◌≤◌, ◌<◌}
use native.Mathlib.Omega.{arith}
use lib.ListN.{length, drop}
use Rattle.model.specs.Bytes.{sevens}
use Rattle.model.specs.Steps.{product, comparison}
use Rattle.model.specs.Counts.{Counts}
use Rattle.model.specs.Script as Paper
use Rattle.model.specs.Script.{MUL, REVEAL, BITLT, LTZS, ranges}
use Rattle.model.specs.Costs.{cost_by}
use Rattle.model.specs.Checks.{pay}
use Rattle.model.proofs.Operands.{AllSay, operands}
use Rattle.sharing.specs.declared.setting.Setting.{Setting}
use Rattle.sharing.specs.Settings.{setting_of, Fitting}
use Rattle.sheet.specs.declared.frame.Frame.{Frame}
use Rattle.sheet.specs.Framed.{setting_from}
use Rattle.script.specs.declared.command.Command.{Command}
use Rattle.script.specs.Meaning.{meant}
use Rattle.costs.specs.declared.cost.Cost.{Cost}
use Rattle.costs.specs.Costing.{counts_of, cost_of, spent_of}
use Rattle.steps.specs.declared.places.Places.{Places}
use Rattle.cuts.specs.declared.cut.Cut.{Cut}
use Rattle.steps.specs.Places.{Room}
use Rattle.steps.specs.Promises.{StepLeaves}
use Rattle.cuts.specs.Cuts.{CutRoom, CutLeaves}
use Rattle.algebra.specs.Lists.{Below}
use Rattle.registers.specs.Cells.{register_in, Stored, Revealed}
use Rattle.registers.specs.Places.{places_of, Reached}
use Rattle.registers.specs.declared.table.Table.{Table}
use Rattle.registers.specs.Holding.{Lent, lent, Ready, Performs, CutReady, SignsReady, OnCells}
use Rattle.machine.specs.Answers.{Payable, Finishes}
use Rattle.registers.proofs.Readiness as Readiness
use Rattle.registers.proofs.Performing.{cut_command, cut_room, cut_performs}
use Rattle.machine.proofs.Commands.{multiply_performs, compare_performs, reveal_performs, cut_ready}

-- where a ready command reads and writes next can be computed
pub reached : {s : List ℕ} {f : Frame} {k : Counts} {c : Paper.Command} {m : Lent} → Ready s f k c m → length s < 2 ^ 64 → length m.log < 2 ^ 64 → Reached f k
reached {f = f} {k} {m = m} R hs hl =
    Readiness.reached R.framed k m.log (omega (arith, R.masks)) (omega (arith, R.triples)) (openings _ R.room) hs hl
  where
    openings : (c : ℕ) → (k.openings + c) * f.n ≤ length m.log → k.openings * f.n ≤ length m.log
    openings c h = omega arith

-- before the match: the command is ready, setting and places are the frame's and the counts'
pub record Known (s : List ℕ) (f : Frame) (k : Counts) (c : Command) (m : Lent) (S : Setting) (at : Places) : Type 0 where
  pub is_ready : Ready s f k (meant c) m
  pub setting : S ≡ setting_from f
  pub places : at ≡ places_of f k

module _ {s : List ℕ} {f : Frame} {k : Counts} {c : Command} {m : Lent} {S : Setting} {at : Places} (K : Known s f k c m S at) where
  pub fits : Fitting S
  fits = rw K.setting (Readiness.fitting K.is_ready.framed)

  module _ {c' : Command} (e : c ≡ c') where
    pub ready : Ready s f k (meant c') m
    ready = subst (λ (x : Command). Ready s f k (meant x) m) e K.is_ready

    pub says : AllSay (ranges f.p f.largest (meant c'))
    says = operands f.p f.largest (meant c') ready.ranged

    pub done : {m' : Lent} → Performs s f k (meant c') m m' → Performs s f k (meant c) m m'
    done {m'} P = subst (λ (x : Command). Performs s f k (meant x) m m') (sym e) P

    pub has_room : (t : ℕ) → k.triples + t ≤ f.triples → (k.openings + 2 * t) * f.n ≤ length m.log → Room s m.log S at t
    has_room t h o = rw (K.setting, K.places) (Readiness.room K.is_ready.framed k m.log t h o)

    -- the commands that open shares and take no mask
    pub multiply_done : {d a b : ℕ} {cells log : List ℕ} → meant c' ≡ MUL d a b
        → Stored d (λ z. StepLeaves s S at 1 (product (setting_of S) (register_in m.cells a) (register_in m.cells b)) z m.log log) m.cells cells
        → Performs s f k (meant c) m (lent cells log m.shown)
    multiply_done is P = done (rw is (multiply_performs (rw is at ready) (rw (K.setting, K.places) at P)))

    pub compare_done : {d b w v : ℕ} {cells log : List ℕ} → meant c' ≡ BITLT d b w v
        → Stored d (λ z. StepLeaves s S at (w - 1) (comparison (setting_of S) v (sevens w (drop (7 * b) m.cells))) z m.log log) m.cells cells
        → Performs s f k (meant c) m (lent cells log m.shown)
    compare_done is P = done (rw is (compare_performs (rw is at ready) (rw (K.setting, K.places) at P)))

    pub reveal_asks : {a : ℕ} → meant c' ≡ REVEAL a → Fitting S × (at.log + S.n ≤ length m.log) × (k.revealed < length m.shown) × (a < 64) × Below S.p (register_in m.cells a)
    unfolding cost_by
    reveal_asks {a} is =
        let R : Ready s f k (REVEAL a) m = rw is at ready in
        let h = (operands f.p f.largest (REVEAL a) R.ranged).0 in
        (fits, rw (K.setting, K.places) (omega (arith, R.room)), omega (arith, R.space), h, rw K.setting (R.below a h))

    pub reveal_done : {a : ℕ} {cells log shown : List ℕ} → meant c' ≡ REVEAL a → cells ≡ m.cells
        → Revealed S at (register_in m.cells a) k.revealed m.log m.shown log shown → Performs s f k (meant c) m (lent cells log shown)
    reveal_done is same W = done (rw (is, same) (reveal_performs (rw is at ready) (rw (K.setting, K.places) at W)))

    -- LTZS
    pub signs_asks : {d a h w : ℕ} → meant c' ≡ LTZS d a h w → SignsReady s f k m.cells m.log d a h w
    unfolding cost_by
    signs_asks {d} {a} {h} {w} is =
        let R : Ready s f k (LTZS d a h w) m = rw is at ready in
        record {
          framed = R.framed;
          ranged = R.ranged;
          size = R.size;
          masks = R.masks;
          triples = R.triples;
          room = R.room;
        }

    pub signs_done : {d a h w : ℕ} {cells log : List ℕ} → meant c' ≡ LTZS d a h w → OnCells s f k (LTZS d a h w) m.cells m.log cells log
        → Performs s f k (meant c) m (lent cells log m.shown)
    signs_done is P = done (rw is (P m.shown))

    -- a cut, whichever it is
    module _ (d a : ℕ) (y : Cut) (is : meant c' ≡ cut_command d a y) where
      is_cut : CutReady s f k m.cells m.log d a y
      is_cut = cut_ready y (rw is at ready)

      pub cut_asks : CutRoom s m.log S at y × (d < 64) × (a < 64)
      cut_asks = let R = is_cut in (rw (K.setting, K.places) (cut_room R), R.d_in, R.a_in)

      pub cut_done : {cells log : List ℕ} → Stored d (λ z. CutLeaves s S at y (register_in m.cells a) z m.log log) m.cells cells
          → Performs s f k (meant c) m (lent cells log m.shown)
      cut_done P = done (rw is (cut_performs is_cut (rw (K.setting, K.places) at P)))

-- performed, and its cost paid
pub finishes : {s : List ℕ} {f : Frame} {c : Paper.Command} {need : Cost} {t t₁ t₂ : Table} {log shown log' shown' : List ℕ} → Payable f c need t → t₁.spent ≡ t.spent
    → Performs s f (counts_of t.spent.counts) c (lent t.cells log shown) (lent t₁.cells log' shown') → t₂.cells ≡ t₁.cells
    → spent_of t₂.spent ≡ pay (cost_of need) (spent_of t₁.spent) → Finishes s f c t log shown t₂ log' shown'
finishes {t = t} {t₁} {t₂} Y es P ec ep =
    record {
      paid = ep ∙ rw (es, Y.costs.is);
      performs = rw ec P;
    }
