-- A command performed, by what its function stored: after a step with triples, and after a step with a mask; so a cut.
-- Assumes nothing.
use mathlib.Core.Path.{◌≡◌, ap, ◌∙◌}
use mathlib.Core.List.{List, ◌++◌}
use Prim.Native.Nat.{ℕ, ◌+◌, ◌≤◌, ◌<◌}
use native.Mathlib.Omega.{arith}
use lib.ListN.{length}
use Rattle.algebra.specs.Lists.{onto, onto_at}
use Rattle.model.specs.Deal.{Row, Deal}
use Rattle.model.specs.Steps.{Step, written}
use Rattle.model.specs.Counts.{Counts}
use Rattle.model.specs.Costs.{mod_triples}
use Rattle.model.specs.Sheet.{rows_at}
use Rattle.model.specs.Script.{Command, MOD, TRUNC, LTZ, OVER, BLOCKS}
use Rattle.model.specs.Commands.{command}
use Rattle.model.specs.Run.{State, register}
use Rattle.model.proofs.StepLaws.{Puts, remainder_does, floor_does, sign_does, over_does, blocks_does}
use Rattle.sheet.specs.declared.frame.Frame.{Frame}
use Rattle.sheet.specs.Framed.{setting_from, setting_in}
use Rattle.steps.specs.Promises.{StepLeaves, MaskedLeaves, Left}
use Rattle.cuts.specs.declared.cut.Cut.{Cut}
use Rattle.cuts.specs.declared.cut.Cut.TheVariants.{Mod, Trunc, Ltz, Over, Blocks}
use Rattle.cuts.specs.Cuts.{low_of, cut_step, CutRoom, CutLeaves}
use Rattle.registers.specs.Cells.{register_in, Stored}
use Rattle.registers.specs.Places.{places_of}
use Rattle.registers.specs.Holding.{Lent, lent, Carries, Counting, Performs, CutReady, inputs_of}
use Rattle.registers.proofs.Keeping.{register_is, log_more, carries_put}
use Rattle.registers.proofs.Readiness.{dealt, mask_next, masked_room}

-- the record's next place
pub log_place : {s : List ℕ} {f : Frame} {k : Counts} {x : State} → Counting s f k x → (places_of f k).log ≡ length (written (setting_in f) x.opened)
log_place C = omega (arith, C.numbers)

-- what a step left and opened
stepped : {s : List ℕ} {f : Frame} {k : Counts} {log₀ shown₀ log : List ℕ} {m : Lent} {x : State} {y st : Step} {z : Row} → Counting s f k x → Carries (setting_in f) log₀ shown₀ m x
    → y ≡ st → Left (setting_from f) (places_of f k) y z m.log log → (z ≡ st.left) × (log ≡ onto (written (setting_in f) (x.opened ++ st.opened)) log₀)
stepped {f = f} {k} {m = m} {st = st} C H e L = (
  L.row_is ∙ ap (λ (v : Step). v.left) e,
  L.log_is ∙ ap (λ (v : Step). onto_at (places_of f k).log (written (setting_in f) v.opened) m.log) e ∙ log_more H st.opened _ (log_place C),
)

module _ (s : List ℕ) (f : Frame) (k : Counts) (c : Command) (m : Lent) (d : ℕ) (h : d < 64) (st : State → Step)
    (puts : (x : State) → Puts (setting_in f) (inputs_of s f) c d x (st x)) where
  -- the row of a step of the state went to register d
  pub performs : {Is : Row → Type 0} {cells log : List ℕ} → Stored d Is m.cells cells
      → ((log₀ shown₀ : List ℕ) (x : State) → Counting s f k x → Carries (setting_in f) log₀ shown₀ m x → (z : Row) → Is z
      → (z ≡ (st x).left) × (log ≡ onto (written (setting_in f) (x.opened ++ (st x).opened)) log₀))
      → Performs s f k c m (lent cells log m.shown)
  performs P each log₀ shown₀ x C H =
      let E = each log₀ shown₀ x C H P.row P.is in
      rw P.put (carries_put H (inputs_of s f) c d P.row (st x) (puts x) h P.seven E.0 E.1)

  -- the code's step is the state's
  abbrev pub Same : (Deal → Step) → Type 0
  Same step = (log₀ shown₀ : List ℕ) (x : State) → Carries (setting_in f) log₀ shown₀ m x → step x.deal ≡ st x

  pub performs_step : {step : Deal → Step} {cells log : List ℕ} (t : ℕ) → k.triples + t ≤ f.triples → Same step
      → Stored d (λ z. StepLeaves s (setting_from f) (places_of f k) t step z m.log log) m.cells cells → Performs s f k c m (lent cells log m.shown)
  performs_step t enough same P = performs P (λ log₀ shown₀ x C H z L. stepped C H (same log₀ shown₀ x H) (L x.deal (dealt C t enough)))

  performs_masked : {step : Deal → Step} {cells log : List ℕ} (w : ℕ) → k.masks + 1 ≤ f.masks → k.triples + mod_triples f.l w ≤ f.triples → Same step
      → Stored d (λ z. MaskedLeaves s (setting_from f) (places_of f k) (rows_at s f.n (places_of f k).mask f.l) w step z m.log log) m.cells cells → Performs s f k c m (lent cells log m.shown)
  performs_masked w one enough same P =
      performs P (λ log₀ shown₀ x C H z L. stepped C H (same log₀ shown₀ x H) (L x.deal (mask_next C one) (dealt C (mod_triples f.l w) enough)))

-- the command of a cut of register a that goes to register d
abbrev pub cut_command : ℕ → ℕ → Cut → Command
cut_command d a (Mod w l) = MOD d a w l
cut_command d a (Trunc w l) = TRUNC d a w l
cut_command d a (Ltz w) = LTZ d a w
cut_command d a (Over w v) = OVER d a w v
cut_command d a (Blocks w l) = BLOCKS d a w l

cut_puts : (s : List ℕ) (f : Frame) (d a : ℕ) (y : Cut) (x : State)
    → Puts (setting_in f) (inputs_of s f) (cut_command d a y) d x (cut_step (setting_in f) y (register x a) x.deal)
unfolding command
cut_puts s f d a (Mod w l) x = remainder_does (setting_in f) w l _ _ x.deal
cut_puts s f d a (Trunc w l) x = floor_does (setting_in f) w l _ _ x.deal
cut_puts s f d a (Ltz w) x = sign_does (setting_in f) w _ _ x.deal
cut_puts s f d a (Over w v) x = over_does (setting_in f) w v _ _ x.deal
cut_puts s f d a (Blocks w l) x = blocks_does (setting_in f) w l _ _ x.deal

-- the room of a cut, whichever it is
pub cut_room : {s : List ℕ} {f : Frame} {k : Counts} {cells log : List ℕ} {d a : ℕ} {y : Cut} → CutReady s f k cells log d a y → CutRoom s log (setting_from f) (places_of f k) y
cut_room {k = k} {log = log} R = masked_room R.framed k log _ _ R.width R.least R.less R.mask R.triples R.openings

module _ {s : List ℕ} {f : Frame} {k : Counts} {m : Lent} {d a : ℕ} where
  pub cut_performs : {y : Cut} {cells log : List ℕ} → CutReady s f k m.cells m.log d a y
      → Stored d (λ z. CutLeaves s (setting_from f) (places_of f k) y (register_in m.cells a) z m.log log) m.cells cells
      → Performs s f k (cut_command d a y) m (lent cells log m.shown)
  cut_performs {y} R =
      performs_masked s f k (cut_command d a y) m d R.d_in (λ x. cut_step (setting_in f) y (register x a) x.deal) (cut_puts s f d a y) (low_of y) R.mask R.triples
      (λ log₀ shown₀ x H. ap (λ (r : Row). cut_step (setting_in f) y r x.deal) (register_is H a R.a_in))
