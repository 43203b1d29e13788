-- Each command performed, by what its function stored, and what a cut asks.
-- Assumes nothing.
use mathlib.Core.Path.{◌≡◌, refl, sym, ap, ◌∙◌}
use mathlib.Core.List.{List}
use Prim.Native.Nat.{ℕ, ◌-◌, ◌*◌, ◌≤◌, ◌<◌}
use native.Mathlib.Omega.{arith}
use lib.ListN.{length, get_or, drop}
use Rattle.model.specs.Bytes.{sevens, row_at}
use Rattle.model.specs.Deal.{Row, no_row}
use Rattle.model.specs.Steps.{plus, minus, times, constant, product, comparison}
use Rattle.model.specs.Counts.{Counts}
use Rattle.model.specs.Costs.{masking, cost_by, mod_triples, cost}
use Rattle.model.specs.Script.{Command, LOAD, CONST, ADD, SUB, SCALE, MUL, MOD, TRUNC, LTZ, OVER, BLOCKS, REVEAL, BITLT}
use Rattle.model.specs.Commands.{registers_from, command}
use Rattle.model.specs.Run.{State, register}
use Rattle.model.proofs.Operands.{operands}
use Rattle.model.proofs.StepLaws.{made, Puts, product_does, comparison_does}
use Rattle.sheet.specs.declared.frame.Frame.{Frame}
use Rattle.sheet.specs.Framed.{setting_from, setting_in}
use Rattle.steps.specs.Promises.{StepLeaves}
use Rattle.cuts.specs.declared.cut.Cut.{Cut}
use Rattle.cuts.specs.declared.cut.Cut.TheVariants.{Mod, Trunc, Ltz, Over, Blocks}
use Rattle.cuts.specs.Cuts.{width_of, low_of}
use Rattle.registers.specs.Cells.{register_in, Stored, Revealed}
use Rattle.registers.specs.Places.{input_place, places_of}
use Rattle.registers.specs.Holding.{Lent, lent, Carries, Counting, Ready, Performs, CutReady, inputs_of}
use Rattle.registers.proofs.Cells.{from_sevens}
use Rattle.registers.proofs.Keeping.{register_is, log_same, carries_reveal}
use Rattle.registers.proofs.Readiness.{input_at}
use Rattle.registers.proofs.Performing.{log_place, performs, performs_step, cut_command}

-- a row made without an opening
performs_made : (s : List ℕ) (f : Frame) (k : Counts) (c : Command) (m : Lent) (d : ℕ) → d < 64 → (row : State → Row)
    → ((x : State) → Puts (setting_in f) (inputs_of s f) c d x (made x.deal (row x))) → {y : Row} {cells : List ℕ}
    → ((log₀ shown₀ : List ℕ) (x : State) → Counting s f k x → Carries (setting_in f) log₀ shown₀ m x → y ≡ row x)
    → Stored d (λ z. z ≡ y) m.cells cells → Performs s f k c m (lent cells m.log m.shown)
performs_made s f k c m d h row puts same P =
    performs s f k c m d h (λ x. made x.deal (row x)) puts P (λ log₀ shown₀ x C H z e. (e ∙ same log₀ shown₀ x C H, log_same H))

-- the commands
module _ {s : List ℕ} {f : Frame} {k : Counts} {m : Lent} where
  pub load_performs : {d : ℕ} {cells : List ℕ} → Ready s f k (LOAD d) m → Stored d (λ z. z ≡ row_at s f.n (input_place f k)) m.cells cells
      → Performs s f k (LOAD d) m (lent cells m.log m.shown)
  unfolding command cost_by
  load_performs {d} R =
      performs_made s f k (LOAD d) m d (operands f.p f.largest (LOAD d) R.ranged).0 (λ x. get_or (inputs_of s f) x.spent.counts.inputs no_row) (λ x. refl)
      (λ log₀ shown₀ x C H.
      sym (input_at s f.n f.input f.inputs k.inputs (omega (arith, R.inputs))) ∙ ap (λ (v : Counts). get_or (inputs_of s f) v.inputs no_row) (sym C.counts))

  pub fill_performs : {d v : ℕ} {cells : List ℕ} → Ready s f k (CONST d v) m → Stored d (λ z. z ≡ constant (setting_in f) v) m.cells cells
      → Performs s f k (CONST d v) m (lent cells m.log m.shown)
  unfolding command
  fill_performs {d} {v} R =
      performs_made s f k (CONST d v) m d (operands f.p f.largest (CONST d v) R.ranged).0 (λ x. constant (setting_in f) v) (λ x. refl) (λ log₀ shown₀ x C H. refl)

  pub add_performs : {d a b : ℕ} {cells : List ℕ} → Ready s f k (ADD d a b) m
      → Stored d (λ z. z ≡ plus (setting_in f) (register_in m.cells a) (register_in m.cells b)) m.cells cells
      → Performs s f k (ADD d a b) m (lent cells m.log m.shown)
  unfolding command
  add_performs {d} {a} {b} R =
      let r = operands f.p f.largest (ADD d a b) R.ranged in
      performs_made s f k (ADD d a b) m d r.0 (λ x. plus (setting_in f) (register x a) (register x b)) (λ x. refl)
      (λ log₀ shown₀ x C H. rw (register_is H a r.1.0, register_is H b r.1.1.0))

  pub sub_performs : {d a b : ℕ} {cells : List ℕ} → Ready s f k (SUB d a b) m
      → Stored d (λ z. z ≡ minus (setting_in f) (register_in m.cells a) (register_in m.cells b)) m.cells cells
      → Performs s f k (SUB d a b) m (lent cells m.log m.shown)
  unfolding command
  sub_performs {d} {a} {b} R =
      let r = operands f.p f.largest (SUB d a b) R.ranged in
      performs_made s f k (SUB d a b) m d r.0 (λ x. minus (setting_in f) (register x a) (register x b)) (λ x. refl)
      (λ log₀ shown₀ x C H. rw (register_is H a r.1.0, register_is H b r.1.1.0))

  pub scale_performs : {d a v : ℕ} {cells : List ℕ} → Ready s f k (SCALE d a v) m → Stored d (λ z. z ≡ times (setting_in f) v (register_in m.cells a)) m.cells cells
      → Performs s f k (SCALE d a v) m (lent cells m.log m.shown)
  unfolding command
  scale_performs {d} {a} {v} R =
      let r = operands f.p f.largest (SCALE d a v) R.ranged in
      performs_made s f k (SCALE d a v) m d r.0 (λ x. times (setting_in f) v (register x a)) (λ x. refl)
      (λ log₀ shown₀ x C H. rw (register_is H a r.1.0))

  pub multiply_performs : {d a b : ℕ} {cells log : List ℕ} → Ready s f k (MUL d a b) m
      → Stored d (λ z. StepLeaves s (setting_from f) (places_of f k) 1 (product (setting_in f) (register_in m.cells a) (register_in m.cells b)) z m.log log) m.cells cells
      → Performs s f k (MUL d a b) m (lent cells log m.shown)
  unfolding command cost_by
  multiply_performs {d} {a} {b} R =
      let r = operands f.p f.largest (MUL d a b) R.ranged in
      performs_step s f k (MUL d a b) m d r.0 (λ x. product (setting_in f) (register x a) (register x b) x.deal) (λ x. product_does (setting_in f) _ _ _ x.deal)
      1 R.triples (λ log₀ shown₀ x H. rw (register_is H a r.1.0, register_is H b r.1.1.0))

  pub compare_performs : {d b w v : ℕ} {cells log : List ℕ} → Ready s f k (BITLT d b w v) m
      → Stored d (λ z. StepLeaves s (setting_from f) (places_of f k) (w - 1) (comparison (setting_in f) v (sevens w (drop (7 * b) m.cells))) z m.log log) m.cells cells
      → Performs s f k (BITLT d b w v) m (lent cells log m.shown)
  unfolding command cost_by
  compare_performs {d} {b} {w} {v} R =
      let r = operands f.p f.largest (BITLT d b w v) R.ranged in
      performs_step s f k (BITLT d b w v) m d r.0 (λ x. comparison (setting_in f) v (registers_from no_row x.registers b w) x.deal)
      (λ x. comparison_does (setting_in f) v _ _ x.deal) (w - 1) R.triples (λ log₀ shown₀ x H. rw (from_sevens x.registers m.cells b w H.registers r.1.1.1.1.0))

  pub reveal_performs : {a : ℕ} {log shown : List ℕ} → Ready s f k (REVEAL a) m
      → Revealed (setting_from f) (places_of f k) (register_in m.cells a) k.revealed m.log m.shown log shown → Performs s f k (REVEAL a) m (lent m.cells log shown)
  unfolding cost_by
  reveal_performs {a} R W log₀ shown₀ x C H =
      let h : a < 64 = (operands f.p f.largest (REVEAL a) R.ranged).0 in
      let e : k.revealed ≡ length x.shown = sym C.shown in
      rw (W.shown_is, e) (carries_reveal H (inputs_of s f) a _ _ h refl W.opens.value_is (log_place C) W.opens.log_is (omega (arith, C.shown, R.space)))

-- what a cut asks, whichever it is
module _ {s : List ℕ} {f : Frame} {k : Counts} {m : Lent} {d a : ℕ} where
  with_m : (y : Cut) {c : Command} → Ready s f k c m → cost (setting_in f) c ≡ masking d a (mod_triples f.l (low_of y)) → d < 64 → a < 64 → width_of y ≤ f.largest → 1 ≤ low_of y → low_of y < width_of y
      → CutReady s f k m.cells m.log d a y
  with_m y R e hd ha hw hl hm =
      record {
        framed = R.framed;
        size = R.size;
        d_in = hd;
        a_in = ha;
        width = hw;
        least = hl;
        less = hm;
        mask = rw e at R.masks;
        triples = rw e at R.triples;
        openings = rw e at R.room;
      }

  pub cut_ready : (y : Cut) → Ready s f k (cut_command d a y) m → CutReady s f k m.cells m.log d a y
  unfolding cost_by
  cut_ready (Mod w l) R = let r = operands f.p f.largest (MOD d a w l) R.ranged in with_m (Mod w l) R refl r.0 r.1.0 r.1.1.1.0 r.1.1.1.1.0 r.1.1.1.1.1.0
  cut_ready (Trunc w l) R = let r = operands f.p f.largest (TRUNC d a w l) R.ranged in with_m (Trunc w l) R refl r.0 r.1.0 r.1.1.1.0 r.1.1.1.1.0 r.1.1.1.1.1.0
  cut_ready (Ltz w) R = let r = operands f.p f.largest (LTZ d a w) R.ranged in with_m (Ltz w) R refl r.0 r.1.0 r.1.1.1.0 (omega (arith, r.1.1.0)) (omega (arith, r.1.1.0))
  cut_ready (Over w v) R = let r = operands f.p f.largest (OVER d a w v) R.ranged in with_m (Over w v) R refl r.0 r.1.0 r.1.1.1.0 (omega (arith, r.1.1.0)) (omega (arith, r.1.1.0))
  cut_ready (Blocks w l) R = let r = operands f.p f.largest (BLOCKS d a w l) R.ranged in with_m (Blocks w l) R refl r.0 r.1.0 r.1.1.1.0 r.1.1.1.1.0 r.1.1.1.1.1.0
