-- LTZS on a table's cells: one LTZ by what the code did, what is counted after it, and so LTZ after LTZ.
-- Assumes nothing.
use mathlib.Core.Path.{◌≡◌, refl, ap, ◌∙◌}
use mathlib.Core.List.{List, []}
use Prim.Native.Nat.{ℕ, zero, suc, ◌+◌, ◌-◌, ◌*◌, ◌^◌, ◌≤◌, ◌<◌}
use native.Mathlib.Nat.{mul-le-mul_right}
use native.Mathlib.Omega.{arith}
use lib.ListN.{length, take, length-append}
use Rattle.algebra.specs.Lists.{first, onto_at}
use Rattle.model.specs.Deal.{Row}
use Rattle.model.specs.Steps.{sign}
use Rattle.model.specs.Counts.{Counts, added}
use Rattle.model.specs.Costs.{of_mask, of_masks, mod_triples, cost_by}
use Rattle.model.specs.Script.{LTZ, LTZS}
use Rattle.model.specs.Run.{State, register, pay, finish}
use Rattle.model.specs.Stretches.{rising_ltz, finish_all}
use Rattle.model.proofs.Taking.{Used, used_then, took_sign}
use Rattle.model.proofs.Counts.{same_counts}
use Rattle.model.proofs.SheetDeal.{length_at}
use Rattle.model.proofs.Written.{length_written, written_append}
use Rattle.model.proofs.Operands.{operands}
use Rattle.model.proofs.Stretches.{ltz_finish, finishes_last, stretches}
use Rattle.sharing.specs.declared.setting.Setting.{Setting}
use Rattle.costs.specs.declared.counts.Counts as Code
use Rattle.costs.specs.Costing.{counts_of, Summing}
use Rattle.sheet.specs.declared.frame.Frame.{Frame}
use Rattle.sheet.specs.Framed.{setting_from, setting_in}
use Rattle.steps.specs.declared.places.Places.{Places}
use Rattle.cuts.specs.declared.cut.Cut.TheVariants.{Ltz}
use Rattle.cuts.specs.Cuts.{CutRoom, CutLeaves}
use Rattle.registers.specs.Cells.{register_in, Stored}
use Rattle.registers.specs.Places.{places_of, Reached}
use Rattle.registers.specs.Holding.{lent, Carries, Counting, CutReady, SignsReady, OnCells, inputs_of, deal_of}
use Rattle.registers.proofs.Cells.{stored, whole_row}
use Rattle.registers.proofs.Readiness.{field_of, fitting, reached, mask_next}
use Rattle.registers.proofs.Performing.{cut_room, cut_performs}

-- one LTZ
module _ {s : List ℕ} {f : Frame} {k : Counts} {d a w : ℕ} where
  module _ {cells log : List ℕ} (R : CutReady s f k cells log d a (Ltz w)) where
    pub sign_reached : length s < 2 ^ 64 → length log < 2 ^ 64 → Reached f k
    sign_reached hs hl = reached R.framed k log (omega (arith, R.mask)) (omega (arith, R.triples)) (omega (arith, R.openings)) hs hl

    pub sign_asks : {S : Setting} {at : Places} → S ≡ setting_from f → at ≡ places_of f k → CutRoom s log S at (Ltz w) × (length cells ≡ 448) × (a < 64)
    sign_asks es ea =
        (rw (es, ea) (cut_room R), R.size, R.a_in)

    pub sign_done : {S : Setting} {at : Places} {row : Row} {cells' log' : List ℕ} → S ≡ setting_from f → at ≡ places_of f k → length row ≡ 7
        → CutLeaves s S at (Ltz w) (register_in cells a) row log log' → cells' ≡ onto_at (7 * d) (take 7 row) cells → OnCells s f k (LTZ d a w) cells log cells' log'
    sign_done {S} {at} {row} {cells'} {log'} es ea seven L put shown =
        let P : Stored d (λ z. CutLeaves s S at (Ltz w) (register_in cells a) z log log') cells cells' = stored row seven L (put ∙ whole_row _ row cells (omega arith)) in
        cut_performs {m = lent cells log shown} {y = Ltz w} R (rw (es, ea) at P)

    -- a mask and its triples are gone from the deal, and their openings stand in the record
    counted_more : {x : State} → Counting s f k x → Counting s f (added k (of_mask (mod_triples f.l (w - 1)))) (finish (setting_in f) (inputs_of s f) (LTZ d a w) x)
    unfolding pay cost_by
    counted_more {x} C =
        let S = setting_in f in
        let z = sign S w (register x a) x.deal in
        let t = mod_triples f.l (w - 1) in
        let l : length (first [] x.deal.masks) ≡ f.l = ap length (mask_next C R.mask) ∙ length_at s f.n _ f.l in
        let T = took_sign S R.framed.headed.parties.most w (register x a) x.deal R.least (omega (arith, R.width, (field_of R.framed).k_is)) l in
        let before : Used (deal_of s f) k.masks k.triples x.deal = record { masks = C.masks; triples = C.triples } in
        let U : Used (deal_of s f) (k.masks + 1) (k.triples + t) z.deal = used_then before T.used in
        rw (ltz_finish S w (inputs_of s f) d a x)
        (record {
          counts = ap (λ (v : Counts). added v (of_mask t)) C.counts;
          masks = U.masks;
          triples = U.triples;
          numbers = rw (written_append, length-append, length_written S z.opened, T.opens) (omega (arith, C.numbers));
          shown = omega (arith, C.shown);
        })

-- what one sign more spends
spent_more : (k : Counts) (t i : ℕ) → added (added k (of_masks i t)) (of_mask t) ≡ added k (of_masks (suc i) t)
spent_more k t i =
    same_counts {x = added (added k (of_masks i t)) (of_mask t)} {y = added k (of_masks (suc i) t)} (omega arith) (omega arith) (omega arith) (omega arith) (omega arith)

spent_none : (k : Counts) (t : ℕ) → k ≡ added k (of_masks 0 t)
spent_none k t = same_counts {x = k} {y = added k (of_masks 0 t)} (omega arith) (omega arith) (omega arith) (omega arith) (omega arith)

-- After i turns: so much is spent, and what is lent holds the state after i LTZ. cells₀ and log₁ are what was lent.
pub record Turned (s : List ℕ) (f : Frame) (k : Counts) (d a w : ℕ) (cells₀ log₁ : List ℕ) (i : ℕ) (spent : Counts) (cells log : List ℕ) : Type 0 where
  pub size : length cells ≡ 448
  pub long : length log ≡ length log₁
  pub spent_is : spent ≡ added k (of_masks i (mod_triples f.l (w - 1)))
  pub holds : (shown log₀ shown₀ : List ℕ) (x : State) → Counting s f k x → Carries (setting_in f) log₀ shown₀ (lent cells₀ log₁ shown) x
      → (let y = finish_all (setting_in f) (inputs_of s f) (rising_ltz d a i w) x in Counting s f spent y × Carries (setting_in f) log₀ shown₀ (lent cells log shown) y)

module _ {s : List ℕ} {f : Frame} {k : Counts} {d a h w : ℕ} {cells₀ log₁ : List ℕ} (R : SignsReady s f k cells₀ log₁ d a h w) where
  pub signs_k : (f.l ≤ 31) × (1 ≤ w) × (1 ≤ w - 1) × (w - 1 ≤ 30)
  signs_k =
      let r = operands f.p f.largest (LTZS d a h w) R.ranged in
      let F = field_of R.framed in
      ((fitting R.framed).bits, omega (arith, r.1.1.1.1.0), omega (arith, r.1.1.1.1.0), omega (arith, r.1.1.1.1.1.0, F.k_most))

  pub turned_start : Turned s f k d a w cells₀ log₁ 0 k cells₀ log₁
  unfolding rising_ltz finish_all
  turned_start = record { size = R.size; long = refl; spent_is = spent_none k _; holds = λ shown log₀ shown₀ x C H. (C, H) }

  module _ {i : ℕ} {spent : Counts} {cells log : List ℕ} (T : Turned s f k d a w cells₀ log₁ i spent cells log) where
    pub turn_ready : i < h → CutReady s f spent cells log (d + i) (a + i) (Ltz w)
    turn_ready l =
        let r = operands f.p f.largest (LTZS d a h w) R.ranged in
        let t = mod_triples f.l (w - 1) in
        let x : suc i * t ≤ h * t = mul-le-mul_right t l in
        let y : suc i * (1 + 2 * t) ≤ h * (1 + 2 * t) = mul-le-mul_right (1 + 2 * t) l in
        let z : (k.openings + suc i * (1 + 2 * t)) * f.n ≤ (k.openings + h * (1 + 2 * t)) * f.n = mul-le-mul_right f.n (omega arith) in
        record {
          framed = R.framed;
          size = T.size;
          d_in = omega (arith, r.1.1.0);
          a_in = omega (arith, r.1.1.1.0);
          width = r.1.1.1.1.1.0;
          least = omega (arith, r.1.1.1.1.0);
          less = omega (arith, r.1.1.1.1.0);
          mask = rw T.spent_is (omega (arith, R.masks));
          triples = rw T.spent_is (omega (arith, R.triples));
          openings = rw T.spent_is (omega (arith, R.room, T.long));
        }

    pub turned_more : i < h → {spent' : Counts} {cells' log' : List ℕ} → length cells' ≡ length cells → length log' ≡ length log
        → spent' ≡ added spent (of_mask (mod_triples f.l (w - 1))) → OnCells s f spent (LTZ (d + i) (a + i) w) cells log cells' log'
        → Turned s f k d a w cells₀ log₁ (i + 1) spent' cells' log'
    turned_more l {spent'} {cells'} {log'} ec el e P =
        let n : suc i ≡ i + 1 = omega arith in
        rw (← n)
        (record {
          size = ec ∙ T.size;
          long = el ∙ T.long;
          spent_is = e ∙ ap (λ (v : Counts). added v (of_mask (mod_triples f.l (w - 1)))) T.spent_is ∙ spent_more k (mod_triples f.l (w - 1)) i;
          holds = λ shown log₀ shown₀ x C H.
              let y = T.holds shown log₀ shown₀ x C H in
              rw (e, finishes_last (setting_in f) (inputs_of s f) d a i w x) (counted_more (turn_ready l) y.0, P shown log₀ shown₀ _ y.0 y.1);
        })

  module _ {i : ℕ} {x y : Code.Counts} {cells log : List ℕ} (T : Turned s f k d a w cells₀ log₁ i (counts_of x) cells log) where
    pub turn_sums : i < h → counts_of y ≡ of_mask (mod_triples f.l (w - 1)) → k.inputs < 2 ^ 64 → k.revealed < 2 ^ 64 → f.masks < 2 ^ 64 → f.triples < 2 ^ 64 → length log < 2 ^ 64
        → Summing x y
    turn_sums l e hi hr hm ht hl =
        let C = turn_ready T l in
        let o : (x.openings + (1 + 2 * mod_triples f.l (w - 1))) ≤ (x.openings + (1 + 2 * mod_triples f.l (w - 1))) * f.n = at_least _ f.n (omega (arith, R.framed.headed.parties.least)) in
        record {
          inputs = rw (ap (λ (v : Counts). v.inputs) e) (omega (arith, ap (λ (v : Counts). v.inputs) T.spent_is));
          masks = rw (ap (λ (v : Counts). v.masks) e) (omega (arith, C.mask));
          triples = rw (ap (λ (v : Counts). v.triples) e) (omega (arith, C.triples));
          openings = rw (ap (λ (v : Counts). v.openings) e) (omega (arith, C.openings, o));
          revealed = rw (ap (λ (v : Counts). v.revealed) e) (omega (arith, ap (λ (v : Counts). v.revealed) T.spent_is));
        }
      where
        at_least : (v n : ℕ) → 1 ≤ n → v ≤ v * n
        at_least v zero h = absurd (omega arith)
        at_least v (suc n) h = omega arith

  -- after h turns
  pub turned_end : {i : ℕ} {spent : Counts} {cells log : List ℕ} → Turned s f k d a w cells₀ log₁ i spent cells log → i ≡ h → OnCells s f k (LTZS d a h w) cells₀ log₁ cells log
  turned_end {cells = cells} {log} T e shown log₀ shown₀ x C H =
      let same = (stretches.as_signs (setting_in f) f.largest d a h w R.ranged).finishes_as (inputs_of s f) x in
      rw same (rw e at (T.holds shown log₀ shown₀ x C H).1)
