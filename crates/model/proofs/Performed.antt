-- A command of a run does what the table of commands says, against the secrets read before it.
-- Assumes nothing.
use mathlib.Core.Path.{◌≡◌, refl, sym, ap, ap₂, ◌∙◌}
use mathlib.Core.Bool.{false}
use mathlib.Core.List.Memᴰ.{head as here}
use mathlib.Core.List.{List, [], ◌∷◌, map}
use Prim.Native.Nat.{ℕ, zero, suc, ◌+◌, ◌%◌, ◌≤◌, ◌<◌}
use native.Mathlib.Omega.{arith}
use lib.Dec.{T}
use lib.ListN.{length, get_or, set, length-set}
use lib.Seq.{get_or-set_same, get_or-set_other}
use Rattle.algebra.specs.Ring.{add, mul}
use Rattle.algebra.specs.Lists.{from}
use Rattle.algebra.proofs.Ring.{ring, mod-ring, reduced}
use Rattle.model.specs.Steps.{Setting, Row, Deal, constant, by_rows}
use Rattle.model.specs.Script.{Command, LOAD, CONST, ADD, SUB, SCALE, MUL, MOD, TRUNC, LTZ, OVER, BLOCKS, REVEAL, BITLT, LTZS, in_ranges, outputs}
use Rattle.model.specs.Costs.{cost_by, cost}
use Rattle.model.specs.Commands.{command}
use Rattle.model.specs.Sheet.{secrets}
use Rattle.model.specs.Run.{State, Supply, no_row, marked, pay, perform, finish}
use Rattle.model.specs.Plain.{plainly, negative, negatives, values_from}
use Rattle.model.specs.Formulas.{Remains, Divides, Signs, Exceeds, Charges, Exact}
use Rattle.model.specs.Results.{secret_in, Leaves, target, Does}
use Rattle.model.proofs.Each.{each_length}
use Rattle.model.proofs.Sharings.{secret_lt}
use Rattle.model.proofs.Formulas.{field_exact}
use Rattle.model.proofs.Operands.{operands}
use Rattle.model.proofs.Checks.{Passed}
use Rattle.model.proofs.Shared.{value_secret}
use Rattle.model.proofs.Courses.{shareds_at, length_values}
use Rattle.model.proofs.Marks.{marked_kept, marked_set}
use Rattle.model.proofs.Outputs.{agrees}
use Rattle.model.proofs.Held.{Holds, Given, none_shared, finished}

-- a relation of two numbers, of numbers equal to them
equals : (P : ℕ → ℕ → Type 0) {a v z w : ℕ} → a ≡ v → z ≡ w → P v w → P a z
equals P e f x = rw (e, f) x

marks_are : (S : Setting) (input : List Row) (c : Command) (s : State) (r : ℕ)
    → get_or (finish S input c s).spent.marks r false ≡ get_or (marked s.spent.marks (target c)) r false
unfolding finish pay
marks_are S input c s r = ap (λ (ds : List ℕ). get_or (marked s.spent.marks ds) r false) (agrees S c).writes

-- LTZS on values: what it leaves in its i-th register, where vs stood in the registers and us is read; registers before d are kept
negatives_kept : (p k : ℕ) (xs : List ℕ) (d : ℕ) (vs : List ℕ) (r : ℕ) → r < d → get_or (negatives p k xs d vs) r 0 ≡ get_or vs r 0
unfolding negatives
negatives_kept p k [] d vs r h = refl
negatives_kept p k (a ∷ xs) d vs r h =
    negatives_kept p k xs (suc d) (set vs d (negative p k a)) r (omega arith) ∙ get_or-set_other vs d r _ 0 (λ e. omega arith)

negatives_at : (p k : ℕ) (us : List ℕ) (d a h i : ℕ) (vs : List ℕ) → i < h → d + h ≤ length vs
    → get_or (negatives p k (values_from us a h) d vs) (d + i) 0 ≡ negative p k (get_or us (a + i) 0)
unfolding negatives values_from
negatives_at p k us d a zero i vs l m = absurd (omega arith)
negatives_at p k us d a (suc h) zero vs l m =
    let e : d + 0 ≡ d = omega arith in
    let f : a + 0 ≡ a = omega arith in
    rw (e, f)
    (negatives_kept p k (values_from us (suc a) h) (suc d) (set vs d (negative p k (get_or us a 0))) d (omega arith) ∙ get_or-set_same vs d _ 0 (omega arith))
negatives_at p k us d a (suc h) (suc i) vs l m =
    let e : d + suc i ≡ suc d + i = omega arith in
    let f : a + suc i ≡ suc a + i = omega arith in
    rw (e, f) (negatives_at p k us (suc d) (suc a) h i _ (omega arith) (rw length-set (omega arith)))

module _ {S : Setting} {K : ℕ} {u : Supply} {input : List Row} {d₀ : Deal} (G : Given S K u input d₀) (s : State) (vs : List ℕ) (H : Holds S d₀ s vs) where
  -- the row and the secret of the register that was written
  row_left : (d : ℕ) (x : Row) → d < 64 → get_or (set s.registers d x) d no_row ≡ x
  row_left d x h = get_or-set_same s.registers d x no_row (omega (arith, each_length H.shareds, H.values_64))

  read_is : (r : ℕ) → secret_in S s r ≡ get_or vs r 0
  read_is r = (shareds_at (none_shared G) H.shareds r).is

  below : (r : ℕ) → get_or vs r 0 < S.p
  below r = rw (sym (read_is r)) (secret_lt G.field.modulus_is G.parties _)

  values_read : (b w : ℕ) → map (secret_in S s) (from b w) ≡ values_from vs b w
  unfolding from values_from
  values_read b zero = refl
  values_read b (suc w) = ap₂ ◌∷◌ (read_is b) (values_read (suc b) w)

  -- of a command that writes d
  left : (c : Command) (ok : T (in_ranges S.p K c)) (Q : Passed u (cost S c) s.spent) {d z : ℕ} → target c ≡ d ∷ []
      → plainly S.p (secrets S input) s.spent.counts.inputs c vs ≡ set vs d z → secret_in S (finish S input c s) d ≡ z
  left c ok Q {d} {z} q e =
      let h = (agrees S c).low S.p K ok d (rw q (here refl)) in
      (shareds_at (none_shared G) (finished G s vs H c ok Q).holds.shareds d).is ∙ rw e (get_or-set_same vs d z 0 (omega (arith, h, H.values_64)))

  E : Exact S.p K
  E = field_exact G.field

  leaves : (c : Command) → T (in_ranges S.p K c) → Passed u (cost S c) s.spent → Leaves S input c s (finish S input c s)
  unfolding finish perform command by_rows plainly cost_by outputs
  leaves (LOAD d) ok Q = (omega (arith, Q.inputs, G.inputs_many), row_left d _ (operands S.p K (LOAD d) ok).0)
  leaves (CONST d v) ok Q =
      (row_left d _ (operands S.p K (CONST d v) ok).0 ∙ (unfold constant in refl), left (CONST d v) ok Q refl refl)
  leaves (ADD d a b) ok Q =
      left (ADD d a b) ok Q refl refl
      ∙ (unfold add in rw (read_is a, read_is b))
  leaves (SUB d a b) ok Q =
      rw (left (SUB d a b) ok Q refl refl, read_is a, read_is b)
      (reduced (below a) (let z : 0 < S.p = omega (arith, below a) in simp mod-ring (ring z _ _ _ _ (omega arith))))
  leaves (SCALE d a v) ok Q =
      left (SCALE d a v) ok Q refl refl
      ∙ (unfold mul in rw (read_is a) (ap (λ (z : ℕ). z % S.p) (omega arith)))
  leaves (MUL d a b) ok Q =
      left (MUL d a b) ok Q refl refl
      ∙ (unfold mul in rw (read_is a, read_is b))
  leaves (MOD d a k m) ok Q =
      let R = operands S.p K (MOD d a k m) ok in
      equals (Remains S.p k m) (read_is a) (left (MOD d a k m) ok Q refl refl)
      (E.remains k m _ (omega arith) (omega arith) (omega arith) (omega arith) (below a))
  leaves (TRUNC d a k m) ok Q =
      let R = operands S.p K (TRUNC d a k m) ok in
      equals (Divides S.p k m) (read_is a) (left (TRUNC d a k m) ok Q refl refl)
      (E.divides k m _ (omega arith) (omega arith) (omega arith) (omega arith) (below a))
  leaves (BLOCKS d a k m) ok Q =
      let R = operands S.p K (BLOCKS d a k m) ok in
      equals (Charges S.p k m) (read_is a) (left (BLOCKS d a k m) ok Q refl refl)
      (E.charges k m _ (omega arith) (omega arith) (omega arith) (omega arith) (below a))
  leaves (LTZ d a k) ok Q =
      let R = operands S.p K (LTZ d a k) ok in
      equals (Signs S.p k) (read_is a) (left (LTZ d a k) ok Q refl refl) (E.signs k _ (omega arith) (omega arith) (below a))
  leaves (OVER d a k v) ok Q =
      let R = operands S.p K (OVER d a k v) ok in
      equals (Exceeds S.p k v) (read_is a) (left (OVER d a k v) ok Q refl refl)
      (E.exceeds_by k v _ (omega arith) (omega arith) (omega arith) (below a))
  leaves (REVEAL a) ok Q = (refl, rw (value_secret S G.field.modulus_is G.parties (shareds_at (none_shared G) H.shareds a).sharing))
  leaves (BITLT d b w v) ok Q =
      let R = operands S.p K (BITLT d b w v) ok in
      rw (values_read b w, left (BITLT d b w v) ok Q refl refl)
      (E.compares v (values_from vs b w) (rw (length_values vs) (omega arith)) (rw (length_values vs) (omega arith)))
  leaves (LTZS d a h k) ok Q = λ i l.
      let R = operands S.p K (LTZS d a h k) ok in
      let z = (shareds_at (none_shared G) (finished G s vs H (LTZS d a h k) ok Q).holds.shareds (d + i)).is in
      equals (Signs S.p k) (read_is (a + i)) (z ∙ negatives_at S.p k vs d a h i vs l (omega (arith, H.values_64)))
      (E.signs k _ (omega arith) (omega arith) (below (a + i)))

  -- what a command does to its target and to the other registers
  pub does : (c : Command) → T (in_ranges S.p K c) → Passed u (cost S c) s.spent → Does S K input c s (finish S input c s)
  does c ok Q =
      record {
        in_range_lem = ok;
        leaves = leaves c ok Q;
        below = λ r. secret_lt G.field.modulus_is G.parties _;
        sets = λ r i. marks_are S input c s r ∙ marked_set s.spent.marks (target c) r i (omega (arith, (agrees S c).low S.p K ok r i, H.marks_64));
        keeps = λ r n. ((finished G s vs H c ok Q).kept r n, marks_are S input c s r ∙ marked_kept s.spent.marks (target c) r n);
      }
