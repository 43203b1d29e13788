-- BITLT on one column, as the code's loop has it. At bit k the steps from there on are those of the whole comparison.
-- Assumes nothing.
use mathlib.Core.Path.{◌≡◌, ap, subst, ◌∙◌}
use mathlib.Core.Bool.{cond}
use mathlib.Core.List.{List}
use Prim.Native.Nat.{ℕ, suc, ◌+◌, ◌-◌, ◌*◌, ◌/◌, ◌^◌, ◌≤◌, ◌<◌}
use native.Mathlib.Omega.{arith}
use lib.ListN.{length, take, drop}
use lib.Seq.{drop-drop}
use Rattle.model.specs.Bytes.{sevens}
use Rattle.model.specs.Deal.{Row}
use Rattle.model.specs.Trees.{Tree, odd, multiply}
use Rattle.model.specs.Trees as Trees
use Rattle.model.specs.Steps.{row_ops, constant, chosen}
use Rattle.sharing.specs.Settings.{setting_of}
use Rattle.column_steps.specs.declared.column.Column.{Column}
use Rattle.column_steps.specs.declared.column.Ahead.{Ahead}
use Rattle.refusals.specs.declared.Refusal.{Refusal}
use Rattle.column_steps.specs.Reads.{own_of, Working, Standing, read_from, ComesTo, Stops, past, compared}
use Rattle.column_steps.proofs.Opening.{counts_on}
use Rattle.column_steps.proofs.Coming.{standing_first, standing_past}

-- what BITLT does from bit k on, with so many bits left
abbrev from_bit : Column → List ℕ → ℕ → ℕ → ℕ → Row → (Row → Tree Row (List Row)) → Tree Row (List Row)
from_bit c bits k turns rest lt go = Trees.comparison_from (row_ops (own_of c)) rest (sevens turns (drop (7 * k) bits)) lt go

bit_more : (c : Column) (bits : List ℕ) (k turns rest : ℕ) (lt : Row) {bit : Row} → bit ≡ take 7 (drop (7 * k) bits) → (go : Row → Tree Row (List Row))
    → from_bit c bits k (suc turns) rest lt go ≡ multiply bit lt (λ q. from_bit c bits (k + 1) turns (rest / 2) (chosen (own_of c) (odd rest) bit lt q) go)
unfolding Trees.comparison_from sevens
bit_more c bits k turns rest lt e go =
    let m : 7 * k + 7 ≡ 7 * (k + 1) = omega arith in
    rw (drop-drop, m, e)

first_bit : (c : Column) (bits : List ℕ) (v turns : ℕ) {bit lt : Row} → bit ≡ take 7 (drop (7 * 0) bits) → lt ≡ cond (odd v) (constant (own_of c) 0) bit
    → (go : Row → Tree Row (List Row)) → compared c v (sevens (suc turns) bits) go ≡ from_bit c bits 1 turns (v / 2) lt go
unfolding Trees.comparison sevens
first_bit c bits v turns eb el go = rw (el, eb)

none_past : (at : Ahead) → at ≡ past at (1 - 1)
none_past at =
    let a : at.triple + 12 * (1 - 1) ≡ at.triple = omega arith in
    let b : at.opening + 2 * (1 - 1) ≡ at.opening = omega arith in
    rw (a, b)

-- The loop at bit k: so many turns are left, what they need is there, and what is left to read is what the whole comparison reads.
pub record Comparing (c : Column) (part log : List ℕ) (v w : ℕ) (bits : List ℕ) (at : Ahead) (lt : Row) (rest : ℕ) (next : Ahead) (k : ℕ) : Type 0 where
  pub turns : ℕ
  pub count : w ≡ k + turns
  pub some : 1 ≤ k
  pub places : next ≡ past at (k - 1)
  pub standing : Standing c part log next 0 turns
  pub whole : (M T : ℕ) (go : Row → Tree Row (List Row))
      → read_from c part log at (0 + M) (w - 1 + T) (compared c v (sevens w bits) go) ≡ read_from c part log next (0 + M) (turns + T) (from_bit c bits k turns rest lt go)

module _ {c : Column} (W : Working c) {part log : List ℕ} {v w : ℕ} {bits : List ℕ} {at : Ahead} where
  pub comparing_start : {bit lt : Row} → 1 ≤ w → Standing c part log at 0 (w - 1) → bit ≡ take 7 (drop (7 * 0) bits)
      → lt ≡ cond (odd v) (constant (setting_of c.setting) 0) bit → Comparing c part log v w bits at lt (v / 2) at 1
  comparing_start h S eb el =
      let m : w ≡ suc (w - 1) = omega arith in
      record {
        turns = w - 1;
        count = omega arith;
        some = omega arith;
        places = none_past at;
        standing = S;
        whole = λ M T go. ap (λ (u : ℕ). read_from c part log at (0 + M) (w - 1 + T) (compared c v (sevens u bits) go)) m
            ∙ ap (read_from c part log at (0 + M) (w - 1 + T)) (first_bit c bits v (w - 1) eb (el ∙ rw W.own) go);
      }

  module _ {lt : Row} {rest : ℕ} {next : Ahead} {k : ℕ} (C : Comparing c part log v w bits at lt rest next k) (h : k < w) where
    one_turn : C.turns ≡ 1 + (C.turns - 1)
    one_turn = omega (arith, C.count)

    here : Standing c part log next 0 (1 + (C.turns - 1))
    here = rw one_turn at C.standing

    pub turn_standing : Standing c part log next 0 1
    turn_standing = standing_first 1 (C.turns - 1) here

    module _ {bit : Row} (eb : bit ≡ take 7 (drop (7 * k) bits)) where
      -- a turn, by what its product came to
      turn : (M T : ℕ) (go : Row → Tree Row (List Row))
          → read_from c part log next (0 + M) (C.turns + T) (from_bit c bits k C.turns rest lt go)
          ≡ read_from c part log next (0 + M) (1 + (C.turns - 1 + T)) (multiply bit lt (λ q. from_bit c bits (k + 1) (C.turns - 1) (rest / 2) (chosen (own_of c) (odd rest) bit lt q) go))
      turn M T go =
          let e : C.turns + T ≡ 1 + (C.turns - 1 + T) = omega (arith, one_turn) in
          let m : C.turns ≡ suc (C.turns - 1) = omega (arith, one_turn) in
          rw (e, ← bit_more c bits k (C.turns - 1) rest lt eb go, ← m)

      pub turn_stops : {e : Refusal} → Stops c part log next 0 1 (multiply bit lt) e → Stops c part log at 0 (w - 1) (compared c v (sevens w bits)) e
      turn_stops S = record { reads = λ M T go. C.whole M T go ∙ turn M T go ∙ S.reads M (C.turns - 1 + T) _ }

      pub comparing_more : {q lt' : Row} {next' : Ahead} → ComesTo c part log next (past next 1) 0 1 (multiply bit lt) q
          → lt' ≡ chosen (setting_of c.setting) (odd rest) bit lt q → next' ≡ past next 1 → Comparing c part log v w bits at lt' (rest / 2) next' (k + 1)
      comparing_more {q} {lt'} {next'} P el en =
          record {
            turns = C.turns - 1;
            count = omega (arith, C.count);
            some = omega arith;
            places = en ∙ rw C.places further;
            standing = rw en (standing_past 1 (C.turns - 1) here P.there);
            whole = λ M T go. C.whole M T go ∙ turn M T go ∙ P.reads M (C.turns - 1 + T) _ ∙ more M T go;
          }
        where
          further : past (past at (k - 1)) 1 ≡ past at (k + 1 - 1)
          further =
              let a : at.triple + 12 * (k - 1) + 12 * 1 ≡ at.triple + 12 * (k + 1 - 1) = omega (arith, C.some) in
              let b : at.opening + 2 * (k - 1) + 2 * 1 ≡ at.opening + 2 * (k + 1 - 1) = omega (arith, C.some) in
              rw (a, b)

          more : (M T : ℕ) (go : Row → Tree Row (List Row))
              → read_from c part log (past next 1) M (C.turns - 1 + T) (from_bit c bits (k + 1) (C.turns - 1) (rest / 2) (chosen (own_of c) (odd rest) bit lt q) go)
              ≡ read_from c part log next' (0 + M) (C.turns - 1 + T) (from_bit c bits (k + 1) (C.turns - 1) (rest / 2) lt' go)
          more M T go = let z : 0 + M ≡ M = omega arith in rw (el, en, z, W.own)

    -- the place behind it is a number of the code
    pub turn_ahead : (q : ℕ) → q ≡ 0 → (q ≡ 0 → c.reader.n * (next.opening + 2 * 1) ≤ length log) → length part < 2 ^ 64 → length log < 2 ^ 64
        → (next.triple + 12 * 1 < 2 ^ 64) × (next.opening + 2 * 1 < 2 ^ 64)
    turn_ahead q z l hp hl = (omega (arith, turn_standing.triples), counts_on log (next.opening + 2 * 1) W (l z) hl)

  pub comparing_end : {lt : Row} {rest : ℕ} {next : Ahead} {k : ℕ} → Comparing c part log v w bits at lt rest next k → w ≤ k
      → ComesTo c part log at (past at (w - 1)) 0 (w - 1) (compared c v (sevens w bits)) lt
  unfolding Trees.comparison_from sevens
  comparing_end {lt} {next = next} {k} C h =
      let z : C.turns ≡ 0 = omega (arith, C.count) in
      let kw : k - 1 ≡ w - 1 = omega (arith, C.count) in
      let p : next ≡ past at (w - 1) = C.places ∙ rw kw in
      record {
        reads = λ M T go.
            let a : 0 + M ≡ M = omega arith in
            let b : 0 + T ≡ T = omega arith in
            C.whole M T go ∙ rw (z, a, b) (ap (λ (x : Ahead). read_from c part log x M T (go lt)) p);
        there = subst (λ (x : Ahead). c.reader.n * x.opening ≤ length log) p C.standing.openings;
      }
