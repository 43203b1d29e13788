-- BITLT as the code's loop has it, one law for each of its needs. At bit k the steps from there on are those of the whole comparison.
-- Assumes nothing.
use mathlib.Core.Path.{◌≡◌, refl, ap, ◌∙◌}
use mathlib.Core.Bool.{cond}
use mathlib.Core.List.{List}
use Prim.Native.Nat.{ℕ, suc, ◌+◌, ◌-◌, ◌*◌, ◌/◌, ◌^◌, ◌≤◌, ◌<◌}
use native.Mathlib.Omega.{arith}
use lib.ListN.{length, take, drop}
use lib.Seq.{drop-drop}
use Rattle.model.specs.Bytes.{sevens}
use Rattle.model.specs.Steps.{Row, Deal, row_ops, step_of, constant, chosen, product, comparison}
use Rattle.model.specs.Trees.{Tree, done, odd}
use Rattle.model.specs.Trees as Trees
use Rattle.sharing.specs.Settings.{setting_of}
use Rattle.sharing.specs.declared.setting.Setting.{Setting}
use Rattle.steps.specs.declared.places.Places.{Places}
use Rattle.steps.specs.Places.{past_triples, Ahead, Room}
use Rattle.steps.specs.Promises.{StepLeaves, Works}
use Rattle.steps.proofs.Leaving.{done_leaves, product_then}
use Rattle.steps.proofs.Rooms.{room_first, room_past, room_ahead}

-- what BITLT does from bit k on, with so many bits left
abbrev from_bit : Setting → List ℕ → ℕ → ℕ → ℕ → Row → Tree Row Row
from_bit S bits k turns rest lt = Trees.comparison_from (row_ops (setting_of S)) rest (sevens turns (drop (7 * k) bits)) lt done

-- a bit, and those behind it
bit_more : (S : Setting) (bits : List ℕ) (k turns rest : ℕ) (lt : Row) {bit : Row} → bit ≡ take 7 (drop (7 * k) bits)
    → from_bit S bits k (suc turns) rest lt
    ≡ Trees.multiply bit lt (λ q. from_bit S bits (k + 1) turns (rest / 2) (chosen (setting_of S) (odd rest) bit lt q))
unfolding Trees.comparison_from sevens
bit_more S bits k turns rest lt e =
    let m : 7 * k + 7 ≡ 7 * (k + 1) = omega arith in
    rw (drop-drop, m, e)

-- bit 0, and those behind it
first_bit : (S : Setting) (bits : List ℕ) (v turns : ℕ) {bit lt : Row} → bit ≡ take 7 (drop (7 * 0) bits) → lt ≡ cond (odd v) (constant (setting_of S) 0) bit
    → (d : Deal) → comparison (setting_of S) v (sevens (suc turns) bits) d ≡ step_of (setting_of S) (from_bit S bits 1 turns (v / 2) lt) d
unfolding comparison Trees.comparison sevens
first_bit S bits v turns eb el d = rw (el, eb)

-- one product, and the bits behind it
turn : {s : List ℕ} {S : Setting} (bits : List ℕ) (k rest t : ℕ) (lt bit : Row) {q next : Row} {at : Places} (log : List ℕ) {log' log'' : List ℕ} {row : Row} → S.n ≤ 7
    → bit ≡ take 7 (drop (7 * k) bits) → StepLeaves s S at 1 (product (setting_of S) bit lt) q log log' → next ≡ chosen (setting_of S) (odd rest) bit lt q
    → Works s S (past_triples S at 1) t (from_bit S bits (k + 1) t (rest / 2) next) row log' log''
    → (u : ℕ) → u ≡ 1 + t → Works s S at u (from_bit S bits k u rest lt) row log log''
turn {S = S} bits k rest t lt bit log h eb P en L u e =
    let m : 1 + t ≡ suc t = omega arith in
    rw (e ∙ m, bit_more S bits k t rest lt eb, ← m) (product_then h bit lt _ P (rw en at L))

-- The loop at bit k: so many turns are left, there is room for them, the record keeps its length, and whoever does
-- what is left has done the whole.
pub record Comparing (s : List ℕ) (S : Setting) (v w : ℕ) (bits : List ℕ) (at₀ : Places) (log₀ log : List ℕ) (lt : Row) (rest : ℕ) (at : Places) (k : ℕ) : Type 0 where
  pub turns : ℕ
  pub count : w ≡ k + turns
  pub room : Room s log S at turns
  pub kept : length log ≡ length log₀
  pub whole : (row : Row) (log' : List ℕ) → Works s S at turns (from_bit S bits k turns rest lt) row log log'
      → StepLeaves s S at₀ (w - 1) (comparison (setting_of S) v (sevens w bits)) row log₀ log'

module _ {s : List ℕ} {S : Setting} {v w : ℕ} {bits : List ℕ} {at₀ : Places} {log₀ : List ℕ} where
  pub comparing_start : {bit lt : Row} → 1 ≤ w → Room s log₀ S at₀ (w - 1)
      → bit ≡ take 7 (drop (7 * 0) bits) → lt ≡ cond (odd v) (constant (setting_of S) 0) bit → Comparing s S v w bits at₀ log₀ log₀ lt (v / 2) at₀ 1
  comparing_start h R eb el =
      let m : w ≡ suc (w - 1) = omega arith in
      record {
        turns = w - 1;
        count = omega arith;
        room = R;
        kept = refl;
        whole = λ row log' L d D. rw (ap (λ (u : ℕ). comparison (setting_of S) v (sevens u bits) d) m ∙ first_bit S bits v (w - 1) eb el d) (L d D);
      }

  module _ {log : List ℕ} {lt : Row} {rest : ℕ} {at : Places} {k : ℕ} (C : Comparing s S v w bits at₀ log₀ log lt rest at k) where
    one_turn : k < w → C.turns ≡ 1 + (C.turns - 1)
    one_turn h = omega (arith, C.count)

    turns_room : k < w → Room s log S at (1 + (C.turns - 1))
    turns_room h = rw (one_turn h) at C.room

    -- the room of a turn, and that the places and the bit behind it are numbers of the code
    pub turn_room : k < w → Room s log S at 1
    turn_room h = room_first 1 _ (turns_room h)

    pub turn_ahead : k < w → length s < 2 ^ 64 → length log₀ < 2 ^ 64 → Ahead S at 1
    turn_ahead h hs hl = room_ahead 1 _ hs (rw C.kept hl) (turns_room h)

    pub turn_counts : k < w → w < 2 ^ 64 → k + 1 < 2 ^ 64
    turn_counts h l = omega arith

    pub comparing_more : {bit q next : Row} {log' : List ℕ} → k < w → bit ≡ take 7 (drop (7 * k) bits) → StepLeaves s S at 1 (product (setting_of S) bit lt) q log log'
        → length log' ≡ length log → next ≡ chosen (setting_of S) (odd rest) bit lt q → Comparing s S v w bits at₀ log₀ log' next (rest / 2) (past_triples S at 1) (k + 1)
    comparing_more {bit} {log' = log'} h eb P e en =
        record {
          turns = C.turns - 1;
          count = omega (arith, C.count);
          room = room_past 1 _ e (turns_room h);
          kept = e ∙ C.kept;
          whole = λ row log'' L. C.whole row log'' (turn bits k rest _ lt bit log C.room.fitting.parties eb P en L C.turns (one_turn h));
        }

    pub comparing_end : w ≤ k → StepLeaves s S at₀ (w - 1) (comparison (setting_of S) v (sevens w bits)) lt log₀ log
    unfolding Trees.comparison_from sevens
    comparing_end h =
        let z : C.turns ≡ 0 = omega (arith, C.count) in
        C.whole lt log (rw z done_leaves)
