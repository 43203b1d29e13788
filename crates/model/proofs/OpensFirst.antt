-- A command that opens something does so before all else: read by one party where no record is left, it is 43.
-- Assumes nothing.
use mathlib.Core.Path.{◌≡◌, refl}
use mathlib.Core.List.{List, []}
use Prim.Native.Nat.{ℕ, zero, suc, ◌<◌}
use native.Mathlib.Omega.{arith}
use Rattle.model.specs.Deal.{Setting, Row, Deal}
use Rattle.model.specs.Trees as Trees
use Rattle.model.specs.Trees.{done}
use Rattle.model.specs.Script.{Command, LOAD, CONST, ADD, SUB, SCALE, MUL, MOD, TRUNC, LTZ, OVER, BLOCKS, REVEAL, BITLT, LTZS}
use Rattle.model.specs.Costs.{cost_by, cost}
use Rattle.model.specs.Commands.{registers_from, signs, command}
use Rattle.model.specs.Run.{row_command}
use Rattle.model.specs.Replay.{Read, stopped, one_column, own_share, from_record, by_record}
use Rattle.model.proofs.ReplayRecord.{too_short}

module _ (S : Setting) (j : ℕ) (some : 0 < S.n) where
  none_left : {A : Type 0} (x : Row) (go : ℕ → List ℕ → Read A) → from_record S j x [] go ≡ stopped 43
  unfolding from_record
  none_left x go = rw (too_short S.p S.n S.t j (own_share x) [] some) refl

  pub opens_first : (input : List Row) (i : ℕ) (c : Command) (g : List Row) (d : Deal) → 0 < (cost S c).counts.openings
      → by_record S j (row_command (one_column S) input i c g done) d [] ≡ stopped 43
  unfolding by_record command cost_by registers_from signs Trees.comparison Trees.comparison_from Trees.remainder Trees.floor Trees.sign Trees.over Trees.blocks
  opens_first input i (LOAD r) g d h = absurd (omega arith)
  opens_first input i (CONST r v) g d h = absurd (omega arith)
  opens_first input i (ADD r a b) g d h = absurd (omega arith)
  opens_first input i (SUB r a b) g d h = absurd (omega arith)
  opens_first input i (SCALE r a v) g d h = absurd (omega arith)
  opens_first input i (MUL r a b) g d h = none_left _ _
  opens_first input i (MOD r a k m) g d h = none_left _ _
  opens_first input i (TRUNC r a k m) g d h = none_left _ _
  opens_first input i (LTZ r a k) g d h = none_left _ _
  opens_first input i (OVER r a k v) g d h = none_left _ _
  opens_first input i (BLOCKS r a k m) g d h = none_left _ _
  opens_first input i (REVEAL a) g d h = none_left _ _
  opens_first input i (BITLT r b zero v) g d h = absurd (omega arith)
  opens_first input i (BITLT r b (suc zero) v) g d h = absurd (omega arith)
  opens_first input i (BITLT r b (suc (suc w)) v) g d h = none_left _ _
  opens_first input i (LTZS r a zero k) g d h = absurd (omega arith)
  opens_first input i (LTZS r a (suc n) k) g d h = none_left _ _
