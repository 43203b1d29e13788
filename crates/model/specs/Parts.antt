-- What Trees.antt and Commands.antt say, written out on rows: MUL; MOD by its parts, of which the paper's figures name C, f and u; TRUNC, LTZ, OVER and
-- BLOCKS by the step that they rest on; rows column by column; that no step reveals anything; commands by the step of their name; and a run by its commands.
-- Assumes nothing.
use Rattle.std.specs.Prelude.{◌≡◌, List, [], ◌∷◌, ◌++◌, ℕ, ◌+◌, ◌-◌, ◌%◌, ◌^◌, ◌<◌, get_or, set, take}
use Rattle.algebra.specs.Ring.{add, sub, mul}
use Rattle.model.specs.Trees.{Tree, done, multiply}
use Rattle.model.specs.Trees as Trees
use Rattle.model.specs.Deal.{Setting, Row, Deal, no_row}
use Rattle.model.specs.Steps.{less_triple, less_mask, plus, minus, times, constant, row_ops, value, next_triple, next_mask, beaver, by_rows, Step, row_remainder}
use Rattle.model.specs.Steps.{product, comparison, remainder, floor, sign, over, blocks, masked, unmasked, quotient}
use Rattle.model.specs.Script.{Command, MUL, MOD, TRUNC, LTZ, OVER, BLOCKS, BITLT, Line}
use Rattle.model.specs.Refusing.{given}
use Rattle.model.specs.Costs.{cost}
use Rattle.model.specs.Commands.{registers_from}
use Rattle.model.specs.Run.{Spent, Supply, State, register, check, perform, finish, run_lines}

module _ (S : Setting) where
  -- "it opens C = X + r modulo p"
  abbrev pub step_c : ℕ → Row → Deal → ℕ
  step_c k a d = value S (masked S k a d)

  -- "f is BITLT of C against all ℓ bits of r. u0 is BITLT of C mod 2^m, and u1 of (C + p) mod 2^m, each against the low m bits of r.
  -- g = f times (u1 − u0) by MUL; u = u0 + g.": each on the deal that the one before it left
  abbrev pub step_f : ℕ → Row → Deal → Step
  step_f k a d = comparison S (step_c k a d) (next_mask S d) (less_mask d)

  abbrev pub step_u0 : ℕ → ℕ → Row → Deal → Step
  step_u0 k m a d = comparison S (step_c k a d % 2 ^ m) (take m (next_mask S d)) (step_f k a d).deal

  abbrev pub step_u1 : ℕ → ℕ → Row → Deal → Step
  step_u1 k m a d = comparison S ((step_c k a d + S.p) % 2 ^ m) (take m (next_mask S d)) (step_u0 k m a d).deal

  abbrev pub step_g : ℕ → ℕ → Row → Deal → Step
  step_g k m a d = product S (step_f k a d).left (minus S (step_u1 k m a d).left (step_u0 k m a d).left) (step_u1 k m a d).deal

  abbrev pub step_u : ℕ → ℕ → Row → Deal → Row
  step_u k m a d = plus S (step_u0 k m a d).left (step_g k m a d).left

  -- MOD made of these, C's row opened first: "The result is C mod 2^m + f·((C + p) mod 2^m − C mod 2^m) − r mod 2^m + 2^m·u"
  abbrev pub parts : ℕ → ℕ → Row → Deal → Step
  parts k m a d =
      record {
        left = unmasked S m (step_c k a d) (next_mask S d) (step_f k a d).left (step_u k m a d);
        opened = masked S k a d ∷ ((step_f k a d).opened ++ ((step_u0 k m a d).opened ++ ((step_u1 k m a d).opened ++ (step_g k m a d).opened)));
        deal = (step_g k m a d).deal;
      }

-- the tree reveals nothing, whatever the deal
abbrev pub Silent : Setting → Tree Row Row → Type 0
Silent S T = (d : Deal) → (by_rows S T d).shown ≡ []

-- what the steps on rows are made of, whatever the rows and the deal
pub record StepParts (S : Setting) : Type 0 where
  -- "MUL (Beaver's method) takes the next triple, opens a1 = left − a, then b1 = right − b"
  pub product_parts : (left right : Row) (d : Deal)
      → (let t = next_triple S d in
      let a1 = minus S left t.a in
      let b1 = minus S right t.b in
      product S left right d ≡ record { left = beaver S (value S a1) (value S b1) t; opened = a1 ∷ b1 ∷ []; deal = less_triple d })
  pub remainder_parts : (k m : ℕ) (a : Row) (d : Deal) → remainder S k m a d ≡ parts S k m a d
  -- "TRUNC is (a − MOD) times the inverse of 2^m."
  pub floor_parts : (k m : ℕ) (a : Row) (d : Deal)
      → (let x = remainder S k m a d in floor S k m a d ≡ record { left = quotient S m a x.left; opened = x.opened; deal = x.deal })
  -- "LTZ is minus TRUNC with m = k − 1."
  pub sign_parts : (k : ℕ) (a : Row) (d : Deal)
      → (let x = floor S k (k - 1) a d in sign S k a d ≡ record { left = minus S (constant S 0) x.left; opened = x.opened; deal = x.deal })
  -- OVER: "LTZ of (v − a)"; BLOCKS, by request 2: "TRUNC of a + 2^m − 1 with the same k and m"
  pub over_parts : (k v : ℕ) (a : Row) (d : Deal) → over S k v a d ≡ sign S k (minus S (constant S v) a) d
  pub blocks_parts : (k m : ℕ) (a : Row) (d : Deal) → blocks S k m a d ≡ floor S k m (plus S a (constant S (2 ^ m - 1))) d
  -- a `Step` leaves out revealed values, and there are none
  pub product_silent : (l r : Row) → Silent S (multiply l r done)
  pub comparison_silent : (v : ℕ) (bits : List Row) → Silent S (Trees.comparison (row_ops S) v bits done)
  pub remainder_silent : (k m : ℕ) (a : Row) → Silent S (row_remainder S k m a done)
  pub floor_silent : (k m : ℕ) (a : Row) → Silent S (Trees.floor S.p (row_ops S) (row_remainder S) k m a done)
  pub sign_silent : (k : ℕ) (a : Row) → Silent S (Trees.sign S.p (row_ops S) (row_remainder S) k a done)
  pub over_silent : (k v : ℕ) (a : Row) → Silent S (Trees.over S.p (row_ops S) (row_remainder S) k v a done)
  pub blocks_silent : (k m : ℕ) (a : Row) → Silent S (Trees.blocks S.p (row_ops S) (row_remainder S) k m a done)

-- "One column is worked from its own cells": share j of a sum, a difference and a multiple is made of the shares j, and a constant's is its value
pub record Columns (S : Setting) : Type 0 where
  pub plus_at : (a b : Row) (j : ℕ) → j < S.n → get_or (plus S a b) j 0 ≡ add S.p (get_or a j 0) (get_or b j 0)
  pub minus_at : (a b : Row) (j : ℕ) → j < S.n → get_or (minus S a b) j 0 ≡ sub S.p (get_or a j 0) (get_or b j 0)
  pub times_at : (c : ℕ) (a : Row) (j : ℕ) → j < S.n → get_or (times S c a) j 0 ≡ mul S.p c (get_or a j 0)
  pub constant_at : (v j : ℕ) → j < S.n → get_or (constant S v) j 0 ≡ v

abbrev pub EveryColumn : Type 0
EveryColumn = (S : Setting) → Columns S

-- for whatever p, ℓ, n and t
abbrev pub EveryStep : Type 0
EveryStep = (S : Setting) → StepParts S

-- the state s after the step x, its row being put in register r, with so much spent
abbrev pub stepped : Spent → ℕ → State → Step → State
stepped spent r s x =
    record { spent = spent; registers = set s.registers r x.left; deal = x.deal; opened = s.opened ++ x.opened; shown = s.shown }

-- the command c leaves the row of the step x in register r, and changes nothing else but what the step opens and takes
abbrev pub Put : Setting → List Row → Command → ℕ → State → Step → Type 0
Put S input c r s x = perform S input c s ≡ stepped s.spent r s x

-- the commands that open rows and leave one, by the step of their name, whatever the state. LTZS, which leaves several, is in Stretches.antt.
pub record CommandParts (S : Setting) (input : List Row) (s : State) : Type 0 where
  pub mul_put : (r a b : ℕ) → Put S input (MUL r a b) r s (product S (register s a) (register s b) s.deal)
  pub mod_put : (r a k m : ℕ) → Put S input (MOD r a k m) r s (remainder S k m (register s a) s.deal)
  pub trunc_put : (r a k m : ℕ) → Put S input (TRUNC r a k m) r s (floor S k m (register s a) s.deal)
  pub ltz_put : (r a k : ℕ) → Put S input (LTZ r a k) r s (sign S k (register s a) s.deal)
  pub over_put : (r a k v : ℕ) → Put S input (OVER r a k v) r s (over S k v (register s a) s.deal)
  pub blocks_put : (r a k m : ℕ) → Put S input (BLOCKS r a k m) r s (blocks S k m (register s a) s.deal)
  pub bitlt_put : (r b w v : ℕ) → Put S input (BITLT r b w v) r s (comparison S v (registers_from no_row s.registers b w) s.deal)

abbrev pub EveryCommand : Type 0
EveryCommand = (S : Setting) (input : List Row) (s : State) → CommandParts S input s

-- "Each command gets exactly what the one before it left; a refused one ends the run.": the run of the lines of a script, from whatever state
pub record RunByCommands : Type 0 where
  pub no_lines : (S : Setting) (u : Supply) (input : List Row) (end : ℕ) (s : State)
      → run_lines S u input end [] s ≡ record { number = 0; place = end; state = s }
  pub a_line : (S : Setting) (u : Supply) (input : List Row) (end : ℕ) (x : Line) (xs : List Line) (s : State)
      → run_lines S u input end (x ∷ xs) s
      ≡ (let number = check u (cost S x.command) s.spent in
      given number (run_lines S u input end xs (finish S input x.command s)) (record { number = number; place = x.place; state = s }))
