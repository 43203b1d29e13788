-- Steps and lines on rows, by their parts: the tree of a step goes on with what the step leaves, and the run of a script goes on from command to command.
-- So the closed statements of specs/Parts hold.
-- Assumes nothing.
use mathlib.Core.Path.{◌≡◌, refl, sym, ap, ◌∙◌}
use mathlib.Core.Bool.{cond}
use mathlib.Core.List.{List, [], ◌∷◌, ◌++◌, append_assoc, append-nil}
use Prim.Native.Nat.{ℕ, zero, suc, ◌-◌, ◌/◌, ◌^◌}
use lib.ListN.{set}
use Rattle.model.specs.Trees.{Tree, done, multiply, odd}
use Rattle.model.specs.Trees as Trees
use Rattle.algebra.proofs.Rows.{row_at_lem}
use Rattle.model.specs.Steps.{Setting, Row, Deal, Worked, after, row_ops, by_rows, Step, step_of, row_remainder, plus, minus, times, constant, product, comparison, remainder, floor, sign, over, blocks, quotient, less_triple, next_triple, beaver, value}
use Rattle.model.specs.Parts.{parts, EveryColumn, EveryStep, stepped, Put, EveryCommand, RunByCommands}
use Rattle.model.specs.Script.{Command, MUL, MOD, TRUNC, LTZ, OVER, BLOCKS, BITLT, Line}
use Rattle.model.specs.Refusing.{given}
use Rattle.model.specs.Costs.{cost}
use Rattle.model.specs.Commands.{Ended, command, through_lines}
use Rattle.model.specs.Run.{Spent, State, row_command, Supply, Stop, check, pay, state_after, perform, finish, run_lines}
use Rattle.model.proofs.Reaching.{command_does}

-- a row made without an opening, as a step
abbrev pub made : Deal → Row → Step
made d x = record { left = x; opened = []; deal = d }

module _ (S : Setting) where
  -- a tree worked on rows does what a step does, and goes on with what the step leaves
  abbrev pub WorksAs : {A : Type 0} → ((Row → Tree Row A) → Tree Row A) → (Deal → Step) → Type 0
  WorksAs {A} T step = (go : Row → Tree Row A) (d : Deal) → (let x = step d in by_rows S (T go) d ≡ after x.opened [] (by_rows S (go x.left) x.deal))

  module _ {A : Type 0} where
    pub product_does : (l r : Row) → WorksAs {A = A} (multiply l r) (product S l r)
    unfolding by_rows product
    product_does l r go d = refl

    from_does : (v : ℕ) (bits : List Row) (lt : Row)
        → WorksAs {A = A} (Trees.comparison_from (row_ops S) v bits lt) (step_of S (Trees.comparison_from (row_ops S) v bits lt done))
    unfolding by_rows Trees.comparison_from
    from_does v [] lt go d = refl
    from_does v (bit ∷ bits) lt go d =
        let q = step_of S (multiply bit lt done) d in
        ap (after q.opened []) (from_does (v / 2) bits (Trees.chosen (row_ops S) (odd v) bit lt q.left) go q.deal)

    pub comparison_does : (v : ℕ) (bits : List Row) → WorksAs {A = A} (Trees.comparison (row_ops S) v bits) (comparison S v bits)
    unfolding by_rows Trees.comparison comparison
    comparison_does v [] go d = refl
    comparison_does v (bit ∷ bits) go d = from_does (v / 2) bits (cond (odd v) (constant S 0) bit) go d

  parts_do : {A : Type 0} (k m : ℕ) (a : Row) → WorksAs {A = A} (row_remainder S k m a) (parts S k m a)
  unfolding by_rows Trees.remainder product
  parts_do k m a go d = simp (comparison_does, append_assoc)

pub remainder_is : (S : Setting) (k m : ℕ) (a : Row) (d : Deal) → remainder S k m a d ≡ parts S k m a d
unfolding remainder by_rows
remainder_is S k m a d = ap (λ (w : Worked Row). record { left = w.left; opened = w.opened; deal = w.deal }) (parts_do S k m a done d) ∙ simp append-nil

module _ (S : Setting) where
  pub remainder_does : {A : Type 0} (k m : ℕ) (a : Row) → WorksAs S {A = A} (row_remainder S k m a) (remainder S k m a)
  remainder_does k m a go d = rw (remainder_is S k m a d) (parts_do S k m a go d)

  -- TRUNC and LTZ by the step that they rest on
  pub floor_is : (k m : ℕ) (a : Row) (d : Deal)
      → (let x = remainder S k m a d in floor S k m a d ≡ record { left = quotient S m a x.left; opened = x.opened; deal = x.deal })
  unfolding floor Trees.floor by_rows
  floor_is k m a d = rw (remainder_does k m a (λ z. done (quotient S m a z)) d) (simp append-nil)

  pub floor_does : {A : Type 0} (k m : ℕ) (a : Row) → WorksAs S {A = A} (Trees.floor S.p (row_ops S) (row_remainder S) k m a) (floor S k m a)
  unfolding Trees.floor
  floor_does k m a go d = rw (floor_is k m a d) (remainder_does k m a _ d)

  pub sign_is : (k : ℕ) (a : Row) (d : Deal)
      → (let x = floor S k (k - 1) a d in sign S k a d ≡ record { left = minus S (constant S 0) x.left; opened = x.opened; deal = x.deal })
  unfolding sign Trees.sign by_rows
  sign_is k a d = rw (floor_does k (k - 1) a (λ z. done (minus S (constant S 0) z)) d) (simp append-nil)

  pub sign_does : {A : Type 0} (k : ℕ) (a : Row) → WorksAs S {A = A} (Trees.sign S.p (row_ops S) (row_remainder S) k a) (sign S k a)
  unfolding Trees.sign
  sign_does k a go d = rw (sign_is k a d) (floor_does k (k - 1) a _ d)

  -- OVER and BLOCKS are the sign and the floor of another row
  pub over_is : (k v : ℕ) (a : Row) (d : Deal) → over S k v a d ≡ sign S k (minus S (constant S v) a) d
  unfolding Trees.over over sign
  over_is k v a d = refl

  pub blocks_is : (k m : ℕ) (a : Row) (d : Deal) → blocks S k m a d ≡ floor S k m (plus S a (constant S (2 ^ m - 1))) d
  unfolding Trees.blocks blocks floor
  blocks_is k m a d = refl

  pub over_does : {A : Type 0} (k v : ℕ) (a : Row) → WorksAs S {A = A} (Trees.over S.p (row_ops S) (row_remainder S) k v a) (over S k v a)
  unfolding Trees.over over sign
  over_does k v a go d = sign_does k _ go d

  pub blocks_does : {A : Type 0} (k m : ℕ) (a : Row) → WorksAs S {A = A} (Trees.blocks S.p (row_ops S) (row_remainder S) k m a) (blocks S k m a)
  unfolding Trees.blocks blocks floor
  blocks_does k m a go d = floor_does k m _ go d

  shows_none : (x : Step) {w : Worked Row} → w ≡ after x.opened [] (by_rows S (done x.left) x.deal) → w.shown ≡ []
  unfolding by_rows
  shows_none x e = ap (λ (w : Worked Row). w.shown) e

  product_is : (left right : Row) (d : Deal)
      → (let t = next_triple S d in
      let a1 = minus S left t.a in
      let b1 = minus S right t.b in
      product S left right d ≡ record { left = beaver S (value S a1) (value S b1) t; opened = a1 ∷ b1 ∷ []; deal = less_triple d })
  unfolding product by_rows
  product_is left right d = refl

  -- what works as the step x and ends with the registers g, the step's row being in register r
  abbrev pub putting : ℕ → List Row → Step → Worked (List Row)
  putting r g x = after x.opened [] (by_rows S (done (set g r x.left)) x.deal)

  pub putting_is : (r : ℕ) (g : List Row) (x : Step) → putting r g x ≡ record { left = set g r x.left; opened = x.opened; shown = []; deal = x.deal }
  unfolding by_rows
  putting_is r g x = simp append-nil

  -- a command that works as the step x and leaves its row in register r; that command performed, and finished
  abbrev pub Puts : List Row → Command → ℕ → State → Step → Type 0
  Puts input c r s x =
      by_rows S (row_command S input s.spent.counts.inputs c s.registers done) s.deal ≡ putting r s.registers x

  pub perform_put : (input : List Row) (c : Command) (r : ℕ) (s : State) (x : Step) → Puts input c r s x → Put S input c r s x
  unfolding perform
  perform_put input c r s x e =
      rw (e ∙ putting_is r s.registers x)
      (λ i. record {
        spent = s.spent;
        registers = set s.registers r x.left;
        deal = x.deal;
        opened = s.opened ++ x.opened;
        shown = append-nil s.shown i;
      })

  pub finish_put : (input : List Row) (c : Command) (r : ℕ) (s : State) (x : Step) → Puts input c r s x
      → finish S input c s ≡ stepped (pay (cost S c) s.spent) r s x
  unfolding finish
  finish_put input c r s x e = rw (perform_put input c r s x e)

  -- the run of no lines, and of one line more: "Each command gets exactly what the one before it left; a refused one ends the run."
  pub run_end : (u : Supply) (input : List Row) (end : ℕ) (s : State) → run_lines S u input end [] s ≡ record { number = 0; place = end; state = s }
  unfolding run_lines through_lines by_rows
  run_end u input end s = simp append-nil

  -- the stop of a tree worked on a state's deal
  abbrev stop_at : State → Worked (Ended Row) → Stop
  stop_at s w = record { number = w.left.number; place = w.left.place; state = state_after s w.left.spent w.left.registers w }

  -- what was opened and revealed before may count to the state or to the tree
  stop_after : (s : State) (spent : Spent) (v : Worked (List Row)) (w : Worked (Ended Row)) → stop_at (state_after s spent v.left v) w ≡ stop_at s (after v.opened v.shown w)
  stop_after s spent v w =
      λ i. record {
        number = w.left.number;
        place = w.left.place;
        state =
            record {
              spent = w.left.spent;
              registers = w.left.registers;
              deal = w.deal;
              opened = append_assoc s.opened v.opened w.opened i;
              shown = append_assoc s.shown v.shown w.shown i;
            };
      }

  line_does : (n place : ℕ) (s : State) (x : Stop) (T : Tree Row (Ended Row)) → x ≡ stop_at s (by_rows S T s.deal)
      → stop_at s (by_rows S (given n T (done (record { number = n; place = place; spent = s.spent; registers = s.registers }))) s.deal)
      ≡ given n x (record { number = n; place = place; state = s })
  unfolding by_rows
  line_does zero place s x T e = sym e
  line_does (suc n) place s x T e = simp append-nil

  pub run_line : (u : Supply) (input : List Row) (end : ℕ) (x : Line) (xs : List Line) (s : State)
      → run_lines S u input end (x ∷ xs) s
      ≡ (let number = check u (cost S x.command) s.spent in
      given number (run_lines S u input end xs (finish S input x.command s)) (record { number = number; place = x.place; state = s }))
  unfolding run_lines through_lines finish perform
  run_line u input end x xs s =
      let v = by_rows S (row_command S input s.spent.counts.inputs x.command s.registers done) s.deal in
      line_does (check u (cost S x.command) s.spent) x.place s _ _
      (stop_after s (pay (cost S x.command) s.spent) v _
      ∙ ap (stop_at s) (sym (command_does S input s.spent.counts.inputs x.command s.registers _ s.deal)))

-- the closed statements of specs/Parts
pub every_column : EveryColumn
unfolding plus minus times constant
every_column S =
    record {
      plus_at = λ a b j h. row_at_lem S.n _ j h;
      minus_at = λ a b j h. row_at_lem S.n _ j h;
      times_at = λ c a j h. row_at_lem S.n _ j h;
      constant_at = λ v j h. row_at_lem S.n _ j h;
    }

pub every_step : EveryStep
every_step S =
    record {
      product_parts = product_is S;
      remainder_parts = remainder_is S;
      floor_parts = floor_is S;
      sign_parts = sign_is S;
      over_parts = over_is S;
      blocks_parts = blocks_is S;
      product_silent = λ l r d. shows_none S (product S l r d) (product_does S l r done d);
      comparison_silent = λ v bits d. shows_none S (comparison S v bits d) (comparison_does S v bits done d);
      remainder_silent = λ k m a d. shows_none S (remainder S k m a d) (remainder_does S k m a done d);
      floor_silent = λ k m a d. shows_none S (floor S k m a d) (floor_does S k m a done d);
      sign_silent = λ k a d. shows_none S (sign S k a d) (sign_does S k a done d);
      over_silent = λ k v a d. shows_none S (over S k v a d) (over_does S k v a done d);
      blocks_silent = λ k m a d. shows_none S (blocks S k m a d) (blocks_does S k m a done d);
    }

pub every_command : EveryCommand
unfolding command
every_command S input s =
    record {
      mul_put = λ r a b. perform_put S input (MUL r a b) r s _ (product_does S _ _ (λ z. done (set s.registers r z)) s.deal);
      mod_put = λ r a k m. perform_put S input (MOD r a k m) r s _ (remainder_does S k m _ _ s.deal);
      trunc_put = λ r a k m. perform_put S input (TRUNC r a k m) r s _ (floor_does S k m _ _ s.deal);
      ltz_put = λ r a k. perform_put S input (LTZ r a k) r s _ (sign_does S k _ _ s.deal);
      over_put = λ r a k v. perform_put S input (OVER r a k v) r s _ (over_does S k v _ _ s.deal);
      blocks_put = λ r a k m. perform_put S input (BLOCKS r a k m) r s _ (blocks_does S k m _ _ s.deal);
      bitlt_put = λ r b w v. perform_put S input (BITLT r b w v) r s _ (comparison_does S v _ _ s.deal);
    }

pub run_by_commands : RunByCommands
run_by_commands = record { no_lines = run_end; a_line = run_line }
