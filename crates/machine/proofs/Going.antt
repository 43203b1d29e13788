-- The run of the lines of a script, from line to line: what is lent carries a state that the run passes through, and the run from there on is the whole run.
-- Assumes nothing.
use mathlib.Core.Path.{◌≡◌, refl, sym, ap, ◌∙◌}
use mathlib.Core.Logic.{◌≢◌}
use mathlib.Core.List.{List, [], ◌∷◌}
use Prim.Native.Nat.{ℕ}
use lib.ListN.{replicate}
use Rattle.model.specs.Deal.{Setting, Row, Deal}
use Rattle.model.specs.Script.{Line}
use Rattle.model.specs.Refusing.{given}
use Rattle.model.specs.Costs.{Cost, cost}
use Rattle.model.specs.Checks.{Spent, Supply, check, pay}
use Rattle.model.specs.Run.{State, Stop, nothing_spent, start, finish, run_lines}
use Rattle.model.specs.Exactness.{Passes, begins, goes}
use Rattle.model.proofs.Trying.{given_done, given_refused}
use Rattle.model.proofs.StepLaws.{run_end, run_line}
use Rattle.registers.specs.Holding.{Lent, Carries}

-- what a run is worked with: the lines of a script with END's offset, and what both buffers held before it
pub record Course : Type 0 where
  pub setting : Setting
  pub supply : Supply
  pub input : List Row
  pub deal : Deal
  pub lines : List Line
  pub end : ℕ
  pub log : List ℕ
  pub shown : List ℕ

-- the run of lines from a state on
abbrev run_from : Course → List Line → State → Stop
run_from C = run_lines C.setting C.supply C.input C.end

abbrev pub whole_run : Course → Stop
whole_run C = run_from C C.lines (start C.deal)

abbrev Held : Course → Lent → State → Type 0
Held C = Carries C.setting C.log C.shown

-- before the lines ys, with so much spent
pub record Going (C : Course) (spent : Spent) (m : Lent) (ys : List Line) : Type 0 where
  pub state : State
  pub plain : List ℕ
  pub revealed : List ℕ
  pub spends : spent ≡ state.spent
  pub passes : Passes C.setting C.supply C.input C.deal C.lines ys state plain revealed
  pub carries : Held C m state
  pub run : run_from C ys state ≡ whole_run C

pub going_start : (C : Course) {m : Lent} → Held C m (start C.deal) → Going C nothing_spent m C.lines
unfolding start
going_start C H = record { state = start C.deal; plain = replicate 64 0; revealed = []; spends = refl; passes = begins; carries = H; run = refl }

pub at_end : {C : Course} {spent : Spent} {m : Lent} (G : Going C spent m []) → record { number = 0; place = C.end; state = G.state } ≡ whole_run C
at_end {C} G = sym (run_end C.setting C.supply C.input C.end G.state) ∙ G.run

module _ {C : Course} {spent : Spent} {m : Lent} {y : Line} {ys : List Line} (G : Going C spent m (y ∷ ys)) where
  abbrev price : Cost
  price = cost C.setting y.command

  abbrev tried : ℕ
  tried = check C.supply price G.state.spent

  abbrev finished : State
  finished = finish C.setting C.input y.command G.state

  -- what the rest of the run is, by the number
  turn : given tried (run_from C ys finished) (record { number = tried; place = y.place; state = G.state }) ≡ whole_run C
  turn = sym (run_line C.setting C.supply C.input C.end y ys G.state) ∙ G.run

  same_check : check C.supply price spent ≡ tried
  same_check = ap (check C.supply price) G.spends

  module _ {number : ℕ} (e : number ≡ check C.supply price spent) where
    pub at_refusal : number ≢ 0 → record { number = number; place = y.place; state = G.state } ≡ whole_run C
    at_refusal z =
        ap (λ (k : ℕ). record { number = k; place = y.place; state = G.state }) (e ∙ same_check)
        ∙ sym (given_refused tried _ _ (λ q. z (e ∙ same_check ∙ q))) ∙ turn

    pub goes_on : number ≡ 0 → {m' : Lent} → Held C m' finished → Going C (pay price spent) m' ys
    unfolding finish
    goes_on z H =
        let q : tried ≡ 0 = sym same_check ∙ sym e ∙ z in
        record {
          state = finished;
          plain = _;
          revealed = _;
          spends = ap (pay price) G.spends;
          passes = goes G.passes q;
          carries = H;
          run = sym (given_done tried _ _ q) ∙ turn;
        }
