-- Demand 2, about the states that runs of whole scripts on accepted sheets pass through: "After each command the shared secret equals the exact
-- floor, remainder or comparison, as Catrina and de Hoogh define them, wherever the number lies in its k-bit signed range, and the paper's
-- formula elsewhere. Each opened share is the one that the paper's steps give. Deal spent and openings made equal the paper's counts." What each
-- command leaves is in Results.antt; the opened shares are those of Trees.antt, read by rows (`by_rows` in Steps.antt, `finish` in Run.antt). The demand's
-- other sentence, "Sharing and reconstruction are Shamir's, each undoing the other.", is in Shamir.antt.
-- Assumes nothing.
use Rattle.std.specs.Prelude.{◌≡◌, true, false, List, [], ◌∷◌, ◌++◌, ℕ, ◌+◌, ◌*◌, length, get_or, drop, replicate}
use Rattle.algebra.specs.Lists.{All}
use Rattle.model.specs.Sharing.{Sharing, secret}
use Rattle.model.specs.Deal.{Setting, Row, Deal, no_row}
use Rattle.model.specs.Steps.{written}
use Rattle.model.specs.Script.{Line, accepted}
use Rattle.model.specs.Counts.{Counts}
use Rattle.model.specs.Costs.{cost}
use Rattle.model.specs.Sheet.{header_of, largest_in, setting_with, input_in, deal_in, secrets, sheet_number}
use Rattle.model.specs.Run.{Supply, State, Stop, check, finish, start, supply_of, sheet_script, stop_of, run}
use Rattle.model.specs.Plain.{plainly, reveals}
use Rattle.model.specs.Results.{Does}

-- "A sheet is accepted when it is not refused because of the input", the byte of request 5 included. It has lines and END's offset then.
pub record Accepted (present : ℕ) (sheet : List ℕ) : Type 0 where
  pub lines : List Line
  pub end : ℕ
  pub number : sheet_number present sheet ≡ 0
  pub script : sheet_script sheet ≡ accepted lines end

-- The states that the run of the lines xs passes through, at its start and after each finished command: with each the lines that are
-- left, the values that the plain interpreter gives the registers, and those that it has revealed.
pub data Passes (S : Setting) (u : Supply) (input : List Row) (d : Deal) (xs : List Line) : List Line → State → List ℕ → List ℕ → Type 0 where
  begins : Passes S u input d xs xs (start d) (replicate 64 0) []
  goes : {x : Line} {ys : List Line} {s : State} {vs ws : List ℕ} → Passes S u input d xs (x ∷ ys) s vs ws
      → check u (cost S x.command) s.spent ≡ 0
      → Passes S u input d xs ys (finish S input x.command s) (plainly S.p (secrets S input) s.spent.counts.inputs x.command vs)
      (ws ++ reveals x.command vs)

-- "After each command the shared secret equals": every set register is a sharing, and its secret is the plain interpreter's value. "the cells
-- of an unset register are 0". "A sheet's revealed values are the secrets read by the REVEALs that finish when it is run, in order."
pub record Right (S : Setting) (s : State) (vs ws : List ℕ) : Type 0 where
  pub registers_64 : length s.registers ≡ 64
  pub marks_64 : length s.spent.marks ≡ 64
  pub values_64 : length vs ≡ 64
  pub sharing : (r : ℕ) → get_or s.spent.marks r false ≡ true → Sharing S.p S.n S.t (get_or s.registers r no_row)
  pub secret_is : (r : ℕ) → get_or s.spent.marks r false ≡ true → secret S.p S.t (get_or s.registers r no_row) ≡ get_or vs r 0
  pub unset : (r : ℕ) → get_or s.spent.marks r false ≡ false → get_or s.registers r no_row ≡ no_row
  -- "Opening: the n shares go to the record": every row opened so far is a sharing
  pub opened : All (Sharing S.p S.n S.t) s.opened
  pub shown : s.shown ≡ ws

-- the sum of what finished commands spend of one kind
unfoldable pub sum_of : (Counts → ℕ) → Setting → List Line → ℕ
sum_of kind S [] = 0
sum_of kind S (x ∷ xs) = kind (cost S x.command).counts + sum_of kind S xs

-- "Inputs counts the finished LOADs; masks, triples and openings are the sums of what is spent over the finished commands."
abbrev pub sums : Setting → List Line → Counts
sums S xs =
    record {
      inputs = sum_of (λ k. k.inputs) S xs;
      masks = sum_of (λ k. k.masks) S xs;
      triples = sum_of (λ k. k.triples) S xs;
      openings = sum_of (λ k. k.openings) S xs;
      revealed = sum_of (λ k. k.revealed) S xs;
    }

-- "Deal spent and openings made equal the paper's counts": the commands finished so far, and that the counts are the sums of what they spend.
-- "A deal item is never used again": so much is gone from the front of the deal. And the record has n numbers for each opening.
pub record Counted (S : Setting) (d : Deal) (xs ys : List Line) (s : State) : Type 0 where
  pub done : List Line
  pub split : xs ≡ done ++ ys
  pub counts : s.spent.counts ≡ sums S done
  pub balance : s.spent.counts.openings ≡ s.spent.counts.masks + 2 * s.spent.counts.triples + s.spent.counts.revealed
  pub masks_left : s.deal.masks ≡ drop s.spent.counts.masks d.masks
  pub triples_left : s.deal.triples ≡ drop s.spent.counts.triples d.triples
  pub opened : length s.opened ≡ s.spent.counts.openings
  pub numbers : length (written S s.opened) ≡ S.n * s.spent.counts.openings
  pub shown : length s.shown ≡ s.spent.counts.revealed

-- How a run stops: at a line whose command the checks refuse, "and its offset is the place. Otherwise the answer is 0 at END's offset."
pub data Stops (S : Setting) (u : Supply) (end : ℕ) (x : Stop) : List Line → Type 0 where
  at_end : x.number ≡ 0 → x.place ≡ end → Stops S u end x []
  at_line : {y : Line} {ys : List Line} → x.number ≡ check u (cost S y.command) x.state.spent → (x.number ≡ 0 → ⊥)
      → x.place ≡ y.place → Stops S u end x (y ∷ ys)

-- "a refused one ends the run": the stop's state is one that the run passes through, and the lines left there say how it stops
pub record Stopped (S : Setting) (u : Supply) (input : List Row) (d : Deal) (xs : List Line) (end : ℕ) (x : Stop) : Type 0 where
  pub left : List Line
  pub plain : List ℕ
  pub revealed : List ℕ
  pub passes : Passes S u input d xs left x.state plain revealed
  pub stops : Stops S u end x left

-- The claim, for the run of the lines xs on the input and the deal d, which ends in the stop x. K is the field's largest k.
pub record Exactly (S : Setting) (K : ℕ) (u : Supply) (input : List Row) (d : Deal) (xs : List Line) (end : ℕ) (x : Stop) : Type 0 where
  -- the next command that the checks let through leaves the exact result, and every other register as it was
  pub does : (y : Line) (ys : List Line) (s : State) (vs ws : List ℕ) → Passes S u input d xs (y ∷ ys) s vs ws
      → check u (cost S y.command) s.spent ≡ 0 → Does S K input y.command s (finish S input y.command s)
  pub right : (ys : List Line) (s : State) (vs ws : List ℕ) → Passes S u input d xs ys s vs ws → Right S s vs ws
  pub counted : (ys : List Line) (s : State) (vs ws : List ℕ) → Passes S u input d xs ys s vs ws → Counted S d xs ys s
  -- the run's stop is one of these states
  pub stops : Stopped S u input d xs end x

-- for every accepted sheet, whoever is present, and any lengths of the two buffers
abbrev pub Exactness : Type 0
Exactness =
    (present : ℕ) (sheet : List ℕ) (log shown : ℕ) (a : Accepted present sheet)
    → let h = header_of sheet in
    Exactly (setting_with present h) (largest_in h) (supply_of h log shown) (input_in h sheet) (deal_in h sheet) a.lines a.end (stop_of present sheet log shown)

-- Each mask opens one row, each triple two, and each REVEAL one: so the counts of every answer, also of a refused input, give the number of
-- revealed values.
abbrev pub Balance : Type 0
Balance =
    (present : ℕ) (sheet log revealed : List ℕ)
    → let o = (run present sheet log revealed).counts in
    o.openings ≡ o.masks + 2 * o.triples + o.revealed
