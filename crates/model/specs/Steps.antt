-- The paper, "Steps", read by rows: what a tree leaves, opens and reveals where its operands are rows and a deal is at hand. Here stands what MUL, a
-- masked opening and REVEAL do with rows; the steps made of them are in Trees.antt, and are named here as they work on rows.
-- What Deal.antt defines is passed on.
-- Assumes nothing.
use Rattle.std.specs.Prelude.{Bool, cond, List, [], ◌∷◌, ◌++◌, ℕ, suc, ◌-◌, ◌^◌, get_or}
use Rattle.algebra.specs.Ring.{add, sub, mul}
use Rattle.algebra.specs.Lists.{first, others}
use Rattle.algebra.specs.Rows.{tab, row, on}
use Rattle.model.specs.Sharing.{value_from}
use Rattle.model.specs.Presence.{is_present, openers}
pub use Rattle.model.specs.Deal.{Setting, Row, Triple, Deal}
use Rattle.model.specs.Trees.{Ops, Tree, done, multiply, mask, reveal, Remainder}
use Rattle.model.specs.Trees as Trees

-- What a tree worked on rows leaves: its result, the rows that it opened and the values that it revealed, in order, and the deal that is left.
pub record Worked (A : Type 0) : Type 0 where
  pub left : A
  pub opened : List Row
  pub shown : List ℕ
  pub deal : Deal

-- rows opened and values revealed before it
abbrev pub after : {A : Type 0} → List Row → List ℕ → Worked A → Worked A
after os vs w = record { left = w.left; opened = os ++ w.opened; shown = vs ++ w.shown; deal = w.deal }

-- "takes the next triple", "takes the next mask": what is left of the deal
abbrev pub less_triple : Deal → Deal
less_triple d = record { masks = d.masks; triples = others d.triples }

abbrev pub less_mask : Deal → Deal
less_mask d = record { masks = others d.masks; triples = d.triples }

module _ (S : Setting) where
  -- Rows are worked column by column: sum, difference, multiple by a public value, a public value on every share.
  unfoldable pub plus : Row → Row → Row
  plus x y = on (add S.p) S.n x y

  unfoldable pub minus : Row → Row → Row
  minus x y = on (sub S.p) S.n x y

  unfoldable pub times : ℕ → Row → Row
  times c x = on (λ a _. mul S.p c a) S.n x x

  unfoldable pub constant : ℕ → Row
  constant v = row S.n (λ _. v)

  abbrev pub row_ops : Ops Row
  row_ops = record { plus = plus; minus = minus; times = times; constant = constant }

  -- "Opening: the n shares go to the record, party 1 first, and the value at 0 becomes public." Request 5: "an opening is worked from the lowest t + 1
  -- present parties". This is the value at 0. `by_rows` lists the rows that are opened; `written` has their shares, and `outcome` in Run.antt puts them in
  -- the record.
  unfoldable pub value : Row → ℕ
  value x = value_from S.p (openers S.n S.t S.present) x

  -- the n numbers of an opening: "in the record p itself stands for an absent share"
  unfoldable pub recorded : Row → List ℕ
  recorded x = tab S.n (λ j. cond (is_present S.present (suc j)) (get_or x j 0) S.p)

  -- the record's numbers, opening by opening
  unfoldable pub written : List Row → List ℕ
  written [] = []
  written (x ∷ xs) = recorded x ++ written xs

  -- Where the deal has no triple or mask, which the checks shut out, one of zeros or of no bits is taken.
  abbrev pub no_triple : Triple
  no_triple = record { a = constant 0; b = constant 0; c = constant 0 }

  abbrev pub next_triple : Deal → Triple
  next_triple d = first no_triple d.triples

  abbrev pub next_mask : Deal → List Row
  next_mask d = first [] d.masks

  abbrev pub beaver : ℕ → ℕ → Triple → Row
  beaver a1 b1 t = Trees.beaver S.p row_ops a1 b1 t.a t.b t.c

  abbrev pub spelled : List Row → Row
  spelled bits = Trees.spelled row_ops bits

  abbrev pub under_mask : Row → List Row → Row
  under_mask x r = Trees.under_mask row_ops x r

  module _ {A : Type 0} where
    -- a tree worked on a deal, node by node
    unfoldable pub by_rows : Tree Row A → Deal → Worked A
    by_rows (done x) d = record { left = x; opened = []; shown = []; deal = d }
    -- "MUL (Beaver's method) takes the next triple, opens a1 = left − a, then b1 = right − b"
    by_rows (multiply left right go) d =
        let t = next_triple d in
        let a1 = minus left t.a in
        let b1 = minus right t.b in
        after (a1 ∷ b1 ∷ []) [] (by_rows (go (beaver (value a1) (value b1) t)) (less_triple d))
    -- "takes the next mask r", "opens C = X + r modulo p"
    by_rows (mask x go) d =
        let r = next_mask d in
        let o = under_mask x r in
        after (o ∷ []) [] (by_rows (go (value o) r) (less_mask d))
    -- "REVEAL one opening, and its value goes to the revealed list."
    by_rows (reveal x rest) d = after (x ∷ []) (value x ∷ []) (by_rows rest d)

-- What a step leaves: its row, the rows that it opened, in order, and the deal that is left. It reveals nothing (`StepParts` in Parts.antt).
pub record Step : Type 0 where
  pub left : Row
  pub opened : List Row
  pub deal : Deal

-- a tree worked on rows, its revealed values left out
abbrev pub step_of : Setting → Tree Row Row → Deal → Step
step_of S T d = let w = by_rows S T d in record { left = w.left; opened = w.opened; deal = w.deal }

-- MUL, BITLT, MOD, TRUNC, LTZ, OVER and BLOCKS on rows
module _ (S : Setting) where
  abbrev pub row_remainder : {A : Type 0} → Remainder Row A
  row_remainder k m a go = Trees.remainder S.p (row_ops S) (Trees.comparison (row_ops S)) k m a go

  unfoldable pub product : Row → Row → Deal → Step
  product left right d = step_of S (multiply left right done) d

  unfoldable pub comparison : ℕ → List Row → Deal → Step
  comparison v bits d = step_of S (Trees.comparison (row_ops S) v bits done) d

  unfoldable pub remainder : ℕ → ℕ → Row → Deal → Step
  remainder k m a d = step_of S (row_remainder k m a done) d

  unfoldable pub floor : ℕ → ℕ → Row → Deal → Step
  floor k m a d = step_of S (Trees.floor S.p (row_ops S) row_remainder k m a done) d

  unfoldable pub sign : ℕ → Row → Deal → Step
  sign k a d = step_of S (Trees.sign S.p (row_ops S) row_remainder k a done) d

  unfoldable pub over : ℕ → ℕ → Row → Deal → Step
  over k v a d = step_of S (Trees.over S.p (row_ops S) row_remainder k v a done) d

  unfoldable pub blocks : ℕ → ℕ → Row → Deal → Step
  blocks k m a d = step_of S (Trees.blocks S.p (row_ops S) row_remainder k m a done) d

  -- rows that contracts name: the chosen row of a turn of BITLT; what MOD opens, and its last line; TRUNC's last line
  abbrev pub chosen : Bool → Row → Row → Row → Row
  chosen one bit lt q = Trees.chosen (row_ops S) one bit lt q

  abbrev pub masked : ℕ → Row → Deal → Row
  masked k a d = under_mask S (plus S a (constant S (2 ^ (k - 1)))) (next_mask S d)

  abbrev pub unmasked : ℕ → ℕ → List Row → Row → Row → Row
  unmasked m C r f u = Trees.unmasked S.p (row_ops S) m C r f u

  abbrev pub quotient : ℕ → Row → Row → Row
  quotient m a rem = Trees.quotient S.p (row_ops S) m a rem
