-- Two trees over rows that are the same up to their last parts open and reveal the same, and come to the same deal before these. So a command that
-- goes on is the command alone, and then what goes on.
-- Assumes nothing.
use mathlib.Core.Path.{◌≡◌, refl, ap, ap₂, ◌∙◌}
use mathlib.Core.List.{List, [], ◌∷◌, ◌++◌, append_assoc, append-nil, Memᴰ as In}
use Prim.Native.Nat.{ℕ}
use lib.ListN.{get_or, set}
use Rattle.model.specs.Trees.{Tree, done, multiply, mask, reveal}
use Rattle.model.specs.Trees as Trees
use Rattle.model.specs.Steps.{Setting, Row, Deal, Worked, after, row_ops, by_rows, minus, value, next_triple, next_mask, less_triple, less_mask, under_mask, beaver}
use Rattle.model.specs.Script.{Command}
use Rattle.model.specs.Costs.{mod_triples, cost}
use Rattle.model.specs.Run.{row_command, no_row}
use Rattle.model.specs.Results.{target}
use Rattle.model.proofs.Each.{Each, no_more, and}
use Rattle.model.proofs.Pairs.{Paired, p_last, p_multiply, p_mask, p_reveal, Keep, Wrote, kept, puts, PairedAfter, paired_comparison, paired_remainder, paired_command}

each_same : {X : Type 0} (xs : List X) → Each ◌≡◌ xs xs
each_same [] = no_more
each_same (x ∷ xs) = and refl (each_same xs)

module _ (S : Setting) where
  -- the last parts of two trees, what was opened and revealed before, and the deal that was left
  pub record Reached {A B : Type 0} (R : Tree Row A → Tree Row B → Type 0) (T : Tree Row A) (T' : Tree Row B) (d : Deal) : Type 0 where
    pub opened : List Row
    pub shown : List ℕ
    pub deal : Deal
    pub last : Tree Row A
    pub last' : Tree Row B
    pub related : R last last'
    pub one : by_rows S T d ≡ after opened shown (by_rows S last deal)
    pub other : by_rows S T' d ≡ after opened shown (by_rows S last' deal)

  -- one node more
  further : {A B : Type 0} {R : Tree Row A → Tree Row B → Type 0} {T U : Tree Row A} {T' U' : Tree Row B} {d e : Deal} (os : List Row) (vs : List ℕ)
      → Reached R U U' e → by_rows S T d ≡ after os vs (by_rows S U e) → by_rows S T' d ≡ after os vs (by_rows S U' e) → Reached R T T' d
  further os vs I f g =
      record {
        opened = os ++ I.opened;
        shown = vs ++ I.shown;
        deal = I.deal;
        last = I.last;
        last' = I.last';
        related = I.related;
        one = f ∙ rw I.one (simp append_assoc);
        other = g ∙ rw I.other (simp append_assoc);
      }

  -- a node of rows that equal x and y
  module _ {A : Type 0} (x : Row) {x' : Row} (ex : x ≡ x') (d : Deal) where
    at_multiply : (y : Row) {y' : Row} → y ≡ y' → (go : Row → Tree Row A)
        → (let t = next_triple S d in
        let a1 = minus S x t.a in
        let b1 = minus S y t.b in
        by_rows S (multiply x' y' go) d ≡ after (a1 ∷ b1 ∷ []) [] (by_rows S (go (beaver S (value S a1) (value S b1) t)) (less_triple d)))
    unfolding by_rows
    at_multiply y ey go = rw (← ex, ← ey)

    at_mask : (go : ℕ → List Row → Tree Row A)
        → (let r = next_mask S d in
        let o = under_mask S x r in
        by_rows S (mask x' go) d ≡ after (o ∷ []) [] (by_rows S (go (value S o) r) (less_mask d)))
    unfolding by_rows
    at_mask go = rw (← ex)

    at_reveal : (T : Tree Row A) → by_rows S (reveal x' T) d ≡ after (x ∷ []) (value S x ∷ []) (by_rows S T d)
    unfolding by_rows
    at_reveal T = rw (← ex)

  pub reached : {A B : Type 0} {R : Tree Row A → Tree Row B → Type 0} {T : Tree Row A} {T' : Tree Row B} → Paired ◌≡◌ R T T' → (d : Deal)
      → Reached R T T' d
  reached (p_last r) d = record { opened = []; shown = []; deal = d; last = _; last' = _; related = r; one = refl; other = refl }
  reached (p_multiply {x} {y} {go = go} {go' = go'} ex ey h) d =
      let t = next_triple S d in
      further (minus S x t.a ∷ minus S y t.b ∷ []) [] (reached (h _ _ refl) (less_triple d)) (at_multiply x refl d y refl go) (at_multiply x ex d y ey go')
  reached (p_mask {x} {go = go} {go' = go'} ex h) d =
      let r = next_mask S d in
      further (under_mask S x r ∷ []) [] (reached (h _ _ _ (each_same r)) (less_mask d)) (at_mask x refl d go) (at_mask x ex d go')
  reached (p_reveal {x} {T = T} {T' = T'} ex h) d = further (x ∷ []) (value S x ∷ []) (reached h d) (at_reveal x refl d T) (at_reveal x ex d T')

  -- the operations give equal rows for equal rows
  same_keep : Keep ◌≡◌ (row_ops S) (row_ops S)
  same_keep =
      record { plus = λ e f. ap₂ (row_ops S).plus e f; minus = λ e f. ap₂ (row_ops S).minus e f; times = λ c e. ap ((row_ops S).times c) e; constant = λ v. refl }

  -- A command on registers that are the same where it reads.
  pub same_command : {A B : Type 0} {R : Tree Row A → Tree Row B → Type 0} (input : List Row) (j : ℕ) (c : Command) (g g' : List Row)
      (go : List Row → Tree Row A) (go' : List Row → Tree Row B) → ((r : ℕ) → In r (cost S c).reads → get_or g r no_row ≡ get_or g' r no_row)
      → PairedAfter ◌≡◌ R (Wrote ◌≡◌ g g' (target c)) go go' → (d : Deal) → Reached R (row_command S input j c g go) (row_command S input j c g' go') d
  same_command input j c g g' go go' reads h =
      reached
      (paired_command S.p same_keep refl (Trees.remainder S.p (row_ops S)) (Trees.remainder S.p (row_ops S))
      (paired_remainder S.p same_keep (paired_comparison S.p same_keep)) (each_same input) (mod_triples S.l) j c reads h)

-- the one tree goes on where the other is done
data Goes {A : Type 0} (go : List Row → Tree Row A) : Tree Row A → Tree Row (List Row) → Type 0 where
  goes : {w : List Row} → Goes go (go w) (done w)

wrote_same : {ds : List ℕ} {g g' w w' : List Row} → Wrote ◌≡◌ g g' ds w w' → g ≡ g' → w ≡ w'
wrote_same kept q = q
wrote_same (puts {d = d} e W) q = wrote_same W (ap₂ (λ (x : List Row) (y : Row). set x d y) q e)

module _ (S : Setting) {A : Type 0} where
  -- w is done, and then a tree
  abbrev then : Worked (List Row) → (List Row → Tree Row A) → Worked A
  then w go = after w.opened w.shown (by_rows S (go w.left) w.deal)

  gone : {go : List Row → Tree Row A} {T : Tree Row A} {T' : Tree Row (List Row)} → Goes go T T' → (os : List Row) (vs : List ℕ) (d : Deal)
      → after os vs (by_rows S T d) ≡ then (after os vs (by_rows S T' d)) go
  unfolding by_rows
  gone goes os vs d = simp append-nil

  pub command_does : (input : List Row) (j : ℕ) (c : Command) (g : List Row) (go : List Row → Tree Row A) (d : Deal)
      → by_rows S (row_command S input j c g go) d ≡ then (by_rows S (row_command S input j c g done) d) go
  command_does input j c g go d =
      let R = same_command S {R = Goes go} input j c g g go done (λ r _. refl) (λ w w' W. p_last (rw (wrote_same W refl) goes)) d in
      rw R.other (R.one ∙ gone R.related R.opened R.shown R.deal)
