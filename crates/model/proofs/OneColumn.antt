-- One column of a table as a table of one column: the row operations work each column by itself, so the trees of a command on rows and on the rows of one
-- share that are one column of them are in pairs.
-- Assumes nothing.
use mathlib.Core.Path.{◌≡◌, refl, ap, ap₂}
use mathlib.Core.List.{List, [], ◌∷◌, map}
use Prim.Native.Nat.{ℕ, ◌<◌}
use lib.ListN.{get_or}
use Rattle.algebra.specs.Ring.{add, sub, mul}
use Rattle.algebra.specs.Lists.{first, others}
use Rattle.algebra.specs.Rows.{tab, row, on}
use Rattle.algebra.proofs.Rows.{row_at_lem}
use Rattle.model.specs.Deal.{Setting, Row, Triple, Deal, no_row}
use Rattle.model.specs.Trees.{done}
use Rattle.model.specs.Trees as Trees
use Rattle.model.specs.Steps.{row_ops, plus, minus, times, constant, no_triple}
use Rattle.model.specs.Script.{Command}
use Rattle.model.specs.Costs.{mod_triples}
use Rattle.model.specs.Run.{row_command}
use Rattle.model.specs.Replay.{one_column, own_share}
use Rattle.model.proofs.Each.{Each, no_more, and, each_at}
use Rattle.model.proofs.Held.{all_same}
use Rattle.model.proofs.Pairs.{Paired, p_last, Ends, ends, Keep, paired_comparison, paired_remainder, paired_command, each_wrote}

-- column i of a row, of a triple and of a deal, in rows of one share
unfoldable pub column_row : ℕ → Row → Row
column_row i x = row 1 (λ _. get_or x i 0)

abbrev pub column_triple : ℕ → Triple → Triple
column_triple i t = record { a = column_row i t.a; b = column_row i t.b; c = column_row i t.c }

abbrev pub column_deal : ℕ → Deal → Deal
column_deal i d = record { masks = map (map (column_row i)) d.masks; triples = map (column_triple i) d.triples }

-- y is column i of x
pub record Column (i : ℕ) (x y : Row) : Type 0 where
  pub is : column_row i x ≡ y

pub own_share_lem : (i : ℕ) {x y : Row} → Column i x y → get_or x i 0 ≡ own_share y
unfolding column_row row tab
own_share_lem i e = ap own_share e.is

pub own_shares : (i : ℕ) {xs ys : List Row} → Each (Column i) xs ys → map (λ (x : Row). get_or x i 0) xs ≡ map own_share ys
own_shares i no_more = refl
own_shares i (and e es) = ap₂ {C = List ℕ} ◌∷◌ (own_share_lem i e) (own_shares i es)

pub each_column : (i : ℕ) (xs : List Row) → Each (Column i) xs (map (column_row i) xs)
each_column i [] = no_more
each_column i (x ∷ xs) = and (record { is = refl }) (each_column i xs)

-- an unset register
pub no_column : (i : ℕ) → Column i no_row no_row
unfolding column_row row tab
no_column i = record { is = rw (all_same {A = ℕ} 7 i 0) refl }

-- a deal's others
pub others_map : {A B : Type 0} (f : A → B) (xs : List A) → others (map f xs) ≡ map f (others xs)
others_map f [] = refl
others_map f (x ∷ xs) = refl

module _ (S : Setting) (i : ℕ) (h : i < S.n) where
  column_on : (op : ℕ → ℕ → ℕ) {x x' y y' : Row} → Column i x x' → Column i y y' → Column i (on op S.n x y) (on op 1 x' y')
  unfolding column_row row tab
  column_on op e f = record { is = rw (← e.is, ← f.is) (ap (λ (v : ℕ). row 1 (λ _. v)) (row_at_lem S.n _ i h)) }

  pub column_keep : Keep (Column i) (row_ops S) (row_ops (one_column S))
  unfolding plus minus times constant column_row
  column_keep =
      record {
        plus = column_on (add S.p);
        minus = column_on (sub S.p);
        times = λ c e. column_on (λ a _. mul S.p c a) e e;
        constant = λ v. record { is = ap (λ (v : ℕ). row 1 (λ _. v)) (row_at_lem S.n _ i h) };
      }

  -- the next triple, of which an empty deal has zeros, and the next mask
  pub record NextTriple (t u : Triple) : Type 0 where
    pub a : Column i t.a u.a
    pub b : Column i t.b u.b
    pub c : Column i t.c u.c

  pub next_triple_lem : (ts : List Triple) → NextTriple (first (no_triple S) ts) (first (no_triple (one_column S)) (map (column_triple i) ts))
  next_triple_lem [] = let z = column_keep.constant 0 in record { a = z; b = z; c = z }
  next_triple_lem (t ∷ ts) = let z : (x : Row) → Column i x (column_row i x) = λ x. record { is = refl } in record { a = z _; b = z _; c = z _ }

  pub next_mask_lem : (ms : List (List Row)) → Each (Column i) (first [] ms) (first [] (map (map (column_row i)) ms))
  next_mask_lem [] = no_more
  next_mask_lem (m ∷ ms) = each_column i m

  -- a command on input and registers, and on a column of them
  pub column_command : (input : List Row) (j : ℕ) (c : Command) {g g' : List Row} → Each (Column i) g g'
      → Paired (Column i) (Ends (Each (Column i))) (row_command S input j c g done) (row_command (one_column S) (map (column_row i) input) j c g' done)
  column_command input j c gs =
      let K = column_keep in
      paired_command S.p K (no_column i) (Trees.remainder S.p (row_ops S)) (Trees.remainder S.p (row_ops (one_column S)))
      (paired_remainder S.p K (paired_comparison S.p K)) (each_column i input) (mod_triples S.l) j c (λ r _. each_at gs (no_column i) r)
      (λ w w' W. p_last (ends (each_wrote S.p K (no_column i) gs W)))
