-- The checks by what is left are the paper's: what is left has place for what is needed where the sum fits.
-- Assumes nothing.
use mathlib.Core.Path.{◌≡◌, refl, sym}
use mathlib.Core.Bool.{Bool, true, false}
use Prim.Native.Nat.{ℕ, ◌+◌, ◌-◌, ◌*◌, ◌/◌, ◌≤◌, ◌<◌}
use native.Mathlib.Omega.{arith}
use native.Mathlib.Nat.{le-div_iff_mul-le}
use lib.Dec.{leb}
use borrow.Author.Tests.{le-leb, lt-leb, leb-true, leb-false}
use Rattle.model.specs.Checks.{Supply, all_set, check}
use Rattle.costs.specs.declared.counts.Counts.{Counts}
use Rattle.costs.specs.declared.cost.Cost.{Cost}
use Rattle.costs.specs.declared.spent.Spent.{Spent}
use Rattle.costs.specs.Costing.{counts_of, cost_of, spent_of, left_of, Within, Supplied, missing}

leb_is : (a b c d : ℕ) → (c ≤ d → a ≤ b) → (d < c → b < a) → leb a b ≡ leb c d
leb_is a b c d to over = go (leb c d) refl
  where
    go : (x : Bool) → leb c d ≡ x → leb a b ≡ x
    go true e = le-leb a b (to (leb-true c d e))
    go false e = lt-leb a b (over (leb-false c d e))

sum_left : (s u c : ℕ) → s ≤ u → leb (s + c) u ≡ leb c (u - s)
sum_left s u c h = leb_is (s + c) u c (u - s) (λ k. omega arith) (λ k. omega arith)

-- so many openings of n shares
rows_left : (o n log c : ℕ) → 0 < n → o ≤ log / n → leb ((o + c) * n) log ≡ leb c (log / n - o)
rows_left o n log c z h = leb_is ((o + c) * n) log c (log / n - o) to over
  where
    to : c ≤ log / n - o → (o + c) * n ≤ log
    to k = (le-div_iff_mul-le {k = n} {x = o + c} {y = log} z).0 (omega arith)

    over : log / n - o < c → log < (o + c) * n
    over k = past (o + c) (omega arith)
      where
        past : (x : ℕ) → log / n < x → log < x * n
        past x l = not_le (λ q. let r = (le-div_iff_mul-le {k = n} {x = x} {y = log} z).1 q in omega arith)
          where
            not_le : (x * n ≤ log → ⊥) → log < x * n
            not_le f = go (leb (x * n) log) refl
              where
                go : (b : Bool) → leb (x * n) log ≡ b → log < x * n
                go true e = absurd (f (leb-true _ _ e))
                go false e = leb-false _ _ e

module _ {u : Supply} {k : Counts} (U : Supplied u k) (s : Spent) (need : Cost) (W : Within (counts_of s.counts) (counts_of k)) where
  pub missing_is : missing (all_set s.marks (cost_of need).reads) (left_of (counts_of k) (counts_of s.counts)) (counts_of need.counts) ≡ check u (cost_of need) (spent_of s)
  unfolding missing check
  missing_is =
      sym (rw (
        sum_left s.counts.inputs u.inputs need.counts.inputs (rw (sym U.inputs) W.inputs),
        sum_left s.counts.masks u.masks need.counts.masks (rw (sym U.masks) W.masks),
        sum_left s.counts.triples u.triples need.counts.triples (rw (sym U.triples) W.triples),
        rows_left s.counts.openings u.parties u.log need.counts.openings U.parties (rw (sym U.openings) W.openings),
        sum_left s.counts.revealed u.shown need.counts.revealed (rw (sym U.revealed) W.revealed),
        ← U.inputs,
        ← U.masks,
        ← U.triples,
        ← U.openings,
        ← U.revealed,
      ))
