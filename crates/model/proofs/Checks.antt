-- What the checks let through, and what the commands that finish spend of one kind: it fits what there is.
-- Assumes nothing.
use mathlib.Core.Path.{◌≡◌, refl}
use mathlib.Core.Bool.{true}
use mathlib.Core.List.{List, [], ◌∷◌}
use Prim.Native.Nat.{ℕ, zero, suc, ◌+◌, ◌*◌, ◌≤◌}
use native.Mathlib.Omega.{arith}
use lib.Dec.{T, leb, leb→le, le→leb}
use Rattle.algebra.specs.Lists.{none, one}
use Rattle.algebra.proofs.Tests.{and_left}
use Rattle.model.specs.Refusing.{given}
use Rattle.model.specs.Script.{Line}
use Rattle.model.specs.Counts.{Counts, added}
use Rattle.model.specs.Costs.{Cost, cost_by}
use Rattle.model.specs.Checks.{Spent, Supply, all_set, check, pay}
use Rattle.model.proofs.Trying.{numbered, holding, all_hold, all_pass}

-- what the checks let through
pub record Passed (u : Supply) (c : Cost) (s : Spent) : Type 0 where
  pub reads : T (all_set s.marks c.reads)
  pub inputs : s.counts.inputs + c.counts.inputs ≤ u.inputs
  pub masks : s.counts.masks + c.counts.masks ≤ u.masks
  pub triples : s.counts.triples + c.counts.triples ≤ u.triples
  pub room : (s.counts.openings + c.counts.openings) * u.parties ≤ u.log
  pub shown : s.counts.revealed + c.counts.revealed ≤ u.shown

pub check_passed : (u : Supply) (c : Cost) (s : Spent) → check u c s ≡ 0 → Passed u c s
unfolding check numbered holding
check_passed u c s e =
    record {
      reads = and_left (all_set s.marks c.reads) true (all_hold 21 _ tt e);
      inputs = leb→le _ _ (and_left (leb (s.counts.inputs + c.counts.inputs) u.inputs) true (all_hold 22 _ tt e));
      masks = leb→le _ _ (and_left (leb (s.counts.masks + c.counts.masks) u.masks) true (all_hold 23 _ tt e));
      triples = leb→le _ _ (and_left (leb (s.counts.triples + c.counts.triples) u.triples) true (all_hold 24 _ tt e));
      room = leb→le _ _ (and_left (leb ((s.counts.openings + c.counts.openings) * u.parties) u.log) true (all_hold 25 _ tt e));
      shown = leb→le _ _ (and_left (leb (s.counts.revealed + c.counts.revealed) u.shown) true (all_hold 26 _ tt e));
    }

pub passed_check : (u : Supply) (c : Cost) (s : Spent) → Passed u c s → check u c s ≡ 0
unfolding check
passed_check u c s P =
    all_pass
    (one P.reads
    (one (le→leb _ _ P.inputs) (one (le→leb _ _ P.masks) (one (le→leb _ _ P.triples) (one (le→leb _ _ P.room) (one (le→leb _ _ P.shown) none))))))

-- what the commands that finish spend of one kind, where MOD takes so many triples
module _ (triples : ℕ → ℕ) (u : Supply) (f : Counts → ℕ) where
  unfoldable pub tally : List Line → Spent → ℕ
  tally [] s = 0
  tally (x ∷ xs) s = let c = cost_by triples x.command in given (check u c s) (f c.counts + tally xs (pay c s)) 0

  fits : (number k a b : ℕ) → a ≤ b → (number ≡ 0 → k + a ≤ b) → given number k 0 + a ≤ b
  fits zero k a b l h = h refl
  fits (suc number) k a b l h = omega arith

  -- `most` is what there is of the kind
  pub tally_fits : (most : ℕ) → ((x y : Counts) → f (added x y) ≡ f x + f y) → ((c : Cost) (s : Spent) → check u c s ≡ 0 → f s.counts + f c.counts ≤ most)
      → (xs : List Line) (s : Spent) → f s.counts ≤ most → tally xs s + f s.counts ≤ most
  unfolding tally pay
  tally_fits most e h [] s l = omega arith
  tally_fits most e h (x ∷ xs) s l =
      let c = cost_by triples x.command in
      fits (check u c s) _ (f s.counts) most l
      (λ z. omega (arith, e s.counts c.counts, tally_fits most e h xs (pay c s) (rw (e s.counts c.counts) (h c s z))))
