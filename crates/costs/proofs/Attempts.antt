-- A command that the checks are tried on, and what is known where they let it through.
-- Assumes nothing.
use mathlib.Core.Path.{◌≡◌, sym, subst, ◌∙◌}
use Prim.Native.Nat.{ℕ, ◌+◌, ◌^◌, ◌≤◌, ◌<◌}
use native.Mathlib.Nat.{le-div_iff_mul-le}
use native.Mathlib.Omega.{arith}
use lib.Dec.{T}
use Rattle.model.specs.Counts as Paper
use Rattle.model.specs.Script.{Command, in_ranges}
use Rattle.model.specs.Costs.{cost}
use Rattle.model.specs.Costs as PaperCosts
use Rattle.model.specs.Checks as Checks
use Rattle.model.specs.Checks.{check, pay}
use Rattle.model.specs.Run.{nothing_spent}
use Rattle.model.proofs.Checks.{Passed, check_passed}
use Rattle.sheet.specs.declared.frame.Frame.{Frame}
use Rattle.sheet.specs.Framed.{setting_in}
use Rattle.costs.specs.declared.counts.Counts.{Counts}
use Rattle.costs.specs.declared.cost.Cost.{Cost}
use Rattle.costs.specs.declared.spent.Spent.{Spent}
use Rattle.costs.specs.Costing.{counts_of, cost_of, spent_of, Costs, Within, Summing, Supplied, Checkable}

-- numbers of 64 bits
pub record Words (k : Counts) : Type 0 where
  pub inputs : k.inputs < 2 ^ 64
  pub masks : k.masks < 2 ^ 64
  pub triples : k.triples < 2 ^ 64
  pub openings : k.openings < 2 ^ 64
  pub revealed : k.revealed < 2 ^ 64

-- nothing spent is within every supply
pub nothing_within : (k : Counts) {s : Spent} → spent_of s ≡ nothing_spent → Within (counts_of s.counts) (counts_of k)
unfolding nothing_spent
nothing_within k e =
    subst (λ (x : Checks.Spent). Within x.counts (counts_of k)) (sym e)
    (record { inputs = omega arith; masks = omega arith; triples = omega arith; openings = omega arith; revealed = omega arith })

-- the number is that of the checks, with any supply that these counts are of
abbrev pub Numbers : Counts → Cost → Spent → ℕ → Type 0
Numbers supply need k number = (u : Checks.Supply) → Supplied u supply → number ≡ check u (cost_of need) (spent_of k)

-- A command may be tried with so much there: its operands are in range, and what was spent is within the supply.
pub record Tried (f : Frame) (u : Checks.Supply) (supply : Counts) (k : Spent) (c : Command) : Type 0 where
  pub bits : f.l ≤ 31
  pub k_most : f.largest ≤ 30
  pub ranged : T (in_ranges f.p f.largest c)
  pub supplied : Supplied u supply
  pub words : Words supply
  pub within : Within (counts_of k.counts) (counts_of supply)

module _ {f : Frame} {u : Checks.Supply} {supply : Counts} {k : Spent} {c : Command} (t : Tried f u supply k c) where
  pub costable : (f.l ≤ 31) × (f.largest ≤ 30) × T (in_ranges f.p f.largest c)
  costable = (t.bits, t.k_most, t.ranged)

  module _ {need : Cost} (N : Costs need (cost (setting_in f) c)) where
    pub checkable : Checkable k supply need
    checkable = record { within = t.within; first = N.first; second = N.second }

    module _ {number : ℕ} (E : Numbers supply need k number) where
      pub number_is : number ≡ check u (cost (setting_in f) c) (spent_of k)
      number_is = E u t.supplied ∙ rw N.is

      module _ (z : number ≡ 0) where
        pub passed : Passed u (cost (setting_in f) c) (spent_of k)
        passed = check_passed u (cost (setting_in f) c) (spent_of k) (sym number_is ∙ z)

        -- what was spent and what is needed are within the supply
        both_within : Within (Paper.added (counts_of k.counts) (cost (setting_in f) c).counts) (counts_of supply)
        both_within =
            let U = t.supplied in
            record {
              inputs = omega (arith, passed.inputs, U.inputs);
              masks = omega (arith, passed.masks, U.masks);
              triples = omega (arith, passed.triples, U.triples);
              openings = omega (arith, (le-div_iff_mul-le {k = u.parties} {x = k.counts.openings + (cost (setting_in f) c).counts.openings} {y = u.log} U.parties).1 passed.room, U.openings);
              revealed = omega (arith, passed.shown, U.revealed);
            }

        pub summing : Summing k.counts need.counts
        summing =
            let W = subst (λ (x : PaperCosts.Cost). Within (Paper.added (counts_of k.counts) x.counts) (counts_of supply)) (sym N.is) both_within in
            let B = t.words in
            record {
              inputs = omega (arith, W.inputs, B.inputs);
              masks = omega (arith, W.masks, B.masks);
              triples = omega (arith, W.triples, B.triples);
              openings = omega (arith, W.openings, B.openings);
              revealed = omega (arith, W.revealed, B.revealed);
            }

        -- what was paid is within the supply again
        pub paid_within : {r : Spent} → spent_of r ≡ pay (cost (setting_in f) c) (spent_of k) → Within (counts_of r.counts) (counts_of supply)
        unfolding pay
        paid_within q = subst (λ (x : Checks.Spent). Within x.counts (counts_of supply)) (sym q) both_within
