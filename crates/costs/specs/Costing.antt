-- The code's counts, costs and what was spent, as the paper's; and what is asked of them.
-- Assumes nothing.
use Rattle.std.specs.Prelude.{◌≡◌, Bool, List, [], ◌∷◌, ◌++◌, ℕ, ◌+◌, ◌-◌, ◌/◌, ◌^◌, ◌≤◌, ◌<◌, leb}
use Rattle.algebra.specs.Lists.{from}
use Rattle.model.specs.Refusing.{first_failed}
use Rattle.model.specs.Counts as Paper
use Rattle.model.specs.Costs as PaperCosts
use Rattle.model.specs.Checks as PaperChecks
use Rattle.sheet.specs.declared.frame.Frame.{Frame}
use Rattle.costs.specs.declared.counts.Counts.{Counts}
use Rattle.costs.specs.declared.cost.Span.{Span}
use Rattle.costs.specs.declared.cost.Cost.{Cost}
use Rattle.costs.specs.declared.spent.Spent.{Spent}

abbrev pub counts_of : Counts → Paper.Counts
counts_of k = record { inputs = k.inputs; masks = k.masks; triples = k.triples; openings = k.openings; revealed = k.revealed }

abbrev pub registers_in : Span → List ℕ
registers_in x = from x.from x.size

abbrev pub cost_of : Cost → PaperCosts.Cost
cost_of c = record { reads = registers_in c.first ++ registers_in c.second; writes = registers_in c.target; counts = counts_of c.counts }

abbrev pub spent_of : Spent → PaperChecks.Spent
spent_of s = record { counts = counts_of s.counts; marks = s.marks }

-- the code's cost is the paper's, and its registers are among the 64
pub record Costs (r : Cost) (c : PaperCosts.Cost) : Type 0 where
  pub is : cost_of r ≡ c
  pub first : r.first.from + r.first.size ≤ 64
  pub second : r.second.from + r.second.size ≤ 64
  pub target : r.target.from + r.target.size ≤ 64

-- none of x is more than y has
pub record Within (x y : Paper.Counts) : Type 0 where
  pub inputs : x.inputs ≤ y.inputs
  pub masks : x.masks ≤ y.masks
  pub triples : x.triples ≤ y.triples
  pub openings : x.openings ≤ y.openings
  pub revealed : x.revealed ≤ y.revealed

-- the sums fit
pub record Summing (x y : Counts) : Type 0 where
  pub inputs : x.inputs + y.inputs < 2 ^ 64
  pub masks : x.masks + y.masks < 2 ^ 64
  pub triples : x.triples + y.triples < 2 ^ 64
  pub openings : x.openings + y.openings < 2 ^ 64
  pub revealed : x.revealed + y.revealed < 2 ^ 64

-- what is left of y without x
abbrev pub left_of : Paper.Counts → Paper.Counts → Paper.Counts
left_of y x =
    record {
      inputs = y.inputs - x.inputs;
      masks = y.masks - x.masks;
      triples = y.triples - x.triples;
      openings = y.openings - x.openings;
      revealed = y.revealed - x.revealed;
    }

-- the supply as counts: the record has place for so many openings of n shares
pub record Supplied (u : PaperChecks.Supply) (k : Counts) : Type 0 where
  pub parties : 0 < u.parties
  pub inputs : k.inputs ≡ u.inputs
  pub masks : k.masks ≡ u.masks
  pub triples : k.triples ≡ u.triples
  pub openings : k.openings ≡ u.log / u.parties
  pub revealed : k.revealed ≡ u.shown

-- what there is for a sheet with this frame and buffers of these lengths
abbrev pub supply_in : Frame → ℕ → ℕ → PaperChecks.Supply
supply_in f log shown = record { inputs = f.inputs; masks = f.masks; triples = f.triples; parties = f.n; log = log; shown = shown }

-- what the checks may assume
pub record Checkable (s : Spent) (supply : Counts) (need : Cost) : Type 0 where
  pub within : Within (counts_of s.counts) (counts_of supply)
  pub first : need.first.from + need.first.size ≤ 64
  pub second : need.second.from + need.second.size ≤ 64

-- the checks by what is left
unfoldable pub missing : Bool → Paper.Counts → Paper.Counts → ℕ
missing set left need =
    first_failed
    ((set, 21) ∷ (leb need.inputs left.inputs, 22) ∷ (leb need.masks left.masks, 23) ∷ (leb need.triples left.triples, 24)
    ∷ (leb need.openings left.openings, 25) ∷ (leb need.revealed left.revealed, 26) ∷ [])
