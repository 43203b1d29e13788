-- The paper, "The words of demand 3": what is counted of a run. "Inputs counts the finished LOADs; masks, triples and openings are the sums of what is
-- spent over the finished commands." With them stands how many values were revealed, which the paper's answer leaves to be computed from the
-- others (`Balance` in Exactness.antt).
-- Assumes nothing.
use Rattle.std.specs.Prelude.{List, [], ◌∷◌, ℕ, ◌+◌}

pub record Counts : Type 0 where
  pub inputs : ℕ
  pub masks : ℕ
  pub triples : ℕ
  pub openings : ℕ
  pub revealed : ℕ

-- "all counts 0"
abbrev pub no_counts : Counts
no_counts = record { inputs = 0; masks = 0; triples = 0; openings = 0; revealed = 0 }

-- what was spent before, and then
abbrev pub added : Counts → Counts → Counts
added x y =
    record {
      inputs = x.inputs + y.inputs;
      masks = x.masks + y.masks;
      triples = x.triples + y.triples;
      openings = x.openings + y.openings;
      revealed = x.revealed + y.revealed;
    }

-- the counts in their order
abbrev pub listed : Counts → List ℕ
listed x = x.inputs ∷ x.masks ∷ x.triples ∷ x.openings ∷ x.revealed ∷ []
