-- A command that the checks let through: what they give it.
-- Assumes nothing.
use mathlib.Core.Path.{◌≡◌}
use mathlib.Core.List.{List}
use Prim.Native.Nat.{ℕ, ◌<◌}
use lib.ListN.{length}
use Rattle.algebra.specs.Lists.{Below}
use Rattle.model.specs.Script.{Command}
use Rattle.model.specs.Costs.{cost}
use Rattle.sheet.specs.declared.frame.Frame.{Frame}
use Rattle.sheet.specs.Framed.{setting_in, Framed}
use Rattle.costs.specs.declared.counts.Counts.{Counts}
use Rattle.costs.specs.declared.cost.Cost.{Cost}
use Rattle.costs.specs.declared.spent.Spent.{Spent}
use Rattle.costs.specs.Costing.{counts_of, Costs, supply_in}
use Rattle.costs.proofs.Attempts.{Numbers, Tried, passed}
use Rattle.registers.specs.Cells.{register_in}
use Rattle.registers.specs.Holding.{Lent, Ready}

-- A command may be tried on what is lent.
pub record Trying (s : List ℕ) (f : Frame) (supply : Counts) (k : Spent) (c : Command) (m : Lent) : Type 0 where
  pub framed : Framed s f
  pub size : length m.cells ≡ 448
  pub below : (a : ℕ) → a < 64 → Below f.p (register_in m.cells a)
  pub tried : Tried f (supply_in f (length m.log) (length m.shown)) supply k c

pub ready : {s : List ℕ} {f : Frame} {supply : Counts} {k : Spent} {c : Command} {m : Lent} (t : Trying s f supply k c m) {need : Cost}
    (N : Costs need (cost (setting_in f) c)) {number : ℕ} (E : Numbers supply need k number) → number ≡ 0 → Ready s f (counts_of k.counts) c m
ready t N E z =
    let P = passed t.tried N E z in
    record {
      framed = t.framed;
      ranged = t.tried.ranged;
      size = t.size;
      below = t.below;
      inputs = P.inputs;
      masks = P.masks;
      triples = P.triples;
      room = P.room;
      space = P.shown;
    }
