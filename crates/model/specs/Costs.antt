-- The paper, "Steps": what each command reads, writes and spends.
-- Assumes nothing.
use Rattle.std.specs.Prelude.{List, [], ◌∷◌, ℕ, ◌+◌, ◌-◌, ◌*◌}
use Rattle.algebra.specs.Lists.{from}
use Rattle.model.specs.Deal.{Setting}
use Rattle.model.specs.Counts.{Counts, no_counts}
use Rattle.model.specs.Script.{Command, LOAD, CONST, ADD, SUB, SCALE, MUL, MOD, TRUNC, LTZ, OVER, BLOCKS, REVEAL, BITLT, LTZS}

-- The registers that a command reads and writes, and what it spends.
pub record Cost : Type 0 where
  pub reads : List ℕ
  pub writes : List ℕ
  pub counts : Counts

-- an input row; and a row opened whose value is revealed
abbrev pub of_input : Counts
of_input = record { inputs = 1; masks = 0; triples = 0; openings = 0; revealed = 0 }

abbrev pub of_reveal : Counts
of_reveal = record { inputs = 0; masks = 0; triples = 0; openings = 1; revealed = 1 }

-- so many triples, two openings each; and a mask before them, with one opening
abbrev pub of_triples : ℕ → Counts
of_triples n = record { inputs = 0; masks = 0; triples = n; openings = 2 * n; revealed = 0 }

abbrev pub of_mask : ℕ → Counts
of_mask n = record { inputs = 0; masks = 1; triples = n; openings = 1 + 2 * n; revealed = 0 }

-- h masks, with so many triples each
abbrev pub of_masks : ℕ → ℕ → Counts
of_masks h n = record { inputs = 0; masks = h; triples = h * n; openings = h * (1 + 2 * n); revealed = 0 }

-- a command that spends nothing, one that spends triples, and one that spends a mask and triples
abbrev pub free : List ℕ → List ℕ → Cost
free rs ds = record { reads = rs; writes = ds; counts = no_counts }

abbrev pub spending : List ℕ → ℕ → ℕ → Cost
spending rs d n = record { reads = rs; writes = d ∷ []; counts = of_triples n }

abbrev pub masking : ℕ → ℕ → ℕ → Cost
masking d a n = record { reads = a ∷ []; writes = d ∷ []; counts = of_mask n }

-- The sentences after the paper's "Spent:", each over its commands; they name none of CONST, ADD, SUB and SCALE. `triples` is how many triples
-- MOD takes for m.
unfoldable pub cost_by : (ℕ → ℕ) → Command → Cost
-- "Inputs counts the finished LOADs"
cost_by triples (LOAD d) = record { reads = []; writes = d ∷ []; counts = of_input }
-- nothing is spent
cost_by triples (CONST d v) = free [] (d ∷ [])
cost_by triples (ADD d a b) = free (a ∷ b ∷ []) (d ∷ [])
cost_by triples (SUB d a b) = free (a ∷ b ∷ []) (d ∷ [])
cost_by triples (SCALE d a v) = free (a ∷ []) (d ∷ [])
-- "Spent: MUL one triple, two openings. BITLT w − 1 triples, twice as many openings."
cost_by triples (MUL d a b) = spending (a ∷ b ∷ []) d 1
cost_by triples (BITLT d b w v) = spending (from b w) d (w - 1)
-- "MOD, TRUNC, BLOCKS one mask, ℓ + 2m − 2 triples, and 1 + 2(ℓ + 2m − 2) openings.": with `triples m` for ℓ + 2m − 2
cost_by triples (MOD d a k m) = masking d a (triples m)
cost_by triples (TRUNC d a k m) = masking d a (triples m)
cost_by triples (BLOCKS d a k m) = masking d a (triples m)
-- "LTZ and OVER the same with m = k − 1."
cost_by triples (LTZ d a k) = masking d a (triples (k - 1))
cost_by triples (OVER d a k v) = masking d a (triples (k - 1))
-- Request 7: "cells, record and counts equal those of h LTZ commands"
cost_by triples (LTZS d a h k) = record { reads = from a h; writes = from d h; counts = of_masks h (triples (k - 1)) }
-- "REVEAL one opening, and its value goes to the revealed list."
cost_by triples (REVEAL a) = record { reads = a ∷ []; writes = []; counts = of_reveal }

-- "ℓ + 2m − 2 triples"; l is the paper's ℓ
abbrev pub mod_triples : ℕ → ℕ → ℕ
mod_triples l m = l + 2 * m - 2

-- what a command costs with the paper's MOD
abbrev pub cost : Setting → Command → Cost
cost S c = cost_by (mod_triples S.l) c
