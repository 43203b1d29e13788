-- Demand 3 is about runs that there are: each well-formed deal makes an accepted sheet, which reads as what it is made of; and the deal of
-- an accepted sheet is one of these deals, and where the sheet consists of bytes, the sheet made on that deal is itself.
-- Assumes nothing.
use Rattle.std.specs.Prelude.{◌≡◌, List, ℕ}
use Rattle.algebra.specs.Lists.{Below}
use Rattle.model.specs.Deal.{Deal}
use Rattle.model.specs.Sheet.{header_of, script_in, input_in, deal_in}
use Rattle.model.specs.Making.{Says}
use Rattle.model.specs.Exactness.{Accepted}
use Rattle.model.specs.Secrecy.{WellFormed, made_on}

-- the sheet that `run_on` runs for the sheet s and the deal d
pub record RealRun (present : ℕ) (s : List ℕ) (d : Deal) : Type 0 where
  pub is_accepted : Accepted present (made_on s d)
  pub says : Says (made_on s d) (header_of s) (script_in (header_of s) s) (input_in (header_of s) s) d
  pub bytes : Below 256 s → Below 256 (made_on s d)

-- for every accepted sheet, whoever is present
pub record RealRuns : Type 0 where
  pub made : (present : ℕ) (s : List ℕ) → Accepted present s → (d : Deal) → WellFormed (header_of s) d → RealRun present s d
  pub own_deal : (present : ℕ) (s : List ℕ) → Accepted present s → WellFormed (header_of s) (deal_in (header_of s) s)
  pub own_run : (present : ℕ) (s : List ℕ) → Accepted present s → Below 256 s → made_on s (deal_in (header_of s) s) ≡ s
