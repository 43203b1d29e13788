-- Request 5, "A firm's machine is down", of whole runs: "Values and counts are the same for every permitted set." Whoever is present, a run is the run with
-- everyone present, but that p stands in the record for each share of an absent party.
-- Assumes nothing.
use Rattle.std.specs.Prelude.{◌≡◌, ◌↔◌, ◌≢◌, true, false, List, ℕ, suc, ◌+◌, ◌*◌, ◌%◌, ◌^◌, ◌≤◌, ◌<◌, length, get_or}
use Rattle.algebra.specs.Lists.{Below}
use Rattle.model.specs.Fields.{Parties, InUse}
use Rattle.model.specs.Sharing.{Sharing, at, secret, weighted}
use Rattle.model.specs.Presence.{is_present, everyone, PermittedSet, openers}
use Rattle.model.specs.Refusing.{first_failed}
use Rattle.model.specs.Steps.{Row, value, recorded}
use Rattle.model.specs.Sheet.{Header, header_of, setting_with, header_tests}
use Rattle.model.specs.Run.{Outcome, run}
use Rattle.model.specs.Exactness.{Accepted}

-- A record against that of the run with everyone present. Opening i has the n places from n·i on, party 1's first. "in the record p itself stands for an
-- absent share"; all else is the same, to the last number.
pub record AbsentMarked (p n present openings : ℕ) (all log : List ℕ) : Type 0 where
  pub length_is : length log ≡ length all
  pub held : n * openings ≤ length all
  pub absent : (i j : ℕ) → i < openings → j < n → is_present present (suc j) ≡ false → get_or log (n * i + j) 0 ≡ p
  pub there : (i j : ℕ) → i < openings → j < n → is_present present (suc j) ≡ true → get_or log (n * i + j) 0 ≡ get_or all (n * i + j) 0
  pub past : (k : ℕ) → n * openings ≤ k → get_or log k 0 ≡ get_or all k 0

-- "Values and counts are the same", and so are number, place, marks, and the registers in all columns: "Absent parties' columns are still worked".
pub record SameRun (present : ℕ) (h : Header) (all x : Outcome) : Type 0 where
  pub number : x.number ≡ all.number
  pub place : x.place ≡ all.place
  pub counts : x.counts ≡ all.counts
  pub registers : x.registers ≡ all.registers
  pub marks : x.marks ≡ all.marks
  pub revealed : x.revealed ≡ all.revealed
  pub log : AbsentMarked (setting_with present h).p h.n present x.counts.openings all.log x.log

-- What an opening gives, with the modulus, the parties and the threshold of a header h.
pub record OpenedBy (present : ℕ) (h : Header) : Type 0 where
  -- "However an opening is worked now, a machine it leans on may be down": the value and the record's numbers are the same for all rows, sharings or not,
  -- that have the same shares of the present parties
  pub leans_on_present : (x y : Row) → ((j : ℕ) → 1 ≤ j → j ≤ h.n → is_present present j ≡ true → at 0 x j ≡ at 0 y j)
      → (value (setting_with present h) x ≡ value (setting_with present h) y) × (recorded (setting_with present h) x ≡ recorded (setting_with present h) y)
  -- of a sharing it is the secret, whoever is present
  pub secret_is : (x : Row) → Sharing (setting_with present h).p h.n h.t x → value (setting_with present h) x ≡ secret (setting_with present h).p h.t x
  -- request 4's sum, of those shares: it fits 64 bits where shares are below p, and its remainder by p is the value
  pub sum_fits : (x : Row) → Below (setting_with present h).p x
      → weighted (setting_with present h).p (openers h.n h.t present) (at 0 x) < 2 ^ 64
  pub reduced_last : (x : Row)
      → weighted (setting_with present h).p (openers h.n h.t present) (at 0 x) % (setting_with present h).p ≡ value (setting_with present h) x

pub record PresentRuns : Type 0 where
  -- for every sheet, refused or not, every permitted set and all buffers
  pub same_run : (present : ℕ) (s log revealed : List ℕ) → PermittedSet (header_of s).n (header_of s).t present
      → SameRun present (header_of s) (run (everyone (header_of s).n) s log revealed) (run present s log revealed)
  pub opened_by : (present : ℕ) (h : Header) → InUse h.field → Parties h.n h.t → PermittedSet h.n h.t present → OpenedBy present h
  -- a sheet is accepted with a set exactly where the set is permitted and the sheet is accepted with everyone present
  pub accepted : (present : ℕ) (s : List ℕ)
      → Accepted present s ↔ (Accepted (everyone (header_of s).n) s × PermittedSet (header_of s).n (header_of s).t present)
  -- "tried after 3 with place 0": a run answers 12 exactly where 1, 2 and 3 do not refuse and the set is not permitted, whatever else is wrong
  pub twelve : (present : ℕ) (s log revealed : List ℕ)
      → ((run present s log revealed).number ≡ 12) ↔ ((first_failed (header_tests s) ≡ 0) × (PermittedSet (header_of s).n (header_of s).t present → ⊥))
  pub twelve_place : (present : ℕ) (s log revealed : List ℕ) → (run present s log revealed).number ≡ 12 → (run present s log revealed).place ≡ 0
  -- where 1, 2 or 3 refuses, the byte decides nothing
  pub header_refused : (b c : ℕ) (s log revealed : List ℕ) → first_failed (header_tests s) ≢ 0 → run b s log revealed ≡ run c s log revealed
  -- "Program `table` takes everyone as present": it never answers 12, whatever the header says
  pub table_never : (s log revealed : List ℕ) → (run (everyone (header_of s).n) s log revealed).number ≢ 12
