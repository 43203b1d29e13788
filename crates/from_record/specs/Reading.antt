-- What a reader of a record has, and what it finds in an opening before it compares its own share.
-- Assumes nothing.
use Rattle.std.specs.Prelude.{◌≡◌, Bool, ◌||◌, List, [], ◌∷◌, ℕ, ◌≤◌, ◌<◌, eqb, Ok, Err, Result}
use Rattle.model.specs.Fields.{modulus, InUse, Parties}
use Rattle.model.specs.Replay.{opening, opened_value}
use Rattle.model.specs.Replays.{OnOne}
use Rattle.refusals.specs.declared.Refusal.{Refusal}
use Rattle.refusals.specs.Numbers.{number_of}
use Rattle.from_record.specs.declared.Reader.{Reader}
use Rattle.from_record.specs.declared.shown.Shown.{Shown}
use Rattle.from_record.specs.Showing.{Gathered}
use Rattle.from_record.specs.Windowed.{WindowsOf}

pub record Reading (r : Reader) : Type 0 where
  pub in_use : InUse r.field
  pub p_is : r.p ≡ modulus r.field
  pub parties : Parties r.n r.t
  pub party_least : 1 ≤ r.party
  pub party_most : r.party ≤ r.n
  pub windows : WindowsOf r.p r.n r.t r.windows

-- the next n numbers of a record are on one polynomial, with the value at 0; or 42 refuses them
abbrev pub FoundIn : ℕ → ℕ → ℕ → List ℕ → Result ℕ Refusal → Type 0
FoundIn p n t log (Ok v) = OnOne p n t (opening p n t log) × (v ≡ opened_value p n t (opening p n t log)) × (v < p)
FoundIn p n t log (Err e) = (number_of e ≡ 42) × (OnOne p n t (opening p n t log) → ⊥)

-- the same of the shares that are shown, whatever record they are from
abbrev pub Finding : ℕ → ℕ → ℕ → Shown → Result ℕ Refusal → Type 0
Finding p n t shown r = (log : List ℕ) → Gathered p n 0 log shown → FoundIn p n t log r

-- "then 41 the own share differs"; "an absent own share is not compared": the last of the tests of an opening that shows the share
abbrev pub own_tests : ℕ → ℕ → ℕ → List (Bool × ℕ)
own_tests p own share = (eqb share p || eqb share own, 41) ∷ []
