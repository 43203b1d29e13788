-- Places moved by a step, and the room that a step needs there.
-- Assumes nothing.
use Rattle.std.specs.Prelude.{List, ℕ, ◌+◌, ◌*◌, ◌^◌, ◌≤◌, ◌<◌, length}
use Rattle.model.specs.Costs.{mod_triples}
use Rattle.sharing.specs.Settings.{Fitting}
use Rattle.sharing.specs.declared.setting.Setting.{Setting}
use Rattle.steps.specs.declared.places.Places.{Places}

-- past k triples of three rows, with two openings each; a share is 4 bytes, and one number of the record
abbrev pub past_triples : Setting → Places → ℕ → Places
past_triples S at k = record { mask = at.mask; triple = at.triple + k * (12 * S.n); log = at.log + k * (2 * S.n) }

-- past a mask of ℓ rows, with one opening
abbrev pub past_mask : Setting → Places → Places
past_mask S at = record { mask = at.mask + S.l * (4 * S.n); triple = at.triple; log = at.log + S.n }

-- the places past k triples, and past a mask, are numbers of the code
pub record Ahead (S : Setting) (at : Places) (k : ℕ) : Type 0 where
  pub parties : S.n ≤ 7
  pub triple : at.triple + k * (12 * S.n) < 2 ^ 64
  pub log : at.log + k * (2 * S.n) < 2 ^ 64

pub record MaskAhead (S : Setting) (at : Places) : Type 0 where
  pub parties : S.n ≤ 7
  pub mask : at.mask + S.l * (4 * S.n) < 2 ^ 64
  pub log : at.log + S.n < 2 ^ 64

-- the sheet's bytes s have k triples from their place on, and the record has room for two openings each
pub record Room (s log : List ℕ) (S : Setting) (at : Places) (k : ℕ) : Type 0 where
  pub fitting : Fitting S
  pub triples : at.triple + k * (12 * S.n) ≤ length s
  pub openings : at.log + k * (2 * S.n) ≤ length log

-- The same for MOD of k and m and what rests on it: "1 ≤ m < k", a mask is there, and past it room for its ℓ + 2m − 2 triples.
pub record MaskedRoom (s log : List ℕ) (S : Setting) (at : Places) (k m : ℕ) : Type 0 where
  pub least : 1 ≤ m
  pub less : m < k
  pub most : k ≤ 30
  pub power : 2 ^ k < S.p
  pub within : m ≤ S.l
  pub mask : at.mask + S.l * (4 * S.n) ≤ length s
  pub room : Room s log S (past_mask S at) (mod_triples S.l m)

-- w bits, at least one, are there as rows of cells
pub record Bits (w : ℕ) (cells : List ℕ) : Type 0 where
  pub some : 1 ≤ w
  pub there : 7 * w ≤ length cells
