-- The sets of parties whose values are compared, by the byte of those present.
-- Assumes nothing.
use Rattle.std.specs.Prelude.{◌≡◌, List, ℕ, ◌*◌, ◌/◌, ◌^◌, ◌≤◌, ◌<◌, get_or}
use Rattle.model.specs.Presence.{PermittedSet, openers}
use Rattle.model.specs.Sharing.{value_from}
use Rattle.presence.specs.Openings.{WorkedBy}
use Rattle.presence.specs.declared.Opening.{Opening}
use Rattle.from_record.specs.declared.windows.Windows.{Windows}

-- a byte without the bits of parties 1 to z
unfoldable pub without : ℕ → ℕ → ℕ
without present z = present / 2 ^ z * 2 ^ z

-- The sets without parties 1 to z, for each z that leaves a permitted set: how each is worked.
pub record WindowsOf (p n t : ℕ) (w : Windows) : Type 0 where
  pub parties_only : w.present < 2 ^ n
  pub most : w.count ≤ 6
  pub permitted : (z : ℕ) → z < w.count → PermittedSet n t (without w.present z)
  pub no_more : (z : ℕ) → w.count ≤ z → PermittedSet n t (without w.present z) → ⊥
  pub sets : (z : ℕ) → z < w.count → (o : Opening) → (get_or w.openings z o).present ≡ without w.present z
  pub worked : (z : ℕ) → z < w.count → (o : Opening) → WorkedBy p n t (get_or w.openings z o)

-- what the lowest t + 1 of such a set give
abbrev pub window_value : ℕ → ℕ → ℕ → ℕ → List ℕ → ℕ → ℕ
window_value p n t present x z = value_from p (openers n t (without present z)) x

abbrev pub AllGive : ℕ → ℕ → ℕ → Windows → List ℕ → ℕ → Type 0
AllGive p n t w x v = (z : ℕ) → z < w.count → window_value p n t w.present x z ≡ v

-- no value is given by all, and v is what the first gives
pub record NoneGiven (p n t : ℕ) (w : Windows) (x : List ℕ) (v : ℕ) : Type 0 where
  pub none : (u : ℕ) → 0 < w.count → AllGive p n t w x u → ⊥
  pub first : 0 < w.count → v ≡ window_value p n t w.present x 0
