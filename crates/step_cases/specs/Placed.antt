-- What a case's places need.
-- Assumes nothing.
use Rattle.std.specs.Prelude.{◌≡◌, List, ℕ, ◌≤◌, length}
use Rattle.sharing.specs.Settings.{Fitting}
use Rattle.sharing.specs.declared.setting.Setting.{Setting}
use Rattle.steps.specs.declared.places.Places.{Places}

-- A case has its ten words, its places lie within it, and its record is empty.
pub record Placed (s : List ℕ) (S : Setting) (at : Places) : Type 0 where
  pub fitting : Fitting S
  pub words : 40 ≤ length s
  pub mask : at.mask ≤ length s
  pub triple : at.triple ≤ length s
  pub log : at.log ≡ 0
