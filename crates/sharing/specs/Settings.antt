-- The code's setting as the paper's, and what is asked of one.
-- Assumes nothing.
use Rattle.std.specs.Prelude.{◌≤◌}
use Rattle.model.specs.Fields.{Modulus}
use Rattle.model.specs.Deal as Paper
use Rattle.presence.specs.Openings.{WorkedBy}
use Rattle.sharing.specs.declared.setting.Setting.{Setting}

-- number by number
abbrev pub setting_of : Setting → Paper.Setting
setting_of S = record { p = S.p; l = S.l; n = S.n; t = S.t; present = S.opening.present }

-- p is the modulus of a field in use, rows of n shares fit seven cells, t + 1 shares are at most four, and a mask has at most 31 bits; and openings are worked
-- as they should be.
pub record Fitting (S : Setting) : Type 0 where
  pub modulus : Modulus S.p
  pub parties : S.n ≤ 7
  pub threshold : S.t ≤ 3
  pub bits : S.l ≤ 31
  pub opens : WorkedBy S.p S.n S.t S.opening
