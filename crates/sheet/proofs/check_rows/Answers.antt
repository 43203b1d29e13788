use native.Mathlib.Omega.{arith}
use Rattle.sheet.proofs.Answers.{setting_fits}
use Rattle.sheet.proofs.check_rows.Goals as goal

-- the setting fits, and the masks and triples stand within the sheet
pub good_masks-requires : goal.good_masks-requires
good_masks-requires c = rw c.setting-setting.ensures (setting_fits c.requires.0 c.requires.1, omega (arith, c.requires.0, c.requires.2))

pub good_triples-requires : goal.good_triples-requires
good_triples-requires c = rw c.setting-setting.ensures (setting_fits c.requires.0 c.requires.1, omega (arith, c.requires.2))
