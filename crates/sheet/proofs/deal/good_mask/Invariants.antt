use Rattle.sharing.specs.Settings.{setting_of}
use Rattle.sheet.proofs.Spelling.{Spelling}
use Rattle.sheet.proofs.deal.good_mask.Given as goal

abbrev pub invariant-loop-k : goal.invariant-loop-k
invariant-loop-k l = Spelling (setting_of l.setting) l.s l.i l.setting.l l.k l.v
