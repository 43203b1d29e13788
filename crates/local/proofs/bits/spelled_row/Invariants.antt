use Rattle.sharing.specs.Settings.{setting_of}
use Rattle.local.proofs.Spelling.{Spelling}
use Rattle.local.proofs.bits.spelled_row.Given as goal

-- the bits from k on are spelled
abbrev pub invariant-loop-k : goal.invariant-loop-k
invariant-loop-k l = Spelling (setting_of l.setting) l.w l.cells l.k l.r.shares
