use Rattle.algebra.proofs.Lists.{WritingAt}
use Rattle.model.specs.Steps.{recorded}
use Rattle.sharing.specs.Settings.{setting_of}
use Rattle.sharing.proofs.opening.put_marked.Given as goal

-- the first j numbers stand in the list from the place on
abbrev pub invariant-loop-j : goal.invariant-loop-j
invariant-loop-j l = WritingAt l.at (recorded (setting_of l.setting) l.fn.row.shares) l.fn.list l.setting.n l.j l.list
