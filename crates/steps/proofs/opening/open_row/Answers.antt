use Rattle.std.proofs.Common.{rules}
use mathlib.Core.Path.{◌≡◌, ◌∙◌}
use mathlib.Core.List.{List, append-nil}
use Prim.Native.Nat.{ℕ, ◌<◌}
use Rattle.algebra.specs.Lists.{onto_at}
use Rattle.model.specs.Steps.{Row, recorded, written, value}
use Rattle.sharing.specs.Settings.{setting_of}
use Rattle.sharing.specs.declared.setting.Setting.{Setting}
use Rattle.steps.specs.Promises.{Opens}
use Rattle.steps.proofs.opening.open_row.Goals as goal

opens : (S : Setting) (at : ℕ) (x : Row) (log : List ℕ) {v : ℕ} {log' : List ℕ} → v ≡ value (setting_of S) x → v < S.p
    → log' ≡ onto_at at (recorded (setting_of S) x) log → Opens S at x v log log'
unfolding written
opens S at x log e b l = record { value_is = e; below = b; log_is = l ∙ rw append-nil }

pub returns : goal.returns
returns c = search (rules, opens)
