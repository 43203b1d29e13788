use Rattle.std.proofs.Common.{arith}
use mathlib.Core.Path.{◌≡◌}
use mathlib.Core.List.{List, [], append-nil}
use Prim.Native.Nat.{ℕ, ◌-◌}
use lib.ListN.{length, take, drop, length-drop, drop_of_length-le}
use lib.Seq.{take_all}
use borrow.Rule.Slice.PartMut.{put_mid, mid_of}
use Rattle.algebra.specs.Lists.{onto_at}
use Rattle.model.specs.Steps.{Row}
use Rattle.sharing.specs.declared.setting.Setting.{Setting}
use Rattle.steps.specs.Promises.{Opens}
use Rattle.steps.proofs.opening.open_at.Goals as goal

opens_at : {S : Setting} {at : ℕ} {x : Row} {v : ℕ} (log : List ℕ) {last : List ℕ} → Opens S 0 x v (mid_of at (length log - at) log) last
    → Opens S at x v log (put_mid at (length log - at) log last)
unfolding onto_at
opens_at {at = at} log O =
    let whole : take (length log - at) (drop at log) ≡ drop at log = take_all (length log - at) (drop at log) (rw (length-drop at log) (omega arith)) in
    let none : drop (length log - at) (drop at log) ≡ [] = drop_of_length-le (drop at log) {i = length log - at} (rw (length-drop at log) (omega arith)) in
    record { value_is = O.value_is; below = O.below; log_is = rw (O.log_is, whole, none, append-nil) }

pub returns : goal.returns
returns c = opens_at _ c.open_row.ensures
