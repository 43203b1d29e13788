use Rattle.std.proofs.Common.{◌≡◌, ℕ, ◌<◌, List, length, get_or, take}
use Rattle.model.specs.Sharing.{weight}
use Rattle.presence.proofs.Presences.{Weighing}
use Rattle.presence.proofs.weights_by.Given as goal

abbrev pub invariant-loop-i : goal.invariant-loop-i
invariant-loop-i g l =
    (p : ℕ) (parties : List ℕ) → length parties ≡ 4 → ((i v : ℕ) → i < l.e → goal.F-post g l.weight i v → v ≡ weight p (take l.e parties) (get_or parties i 0))
    → Weighing p parties l.e l.i l.weights
