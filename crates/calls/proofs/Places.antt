-- A byte at a place, and past the text's end.
-- Assumes nothing.
use mathlib.Core.Path.{◌≡◌, refl}
use mathlib.Core.Bool.{false}
use mathlib.Core.List.{List}
use Prim.Native.Nat.{ℕ, ◌≤◌, ◌<◌}
use lib.Dec.{eqb}
use lib.ListN.{length, get_or, drop, drop_of_length-le}
use lib.Seq.{drop-cons}
use Rattle.calls.specs.Meaning.{is_first}

pub stands_there : (b i : ℕ) (s : List ℕ) → i < length s → eqb (get_or s i 0) b ≡ is_first b (drop i s)
unfolding is_first
stands_there b i s h = rw (drop-cons s i 0 h) refl

pub none_there : (b i : ℕ) (s : List ℕ) → length s ≤ i → false ≡ is_first b (drop i s)
unfolding is_first
none_there b i s h = rw (drop_of_length-le s {i = i} h) refl
