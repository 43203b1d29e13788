-- Room for some triples: for the first of them, for those behind, and for the numbers of the places.
-- Assumes nothing.
use mathlib.Core.Path.{◌≡◌}
use mathlib.Core.List.{List}
use Prim.Native.Nat.{ℕ, ◌+◌, ◌^◌, ◌<◌}
use native.Mathlib.Omega.{arith}
use lib.ListN.{length}
use Rattle.sharing.specs.declared.setting.Setting.{Setting}
use Rattle.steps.specs.declared.places.Places.{Places}
use Rattle.steps.specs.Places.{past_triples, Ahead, Room}

module _ {s log : List ℕ} {S : Setting} {at : Places} where
  pub room_first : (j k : ℕ) → Room s log S at (j + k) → Room s log S at j
  room_first j k R = record { fitting = R.fitting; triples = omega (arith, R.triples); openings = omega (arith, R.openings) }

  -- the record keeps its length
  pub room_kept : {k : ℕ} {log' : List ℕ} → length log' ≡ length log → Room s log S at k → Room s log' S at k
  room_kept e R = record { fitting = R.fitting; triples = R.triples; openings = rw e R.openings }

  pub room_past : (j k : ℕ) {log' : List ℕ} → length log' ≡ length log → Room s log S at (j + k) → Room s log' S (past_triples S at j) k
  room_past j k e R = record { fitting = R.fitting; triples = omega (arith, R.triples); openings = omega (arith, R.openings) }

  pub room_ahead : (j k : ℕ) → length s < 2 ^ 64 → length log < 2 ^ 64 → Room s log S at (j + k) → Ahead S at j
  room_ahead j k hs hl R =
      record { parties = R.fitting.parties; triple = omega (arith, R.triples); log = omega (arith, R.openings) }
