-- `everyone` meets its contract: where the header has no n of at most 7, 1, 2 or 3 refuses, whatever the byte is.
-- Assumes nothing.
use Rattle.std.proofs.Common.{rules, arith, ◌≡◌, ◌≢◌, refl, ap, List, ℕ, ◌<◌, length, get_or}
use Rattle.model.specs.Presence as Presence
use Rattle.model.specs.Refusing.{first_failed}
use Rattle.model.specs.Sheet.{header_of, header_size, header_tests}
use Rattle.model.specs.Run.{run}
use Rattle.model.proofs.Lengths.{header_read}
use Rattle.model.proofs.PresentRuns.{present_runs}
use Rattle.table.specs.Ample.{Everyone}
use Rattle.table.proofs.everyone.Goals as goal
use Rattle.table.proofs.everyone.Goals.{then-s-lt2-via-then-s-lt2, then-s-lt2-via-else-s-lt2+then-s-gt-MOST_PARTIES}

whatever : (s : List ℕ) (b : ℕ) → first_failed (header_tests s) ≢ 0 → Everyone s b
whatever s b z log revealed = present_runs.header_refused b _ s log revealed z

too_short : (s : List ℕ) (b : ℕ) → length s < 2 → Everyone s b
unfolding header_size
too_short s b h = whatever s b (λ e. omega (arith, (header_read s refl e).long))

too_many : (s : List ℕ) (b : ℕ) → 7 < get_or s 1 0 → Everyone s b
unfolding header_of
too_many s b h = whatever s b (λ e. omega (arith, (header_read s refl e).people))

by_n : (s : List ℕ) (b : ℕ) → b ≡ Presence.everyone (get_or s 1 0) → Everyone s b
unfolding header_of
by_n s b e log revealed = ap (λ (x : ℕ). run x s log revealed) e

pub returns-then-s-lt2 : goal.returns-then-s-lt2
returns-then-s-lt2 c =
    elim c.then-s-lt2.branch [
      | then-s-lt2-via-then-s-lt2 w ↦ search (rules, too_short)
      | then-s-lt2-via-else-s-lt2+then-s-gt-MOST_PARTIES w ↦ search (rules, too_many)
    ]

pub returns : goal.returns
returns c = search (rules, by_n)
