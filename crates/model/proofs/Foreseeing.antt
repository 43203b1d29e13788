-- The lines of a script gone over without rows, beside their run: they end alike.
-- Assumes nothing.
use mathlib.Core.Path.{◌≡◌, refl}
use mathlib.Core.List.{List, [], ◌∷◌}
use Prim.Native.Nat.{ℕ, zero, suc, ◌≤◌}
use lib.ListN.{length}
use Rattle.model.specs.Refusing.{given}
use Rattle.model.specs.Steps.{Row}
use Rattle.model.specs.Script.{Line}
use Rattle.model.specs.Costs.{mod_triples, cost}
use Rattle.model.specs.Checks.{Spent, check}
use Rattle.model.specs.Commands.{through_lines}
use Rattle.model.specs.Sheet.{Header, mask_bits, setting_with}
use Rattle.model.specs.Run.{State, Stop, finish, run_lines, supply_of}
use Rattle.model.specs.Buffers.{record_length, revealed_length}
use Rattle.model.specs.Forecast.{Foreseen, ample_supply}
use Rattle.model.proofs.StepLaws.{run_end, run_line}
use Rattle.model.proofs.Lengths.{Fitting}
use Rattle.model.proofs.Buffers.{Before, same_check, finished}

-- a forecast and a run end alike: number, place and what was spent
pub record Follows (x : Stop) (e : Foreseen) : Type 0 where
  pub number : e.number ≡ x.number
  pub place : e.place ≡ x.place
  pub spent : e.spent ≡ x.state.spent

-- by one number: both go on, or both stop here
either : (n : ℕ) {x y : Stop} {e f : Foreseen} → (n ≡ 0 → Follows x e) → Follows y f → Follows (given n x y) (given n e f)
either zero h k = h refl
either (suc n) h k = k

module _ (h : Header) (fits : Fitting h) (people : h.n ≤ 7) (log shown : ℕ) (log-long : record_length ≤ log) (shown-long : revealed_length ≤ shown)
    (present : ℕ) (input : List Row) (end : ℕ) where
  -- the lines from what was spent on
  abbrev gone_over : List Line → Spent → Foreseen
  gone_over xs s = through_lines (λ e. e) (λ refusal j c g go. go g) (mod_triples (mask_bits h)) (ample_supply h) end xs s []

  pub follows : (xs : List Line) (s : State) → Before s.spent (length xs)
      → Follows (run_lines (setting_with present h) (supply_of h log shown) input end xs s) (gone_over xs s.spent)
  unfolding through_lines finish
  follows [] s k = rw (run_end (setting_with present h) (supply_of h log shown) input end s) (record { number = refl; place = refl; spent = refl })
  follows (x ∷ xs) s k =
      let S = setting_with present h in
      rw (run_line S (supply_of h log shown) input end x xs s, ← same_check h fits people log shown log-long shown-long S x.command k)
      (either (check (supply_of h log shown) (cost S x.command) s.spent)
      (λ z. follows xs (finish S input x.command s) (finished h fits people log shown log-long shown-long S input end x.command s k z))
      (record { number = refl; place = refl; spent = refl }))
