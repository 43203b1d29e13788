-- Which numbers a replay answers: where no opening refuses, which is with 41 to 43, it goes over the lines as the forecast does.
-- Assumes nothing.
use mathlib.Core.Path.{◌≡◌, refl, ap, subst}
use mathlib.Core.Logic.{◌≢◌, ◌⊎◌, inl, inr}
use mathlib.Core.List.{List, [], ◌∷◌}
use Prim.Native.Nat.{ℕ, zero, suc}
use native.Mathlib.Omega.{arith}
use Rattle.algebra.specs.Lists.{none, one}
use Rattle.model.specs.Fields.{field_tests, setting_tests}
use Rattle.model.specs.Refusing.{first_failed, given}
use Rattle.model.specs.Deal.{Setting, Row, Deal}
use Rattle.model.specs.Trees.{Tree, done, multiply, mask, reveal}
use Rattle.model.specs.Script.{Line, Script, accepted, refused}
use Rattle.model.specs.Costs.{mod_triples, cost}
use Rattle.model.specs.Checks.{Spent, Supply, check, pay}
use Rattle.model.specs.Commands.{Ended, through_lines}
use Rattle.model.specs.Sheet.{Header, header_of, mask_bits, header_tests, limit_tests}
use Rattle.model.specs.Run.{row_command, nothing_spent, sheet_script}
use Rattle.model.specs.Refusals.{From}
use Rattle.model.specs.Forecast.{Foreseen, head_length_tests, lines_foreseen, script_foreseen, ample_supply, foreseen, Forecast}
use Rattle.model.specs.Forecasts.{OfForecast}
use Rattle.model.specs.Replay.{Read, stopped, finished, one_column, opening_tests, opening_number, from_record, by_record, onward, replay_lines, party_tests, part_length_tests, own_share_tests, replay_tests, replay_script, replay}
use Rattle.model.specs.Replays.{ReplayReady, AsForeseen, OfReplay}
use Rattle.model.proofs.Trying.{failed_in}
use Rattle.model.proofs.Forecasts.{good_head, forecasts}
use Rattle.model.proofs.ReplayTests.{ready}

-- an opening is refused with 41 to 43
opening_late : (p n t j own : ℕ) (log : List ℕ) → (opening_number p n t j own log ≢ 0) → From 41 43 (opening_number p n t j own log)
unfolding opening_tests
opening_late p n t j own log =
    failed_in (λ k. (k ≢ 0) → From 41 43 k) (λ z. absurd (z refl))
    (one (λ _. omega arith) (one (λ _. omega arith) (one (λ _. omega arith) (one (λ _. omega arith) (one (λ _. omega arith) none)))))

-- and so is a tree
data Late {A : Type 0} : Read A → Type 0 where
  stops : {number : ℕ} → From 41 43 number → Late (stopped number)
  finishes : {x : A} {d : Deal} {log : List ℕ} → Late (finished x d log)

-- Lines of a replay and of a forecast: the record refuses, or they end alike.
data Follows (e : Ended Row) (f : Foreseen) : Type 0 where
  refuses : From 41 43 e.number → Follows e f
  alike : e.number ≡ f.number → e.place ≡ f.place → e.spent ≡ f.spent → Follows e f

module _ (S : Setting) (j : ℕ) where
  one_opening : {A : Type 0} (x : Row) (log : List ℕ) (go : ℕ → List ℕ → Read A) → ((v : ℕ) (rest : List ℕ) → Late (go v rest))
      → Late (from_record S j x log go)
  unfolding from_record
  one_opening {A = A} x log go h = either _ (opening_late S.p S.n S.t j _ log) (h _ _)
    where
      either : (number : ℕ) {a : Read A} → (number ≢ 0 → From 41 43 number) → Late a → Late (given number a (stopped number))
      either zero k h = h
      either (suc number) k h = stops (k (λ q. omega arith))

  one_tree : {A : Type 0} (T : Tree Row A) (d : Deal) (log : List ℕ) → Late (by_record S j T d log)
  unfolding by_record
  one_tree (done x) d log = finishes
  one_tree (multiply x y go) d log = one_opening _ log _ λ a1 log₁. one_opening _ log₁ _ λ b1 log₂. one_tree (go _) _ log₂
  one_tree (mask x go) d log = one_opening _ log _ λ C log₁. one_tree (go C _) _ log₁
  one_tree (reveal x rest) d log = one_opening _ log _ λ v log₁. one_tree rest d log₁

  one_command : {x : Read (List Row)} → Late x → (refusal : ℕ → Ended Row) (go : List Row → Deal → List ℕ → Ended Row) {f : Foreseen}
      → ((k : ℕ) → (refusal k).number ≡ k) → ((g : List Row) (d : Deal) (log : List ℕ) → Follows (go g d log) f) → Follows (onward S j refusal go x) f
  one_command (stops {number} l) refusal go e h = refuses (rw (e number) l)
  one_command finishes refusal go e h = h _ _ _

  by_number : (number : ℕ) (f r : Deal → List ℕ → Ended Row) (d : Deal) (log : List ℕ) {e k : Foreseen} → Follows (f d log) e → Follows (r d log) k
      → Follows (given number f r d log) (given number e k)
  by_number zero f r d log a b = a
  by_number (suc number) f r d log a b = b

  follows : (u : Supply) (input : List Row) (end : ℕ) (xs : List Line) (s : Spent) (g : List Row) (d : Deal) (log : List ℕ)
      → Follows (replay_lines S j u input end xs s g d log) (through_lines (λ e. e) (λ refusal i c g go. go g) (mod_triples S.l) u end xs s [])
  unfolding replay_lines through_lines
  follows u input end [] s g d log = alike refl refl refl
  follows u input end (x ∷ xs) s g d log =
      by_number (check u (cost S x.command) s) _ _ d log
      (one_command (one_tree (row_command (one_column S) input s.counts.inputs x.command g done) d log) _ _ (λ k. refl)
      (follows u input end xs (pay (cost S x.command) s))) (alike refl refl refl)

module _ (j : ℕ) (head part log : List ℕ) where
  abbrev h : Header
  h = header_of head

  script_foreseen_lem : (x : Script)
      → (let r = replay_script j h part log x in
      let f = script_foreseen (mask_bits h) (ample_supply h) x in
      From 41 43 r.number ⊎ ((r.number ≡ f.number) × (r.place ≡ f.place) × (r.counts ≡ f.spent.counts)))
  unfolding replay_script script_foreseen lines_foreseen nothing_spent
  script_foreseen_lem (refused number place) = inr (refl, refl, refl)
  script_foreseen_lem (accepted xs end) = counts (follows _ j _ _ end xs _ _ _ log)
    where
      counts : {e : Ended Row} {f : Foreseen} → Follows e f
          → From 41 43 e.number ⊎ ((e.number ≡ f.number) × (e.place ≡ f.place) × (e.spent.counts ≡ f.spent.counts))
      counts (refuses l) = inl l
      counts (alike a b c) = inr (a, b, ap (λ (x : Spent). x.counts) c)

  pub as_foreseen : ReplayReady j head part → From 41 43 (replay j head part log).number ⊎ AsForeseen head (replay j head part log)
  unfolding replay foreseen
  as_foreseen R =
      let G = good_head head (record { header = R.header; limits = R.limits; size = R.head_length }) in
      rw ((ready j head part).0 R, G) (script_foreseen_lem (sheet_script head))

  -- 1 to 5, where these refuse
  early : first_failed (replay_tests j head part) ≢ 0 → From 1 5 (first_failed (replay_tests j head part))
  unfolding field_tests setting_tests header_tests party_tests limit_tests head_length_tests part_length_tests own_share_tests replay_tests
  early =
      failed_in (λ k. (k ≢ 0) → From 1 5 k) (λ z. absurd (z refl))
      (one (λ _. omega arith) (one (λ _. omega arith) (one (λ _. omega arith) (one (λ _. omega arith) (one (λ _. omega arith) (one (λ _. omega arith)
      (one (λ _. omega arith) (one (λ _. omega arith) none))))))))

  -- the forecast's numbers are a replay's
  of_forecast : {number : ℕ} → OfForecast number → OfReplay number
  of_forecast (inl e) = inl e
  of_forecast (inr (inl k)) = inr (inl (omega arith))
  of_forecast (inr (inr (inl k))) = inr (inr (inl k))
  of_forecast (inr (inr (inr k))) = inr (inr (inr (inl k)))

  foreseen_number : OfForecast (foreseen head).number
  foreseen_number = subst (λ (x : Forecast). OfForecast x.number) (forecasts.foreseen_ends head) (forecasts.numbers head)

  late : From 41 43 (replay j head part log).number ⊎ AsForeseen head (replay j head part log) → OfReplay (replay j head part log).number
  late (inl l) = inr (inr (inr (inr l)))
  late (inr a) = rw a.0 (of_forecast foreseen_number)

  pub numbers : OfReplay (replay j head part log).number
  unfolding replay
  numbers = go (first_failed (replay_tests j head part)) refl
    where
      go : (n : ℕ) → first_failed (replay_tests j head part) ≡ n → OfReplay (replay j head part log).number
      go zero e = late (as_foreseen ((ready j head part).1 e))
      go (suc n) e = rw e (inr (inl (rw e at (early (λ q. omega arith)))))
