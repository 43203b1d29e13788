-- A record that is not too short decides all, whatever follows it: opening by opening, tree by tree, line by line.
-- Assumes nothing.
use mathlib.Core.Path.{◌≡◌, refl, sym, ap}
use mathlib.Core.Logic.{◌≢◌}
use mathlib.Core.List.{List, [], ◌∷◌, ◌++◌}
use Prim.Native.Nat.{ℕ, zero, suc, ◌≤◌, ◌<◌}
use native.Mathlib.Decide.{dec_le}
use native.Mathlib.Omega.{arith}
use borrow.Author.Tests.{le-leb, lt-leb}
use lib.ListN.{length, length-append, get_or-append}
use lib.Seq.{drop-append-le}
use Rattle.algebra.proofs.Rows.{row_ext}
use Rattle.model.specs.Refusing.{first_failed, given}
use Rattle.model.specs.Deal.{Setting, Row, Deal}
use Rattle.model.specs.Trees.{Tree, done, multiply, mask, reveal}
use Rattle.model.specs.Script.{Line, Script, accepted, refused}
use Rattle.model.specs.Costs.{cost}
use Rattle.model.specs.Checks.{Spent, Supply, check, pay}
use Rattle.model.specs.Commands.{Ended, through_lines}
use Rattle.model.specs.Sheet.{header_of}
use Rattle.model.specs.Run.{row_command, sheet_script}
use Rattle.model.specs.Replay.{Read, stopped, finished, one_column, own_share, opening, opening_tests, opening_number, from_record, by_record, onward, replay_lines, replayed_by, replay_tests, nothing_replayed, replay_script, replay}
use Rattle.model.proofs.Trying.{fails}

-- The next opening is in the record, or the record is too short.
module _ (p n t j own : ℕ) (log : List ℕ) where
  pub too_short : length log < n → opening_number p n t j own log ≡ 43
  unfolding opening_tests
  too_short k = sym (fails 43 _ (lt-leb n (length log) k))

  module _ (more : List ℕ) (k : n ≤ length log) where
    same_opening : opening p n t (log ++ more) ≡ opening p n t log
    unfolding opening
    same_opening = row_ext n _ _ (λ i l. get_or-append log more 0 i (omega arith))

    same_number : opening_number p n t j own (log ++ more) ≡ opening_number p n t j own log
    unfolding opening_tests
    same_number = rw (same_opening, le-leb n (length (log ++ more)) (rw length-append (omega arith)), le-leb n (length log) k) refl

module _ (more : List ℕ) where
  -- A tree read from a record, and from the record with more: the record is too short, or both come to the same, and what is left of it has more.
  data More {A : Type 0} : Read A → Read A → Type 0 where
    short : {y : Read A} → More (stopped 43) y
    stops : {number : ℕ} → More (stopped number) (stopped number)
    finishes : {x : A} {d : Deal} {log : List ℕ} → More (finished x d log) (finished x d (log ++ more))

  module _ (S : Setting) (j : ℕ) where
    one_opening : {A : Type 0} (x : Row) (log : List ℕ) (go : ℕ → List ℕ → Read A)
        → ((v : ℕ) (rest : List ℕ) → More (go v rest) (go v (rest ++ more))) → More (from_record S j x log go) (from_record S j x (log ++ more) go)
    unfolding from_record
    one_opening {A = A} x log go h = pick (dec_le S.n (length log))
      where
        either : (number : ℕ) {a b : Read A} → More a b → More (given number a (stopped number)) (given number b (stopped number))
        either zero h = h
        either (suc number) h = stops

        pick : Dec (S.n ≤ length log) → More (from_record S j x log go) (from_record S j x (log ++ more) go)
        pick (no k) = rw (too_short S.p S.n S.t j (own_share x) log (omega arith)) short
        pick (yes k) =
            let own = own_share x in
            rw (same_number S.p S.n S.t j own log more k, same_opening S.p S.n S.t j own log more k, drop-append-le S.n log more k)
            (either (opening_number S.p S.n S.t j own log) (h _ _))

    one_tree : {A : Type 0} (T : Tree Row A) (d : Deal) (log : List ℕ) → More (by_record S j T d log) (by_record S j T d (log ++ more))
    unfolding by_record
    one_tree (done x) d log = finishes
    one_tree (multiply x y go) d log =
        one_opening _ log _ λ a1 log₁. one_opening _ log₁ _ λ b1 log₂. one_tree (go _) _ log₂
    one_tree (mask x go) d log = one_opening _ log _ λ C log₁. one_tree (go C _) _ log₁
    one_tree (reveal x rest) d log = one_opening _ log _ λ v log₁. one_tree rest d log₁

    -- lines, from a record and from the record with more
    abbrev Lasts : Ended Row → Ended Row → Type 0
    Lasts e f = e.number ≢ 43 → f ≡ e

    one_command : {x y : Read (List Row)} → More x y → (refusal : ℕ → Ended Row) (go : List Row → Deal → List ℕ → Ended Row)
        → ((k : ℕ) → (refusal k).number ≡ k) → ((g : List Row) (d : Deal) (log : List ℕ) → Lasts (go g d log) (go g d (log ++ more))) → Lasts (onward S j refusal go x) (onward S j refusal go y)
    one_command short refusal go e h z = absurd (z (e 43))
    one_command stops refusal go e h z = refl
    one_command finishes refusal go e h z = h _ _ _ z

    by_number : (number : ℕ) (f r : Deal → List ℕ → Ended Row) (d : Deal) (log : List ℕ) → Lasts (f d log) (f d (log ++ more))
        → Lasts (r d log) (r d (log ++ more)) → Lasts (given number f r d log) (given number f r d (log ++ more))
    by_number zero f r d log h k = h
    by_number (suc number) f r d log h k = k

    lines_last : (u : Supply) (input : List Row) (end : ℕ) (xs : List Line) (s : Spent) (g : List Row) (d : Deal) (log : List ℕ)
        → Lasts (replay_lines S j u input end xs s g d log) (replay_lines S j u input end xs s g d (log ++ more))
    unfolding replay_lines through_lines
    lines_last u input end [] s g d log = λ _. refl
    lines_last u input end (x ∷ xs) s g d log =
        by_number (check u (cost S x.command) s) _ _ d log
        (one_command (one_tree (row_command (one_column S) input s.counts.inputs x.command g done) d log) _ _ (λ k. refl)
        (lines_last u input end xs (pay (cost S x.command) s))) (λ _. refl)

-- "Record left over after END is ignored.", and after a refusal that is not 43
pub left_over : (j : ℕ) (head part log more : List ℕ) → (replay j head part log).number ≢ 43 → replay j head part (log ++ more) ≡ replay j head part log
unfolding replay replay_script
left_over j head part log more = tests (first_failed (replay_tests j head part))
  where
    script : (x : Script) → (replay_script j (header_of head) part log x).number ≢ 43
        → replay_script j (header_of head) part (log ++ more) x ≡ replay_script j (header_of head) part log x
    script (refused number place) z = refl
    script (accepted xs end) z = ap replayed_by (lines_last more _ j _ _ end xs _ _ _ log z)

    tests : (k : ℕ) → (given k (replay_script j (header_of head) part log (sheet_script head)) (nothing_replayed k 0)).number ≢ 43
        → given k (replay_script j (header_of head) part (log ++ more) (sheet_script head)) (nothing_replayed k 0)
        ≡ given k (replay_script j (header_of head) part log (sheet_script head)) (nothing_replayed k 0)
    tests zero z = script (sheet_script head) z
    tests (suc k) z = refl
