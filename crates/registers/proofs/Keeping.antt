-- What holds a state goes on to hold the finished state: after a row was put into a register, and after a value was revealed.
-- Assumes nothing.
use mathlib.Core.Path.{◌≡◌, refl, sym, ap, ◌∙◌}
use mathlib.Core.List.{List, [], ◌∷◌, ◌++◌, append-nil, append_assoc}
use Prim.Native.Nat.{ℕ, suc, ◌*◌, ◌<◌}
use native.Mathlib.Omega.{arith}
use lib.ListN.{length, get_or, set, drop, length-append, length-drop}
use lib.Seq.{drop-cons, set-append_seam, take_at, drop_at, drop-drop}
use Rattle.algebra.specs.Lists.{onto, onto_at}
use Rattle.algebra.proofs.Lists.{length_onto_at}
use Rattle.model.specs.Deal.{Setting, Row, no_row}
use Rattle.model.specs.Steps.{Step, written, value, by_rows}
use Rattle.model.specs.Script.{Command, REVEAL}
use Rattle.model.specs.Commands.{command}
use Rattle.model.specs.Run.{State, register, perform, finish}
use Rattle.model.proofs.StepLaws.{Puts, finish_put}
use Rattle.model.proofs.Written.{written_append}
use Rattle.registers.specs.Cells.{register_in}
use Rattle.registers.specs.Holding.{Lent, lent, Carries}
use Rattle.registers.proofs.Cells.{get_seven, set_seven}

-- written behind what was written
pub over_more : (xs vs ws : List ℕ) (i : ℕ) → i ≡ length vs → onto_at i ws (onto vs xs) ≡ onto (vs ++ ws) xs
unfolding onto onto_at
over_more xs vs ws i e = rw (e, take_at vs _ (length vs) refl, drop_at vs _ (length vs) refl, drop-drop, length-append, append_assoc)

-- one value more
over_set : (vs xs : List ℕ) (v : ℕ) → length vs < length xs → set (onto vs xs) (length vs) v ≡ onto (vs ++ (v ∷ [])) xs
unfolding onto
over_set vs xs v h =
    let e : length (vs ++ (v ∷ [])) ≡ suc (length vs) = length-append vs (v ∷ []) ∙ omega arith in
    rw (drop-cons xs (length vs) 0 h, e) (set-append_seam vs _ _ v ∙ sym (append_assoc vs (v ∷ []) _))

-- a place behind what was written lies in the list that was written over
behind : (vs xs : List ℕ) → length vs < length (onto vs xs) → length vs < length xs
unfolding onto
behind vs xs h = omega (arith, length-append vs (drop (length vs) xs), length-drop (length vs) xs)

module _ {S : Setting} {log₀ shown₀ : List ℕ} {m : Lent} {x : State} (C : Carries S log₀ shown₀ m x) where
  -- a register's row
  pub register_is : (a : ℕ) → a < 64 → register_in m.cells a ≡ register x a
  register_is a h = sym (get_seven 64 m.cells a h) ∙ ap (λ (rows : List Row). get_or rows a no_row) C.registers

  -- what a step opened stands after what was opened before
  pub log_more : (rows : List Row) (i : ℕ) → i ≡ length (written S x.opened)
      → onto_at i (written S rows) m.log ≡ onto (written S (x.opened ++ rows)) log₀
  log_more rows i e = rw (C.log, over_more log₀ (written S x.opened) (written S rows) i e, written_append)

  pub log_same : m.log ≡ onto (written S (x.opened ++ [])) log₀
  log_same = C.log ∙ rw append-nil

  module _ (input : List Row) (c : Command) where
    -- a command that leaves the row of a step in register d
    pub carries_put : (d : ℕ) (z : Row) (st : Step) {log : List ℕ} → Puts S input c d x st → d < 64 → length z ≡ 7 → z ≡ st.left
        → log ≡ onto (written S (x.opened ++ st.opened)) log₀ → Carries S log₀ shown₀ (lent (onto_at (7 * d) z m.cells) log m.shown) (finish S input c x)
    carries_put d z st p h seven e l =
        rw (finish_put S input c d x st p, ← e)
        (record {
          size = length_onto_at (7 * d) z m.cells (omega (arith, C.size)) ∙ C.size;
          registers = set_seven 64 m.cells d z h (omega (arith, C.size)) seven ∙ ap (λ (rows : List Row). set rows d z) C.registers;
          log = l;
          shown = C.shown;
        })

  -- REVEAL
  pub carries_reveal : (input : List Row) (a v i : ℕ) {row : Row} {log : List ℕ} → a < 64 → row ≡ register_in m.cells a → v ≡ value S row
      → i ≡ length (written S x.opened) → log ≡ onto_at i (written S (row ∷ [])) m.log → length x.shown < length m.shown
      → Carries S log₀ shown₀ (lent m.cells log (set m.shown (length x.shown) v)) (finish S input (REVEAL a) x)
  unfolding finish perform command by_rows
  carries_reveal input a v i h er ev ei el room =
      let e = er ∙ register_is a h in
      rw (ev, el, e)
      (record {
        size = C.size;
        registers = C.registers;
        log = log_more (register x a ∷ []) i ei;
        shown = rw C.shown (over_set x.shown shown₀ _ (behind x.shown shown₀ (rw C.shown at room)));
      })
