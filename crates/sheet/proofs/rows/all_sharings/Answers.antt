use Rattle.std.proofs.Common.{rules, ℕ, List, Bool, ◌≡◌, ◌+◌, ◌*◌, refl, get_or}
use mathlib.Core.Path.{ap, ◌∙◌}
use native.Mathlib.Omega.{arith}
use Rattle.std.proofs.lemmas.Iterator.{YieldsList-from_range}
use Rattle.std.proofs.lemmas.Iterator.Search.{all_from_yields_List}
use Rattle.algebra.specs.Rows.{row}
use Rattle.algebra.proofs.Rows.{row_again}
use Rattle.model.specs.Bytes.{row_at}
use Rattle.model.specs.Sharing.{is_sharing}
use Rattle.sheet.proofs.Runs.{all_run, rows_run}
use Rattle.sheet.proofs.rows.all_sharings.Goals as goal

-- the test of a row that was read, which asks about its first n cells
sharing-read : (p n t : ℕ) (s : List ℕ) (from : ℕ) {x : List ℕ} {a : Bool} → x ≡ row_at s n from → a ≡ is_sharing p n t (row n (λ j. get_or x j 0))
    → a ≡ is_sharing p n t (row_at s n from)
unfolding row_at
sharing-read p n t s from e r = rw e at r ∙ ap (is_sharing p n t) (row_again n _)

pub returns : goal.returns
returns c =
    all_from_yields_List (λ k. is_sharing c.args.p c.args.n c.args.t (row_at c.args.s.now c.args.n (c.args.i + 4 * c.args.n * k))) _ _ c.all.result c.all.ensures.ran
    (YieldsList-from_range 0 c.args.count c.args.count refl (omega arith)) (λ x b q k. search (rules, sharing-read))
    ∙ all_run (λ x. is_sharing c.args.p c.args.n c.args.t x) (rows_run c.args.s.now c.args.n) c.args.i c.args.count
