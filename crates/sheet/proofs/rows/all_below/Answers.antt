use Rattle.std.proofs.Common.{rules, ◌+◌, ◌*◌, refl}
use mathlib.Core.Path.{sym, ◌∙◌}
use native.Mathlib.Omega.{arith}
use lib.Dec.{ltb}
use borrow.Author.Tests.{tests}
use Rattle.std.proofs.lemmas.Iterator.{YieldsList-from_range}
use Rattle.std.proofs.lemmas.Iterator.Search.{all_from_yields_List}
use Rattle.model.specs.Bytes.{number}
use Rattle.sheet.proofs.Runs.{all_run}
use Rattle.sheet.proofs.Words.{words_run, rows_below}
use Rattle.sheet.proofs.rows.all_below.Goals as goal

pub returns : goal.returns
returns c =
    all_from_yields_List (λ k. ltb (number 4 c.args.s.now (c.args.i + 4 * k)) c.args.p) _ _ c.all.result c.all.ensures.ran
    (YieldsList-from_range 0 (c.args.n * c.args.count) (c.args.n * c.args.count) refl (omega arith)) (λ x b q k. search (rules, tests))
    ∙ all_run (λ x. ltb x c.args.p) (words_run c.args.s.now) c.args.i (c.args.n * c.args.count)
    ∙ sym (rows_below c.args.s.now c.args.p c.args.n c.args.i c.args.count)
