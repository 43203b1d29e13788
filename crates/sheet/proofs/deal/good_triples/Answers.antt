use Rattle.std.proofs.Common.{rules, ◌+◌, ◌*◌, refl}
use mathlib.Core.Path.{◌∙◌}
use native.Mathlib.Omega.{arith}
use Rattle.std.proofs.lemmas.Iterator.{YieldsList-from_range}
use Rattle.std.proofs.lemmas.Iterator.Search.{all_from_yields_List}
use Rattle.model.specs.Sheet.{triple_at, good_triple}
use Rattle.sharing.specs.Settings.{setting_of}
use Rattle.sheet.proofs.Runs.{all_run, triples_run}
use Rattle.sheet.proofs.deal.good_triples.Goals as goal

pub returns : goal.returns
returns c =
    all_from_yields_List (λ k. good_triple (setting_of c.args.setting) (triple_at c.args.s.now c.args.setting.n (c.args.i + 4 * c.args.setting.n * 3 * k))) _ _
    c.all.result c.all.ensures.ran (YieldsList-from_range 0 c.args.count c.args.count refl (omega arith)) (λ x b q k. search rules)
    ∙ all_run (good_triple (setting_of c.args.setting)) (triples_run c.args.s.now c.args.setting.n) c.args.i c.args.count
