-- `step::perform` meets its contract: by the command.
-- Assumes nothing.
use mathlib.Core.Path.{refl, ap}
use Prim.Native.Nat.{◌^◌, ◌<◌}
use lib.ListN.{length}
use borrow.Author.Rules.{rules}
use Rattle.model.specs.Costs.{cost_by}
use Rattle.costs.specs.Costing.{counts_of}
use Rattle.cuts.specs.declared.cut.Cut.TheVariants.{Mod, Trunc, Ltz, Over, Blocks}
use Rattle.registers.specs.declared.table.Table.{Table}
use Rattle.registers.specs.Holding.{lent}
use Rattle.registers.proofs.Readiness.{input_fits}
use Rattle.machine.proofs.Commands.{load_performs, fill_performs, add_performs, sub_performs, scale_performs}
use Rattle.machine.proofs.Matching.{Known, reached, fits, ready, says, done, has_room, multiply_done, compare_done, reveal_asks, reveal_done, signs_asks, signs_done, cut_asks, cut_done}
use Rattle.machine.proofs.step.perform.Statement.{statement}
use Rattle.machine.proofs.step.perform.Tie as tie

places-of-requires : tie.Need-places_of-at-requires
places-of-requires c κs =
    let hs : length c.args.s.now < 2 ^ 64 = search rules in
    let hl : length c.args.log.now < 2 ^ 64 = search rules in
    reached c.requires hs hl

-- before the match
abbrev start : tie.After-places_of-at → tie.Start
start c = c.before.before.before.before.before.before

known : (c : tie.After-places_of-at)
    → Known (start c).args.s.now (start c).args.f (counts_of (start c).args.table.spent.counts) (start c).args.c
    (lent (start c).args.table.cells (start c).args.log.now (start c).args.revealed.now) c.setting-setting.result c.places_of-at.result
known c = record { is_ready = (start c).requires; setting = c.setting-setting.ensures; places = c.places_of-at.ensures }

load-requires : tie.Need-load-requires
unfolding cost_by
load-requires c κs =
    let K = known c.before in
    let R = ready K c.in-Load.is in
    (R.framed.headed.parties.most, input_fits R.framed (counts_of (start c.before).args.table.spent.counts) R.inputs, (says K c.in-Load.is).0)

fill-requires : tie.Need-fill-requires
fill-requires c κs = let K = known c.before in (fits K, (says K c.in-Const.is).0)

add-requires : tie.Need-add-requires
add-requires c κs =
    let K = known c.before in
    let r = says K c.in-Add.is in
    (fits K, r.0, r.1.0, r.1.1.0)

sub-requires : tie.Need-sub-requires
sub-requires c κs =
    let K = known c.before in
    let r = says K c.in-Sub.is in
    (fits K, r.0, r.1.0, r.1.1.0)

scale-requires : tie.Need-scale-requires
scale-requires c κs =
    let K = known c.before in
    let r = says K c.in-Scale.is in
    (fits K, r.0, r.1.0)

multiply-requires : tie.Need-multiply-requires
unfolding cost_by
multiply-requires c κs =
    let K = known c.before.before in
    let e = c.in-Mul.is in
    let r = says K e in
    (has_room K e 1 (ready K e).triples (ready K e).room, r.0, r.1.0, r.1.1.0)

cut-requires : tie.Need-cut-requires
cut-requires c κs = cut_asks (known c.before.before) c.in-Mod.is _ _ (Mod _ _) refl

cut-requires-2 : tie.Need-cut-requires-in-Trunc
cut-requires-2 c κs = cut_asks (known c.before.before) c.in-Trunc.is _ _ (Trunc _ _) refl

cut-requires-3 : tie.Need-cut-requires-in-Ltz
cut-requires-3 c κs = cut_asks (known c.before.before) c.in-Ltz.is _ _ (Ltz _) refl

cut-requires-4 : tie.Need-cut-requires-in-Over
cut-requires-4 c κs = cut_asks (known c.before.before) c.in-Over.is _ _ (Over _ _) refl

cut-requires-5 : tie.Need-cut-requires-in-Blocks
cut-requires-5 c κs = cut_asks (known c.before.before) c.in-Blocks.is _ _ (Blocks _ _) refl

reveal-requires : tie.Need-reveal-requires
reveal-requires c κs = reveal_asks (known c.before.before.before) c.in-Reveal.is refl

compare-requires : tie.Need-compare-requires
unfolding cost_by
compare-requires c κs =
    let K = known c.before.before in
    let e = c.in-Bitlt.is in
    let r = says K e in
    (has_room K e _ (ready K e).triples (ready K e).room, r.0, r.1.1.0, r.1.1.1.0, r.1.1.1.1.0)

signs-requires : tie.Need-signs-requires
signs-requires c κs =
    let K = known c.before.before in
    signs_asks K c.in-Ltzs.is refl

returns : tie.Need-returns-in-Load
returns c =
    let K = known c.before.before in
    let e = c.in-Load.is in
    (c.load.ensures.1, done K e (load_performs (ready K e) c.load.ensures.0))

returns-2 : tie.Need-returns-in-Const
returns-2 c =
    let K = known c.before.before in
    let e = c.in-Const.is in
    (c.fill.ensures.1, done K e (fill_performs (ready K e) (rw K.setting at c.fill.ensures.0)))

returns-3 : tie.Need-returns-in-Add
returns-3 c =
    let K = known c.before.before in
    let e = c.in-Add.is in
    (c.add.ensures.1, done K e (add_performs (ready K e) (rw K.setting at c.add.ensures.0)))

returns-4 : tie.Need-returns-in-Sub
returns-4 c =
    let K = known c.before.before in
    let e = c.in-Sub.is in
    (c.sub.ensures.1, done K e (sub_performs (ready K e) (rw K.setting at c.sub.ensures.0)))

returns-5 : tie.Need-returns-in-Scale
returns-5 c =
    let K = known c.before.before in
    let e = c.in-Scale.is in
    (c.scale.ensures.1, done K e (scale_performs (ready K e) (rw K.setting at c.scale.ensures.0)))

returns-6 : tie.Need-returns-in-Mul
returns-6 c =
    let K = known c.before.before.before.before.before in
    let e = c.in-Mul.is in
    (c.multiply.ensures.1, multiply_done K e refl c.multiply.ensures.0)

returns-7 : tie.Need-returns-in-Mod
returns-7 c =
    let K = known c.before.before.before.before.before in
    (c.cut.ensures.1, cut_done K c.in-Mod.is _ _ (Mod _ _) refl c.cut.ensures.0)

returns-8 : tie.Need-returns-in-Trunc
returns-8 c =
    let K = known c.before.before.before.before.before in
    (c.cut-in-Trunc.ensures.1, cut_done K c.in-Trunc.is _ _ (Trunc _ _) refl c.cut-in-Trunc.ensures.0)

returns-9 : tie.Need-returns-in-Ltz
returns-9 c =
    let K = known c.before.before.before.before.before in
    (c.cut-in-Ltz.ensures.1, cut_done K c.in-Ltz.is _ _ (Ltz _) refl c.cut-in-Ltz.ensures.0)

returns-10 : tie.Need-returns-in-Over
returns-10 c =
    let K = known c.before.before.before.before.before in
    (c.cut-in-Over.ensures.1, cut_done K c.in-Over.is _ _ (Over _ _) refl c.cut-in-Over.ensures.0)

returns-11 : tie.Need-returns-in-Blocks
returns-11 c =
    let K = known c.before.before.before.before.before in
    (c.cut-in-Blocks.ensures.1, cut_done K c.in-Blocks.is _ _ (Blocks _ _) refl c.cut-in-Blocks.ensures.0)

returns-12 : tie.Need-returns-in-Reveal
returns-12 c =
    let K = known c.before.before.before.before.before.before.before.before in
    let e = c.in-Reveal.is in
    let same = c.reveal.ensures.1 in
    (ap (λ (t : Table). t.spent) same, reveal_done K e refl (ap (λ (t : Table). t.cells) same) c.reveal.ensures.0)

returns-13 : tie.Need-returns-in-Bitlt
returns-13 c =
    let K = known c.before.before.before.before.before in
    let e = c.in-Bitlt.is in
    (c.compare.ensures.1, compare_done K e refl c.compare.ensures.0)

returns-14 : tie.Need-returns-in-Ltzs
returns-14 c =
    let K = known c.before.before.before.before.before in
    let e = c.in-Ltzs.is in
    (c.signs.ensures.0, signs_done K e refl c.signs.ensures.1)

pub perform_spec : {M : Type 1} → statement M
perform_spec =
    tie.close
    (tie.spec (λ c κs. search rules) places-of-requires (λ c. search rules) load-requires (λ c. search rules) fill-requires (λ c. search rules) add-requires (λ c. search rules) sub-requires (λ c. search rules) scale-requires (λ c. search rules) multiply-requires (λ c. search rules) cut-requires (λ c. search rules) cut-requires-2 (λ c. search rules) cut-requires-3 (λ c. search rules) cut-requires-4 (λ c. search rules) cut-requires-5 (λ c. search rules) reveal-requires (λ c. search rules) compare-requires (λ c. search rules) signs-requires returns returns-2 returns-3 returns-4 returns-5 (λ c. search rules) returns-6 (λ c. search rules) returns-7 (λ c. search rules) returns-8 (λ c. search rules) returns-9 (λ c. search rules) returns-10 (λ c. search rules) returns-11 (λ c. search rules) (λ c. search rules) returns-12 (λ c. search rules) returns-13 (λ c. search rules) returns-14)
