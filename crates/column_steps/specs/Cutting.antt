-- MOD, TRUNC, LTZ, OVER and BLOCKS on one column, as steps.
-- Assumes nothing.
use Rattle.model.specs.Deal.{Row}
use Rattle.model.specs.Steps.{row_ops, row_remainder}
use Rattle.model.specs.Trees.{floor, sign, over, blocks}
use Rattle.cuts.specs.declared.cut.Cut.{Cut}
use Rattle.cuts.specs.declared.cut.Cut.TheVariants.{Mod, Trunc, Ltz, Over, Blocks}
use Rattle.column_steps.specs.declared.column.Column.{Column}
use Rattle.column_steps.specs.Reads.{own_of, Builder}

abbrev pub cut_tree : Column → Cut → Row → Builder
cut_tree c (Mod k m) a go = row_remainder (own_of c) k m a go
cut_tree c (Trunc k m) a go = floor c.setting.p (row_ops (own_of c)) (row_remainder (own_of c)) k m a go
cut_tree c (Ltz k) a go = sign c.setting.p (row_ops (own_of c)) (row_remainder (own_of c)) k a go
cut_tree c (Over k v) a go = over c.setting.p (row_ops (own_of c)) (row_remainder (own_of c)) k v a go
cut_tree c (Blocks k m) a go = blocks c.setting.p (row_ops (own_of c)) (row_remainder (own_of c)) k m a go
