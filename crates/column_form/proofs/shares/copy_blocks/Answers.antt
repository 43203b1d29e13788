use mathlib.Core.Logic.{inl, inr}
use native.Mathlib.Omega.{arith}
use Rattle.column_form.proofs.Blocks.{block_fits, block_copied}
use Rattle.column_form.proofs.shares.copy_blocks.Goals as goal

pub copy_rows-requires : goal.copy_rows-requires
copy_rows-requires c = (
  block_fits c.loop-i.i c.requires.0 c.further_on-read.ensures (omega arith),
  block_fits c.loop-i.i c.requires.1 c.further_on-write.ensures (omega arith),
  omega arith,
)

pub loop-i-preserved : goal.loop-i-preserved
loop-i-preserved c =
    block_copied c.min-count.result c.loop-i.invariant c.requires.0 c.requires.1 c.requires.2 c.requires.3 c.copy_rows.ensures c.further_on-read.ensures
    c.further_on-write.ensures (omega arith) (inr (omega arith))

pub returns-2 : goal.returns-2
returns-2 c =
    block_copied c.min-count.result c.loop-i.invariant c.requires.0 c.requires.1 c.requires.2 c.requires.3 c.copy_rows.ensures c.further_on-read.ensures
    c.further_on-write.ensures (omega arith) (inl (omega arith))
