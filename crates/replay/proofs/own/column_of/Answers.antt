use Rattle.replay.proofs.Owning.{framed_modulus, column_for}
use Rattle.replay.proofs.own.column_of.Goals as goal

pub alone-opening-requires : goal.alone-opening-requires
alone-opening-requires c = framed_modulus c.requires

pub returns : goal.returns
returns c = column_for c.requires c.reader_for-reader.ensures c.alone-opening.ensures
