use Rattle.std.proofs.Common.{rules}
use Rattle.column_form.proofs.Written.{sheet_fits, column_fits, sheet_spaced, column_spaced, turned_over}
use Rattle.column_form.proofs.shares.turn_over.Goals as goal

pub copy_blocks-requires : goal.copy_blocks-requires
copy_blocks-requires c = search (rules, sheet_fits, column_fits, sheet_spaced, column_spaced)

pub returns : goal.returns
returns c = search (rules, turned_over)
