-- `cutting::by_length` meets its contract: header and script of a whole sheet.
-- Assumes nothing.
use Rattle.forecast.proofs.Taking.{whole_sheet}
use Rattle.forecast.proofs.cutting.by_length.Goals as goal

pub returns-then-has_implied_length : goal.returns-then-has_implied_length
returns-then-has_implied_length c = whole_sheet _ c.requires c.has_implied_length.ensures c.if-has_implied_length.true
