use Rattle.std.proofs.Common.{rules}
use borrow.Author.Tests.{tests}
use Rattle.std.proofs.lemmas.Iterator.{YieldsList-from_slice}
use Rattle.std.proofs.lemmas.Iterator.Search.{position_from_yields_List}
use Rattle.calls.proofs.Scanning.{stops, by_place}
use Rattle.calls.proofs.field.plain_length.Goals as goal

pub returns : goal.returns
returns c =
    let p = position_from_yields_List stops _ _ c.position.result c.position.ensures.ran (YieldsList-from_slice c.args.text.now cc) (λ x b q k. search (rules, tests)) in
    let f = by_place _ c.position.result p c.unwrap_or.ensures in
    record { within = f.0; plain = f.1 }
