use Rattle.std.proofs.Common.{rules}
use Rattle.presence.proofs.Presences.{modulus_of}
use Rattle.from_record.proofs.Values.{all_give, none_gives}
use Rattle.from_record.proofs.value_of.Goals as goal

pub value_of_all-requires : goal.value_of_all-requires
value_of_all-requires c = search (rules, modulus_of)

pub returns-in-Ok : goal.returns-in-Ok
returns-in-Ok c log G = let W = c.windows_for-windows.ensures in all_give (search (rules, modulus_of)) c.requires.0.parties log G W.1 W.0 c.in-Ok.ensures

pub returns-in-Err : goal.returns-in-Err
returns-in-Err c log G = let W = c.windows_for-windows.ensures in none_gives (search (rules, modulus_of)) c.requires.0.parties log G W.1 W.0 c.in-Err.ensures.0
