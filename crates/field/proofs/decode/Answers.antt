use Rattle.std.proofs.Common.{rules}
use mathlib.Core.Path.{sym}
use Rattle.model.proofs.CodeEntries.{decode_accepted}
use Rattle.refusals.proofs.Numbers.{numbered}
use Rattle.field.proofs.Answers.{decode_refused, decode_done}
use Rattle.field.proofs.decode.Goals as goal

pub returns-in_err-decodable-clause-value : goal.returns-in_err-decodable-clause-value
returns-in_err-decodable-clause-value c = search (rules, decode_refused, numbered)

pub modulus-requires : goal.modulus-requires
modulus-requires c = (decode_accepted _ _ (sym c.in_ok-decodable.ensures)).field

pub read_back-requires : goal.read_back-requires
read_back-requires c = (c.modulus.ensures.1, rw c.modulus.ensures.0 (decode_accepted _ _ (sym c.in_ok-decodable.ensures)).below)

pub returns-clause-value : goal.returns-clause-value
returns-clause-value c = search (rules, decode_done)
