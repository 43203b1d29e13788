use Rattle.std.proofs.Common.{rules, arith}
use mathlib.Core.Path.{sym}
use Rattle.algebra.proofs.Tests.{is_true}
use Rattle.model.proofs.Coding.{range_small}
use Rattle.model.proofs.Fields.{fields}
use Rattle.model.proofs.CodeEntries.{encode_accepted}
use Rattle.refusals.proofs.Numbers.{numbered}
use Rattle.field.proofs.Answers.{encode_refused, encode_done}
use Rattle.field.proofs.encode.Goals as goal

pub returns-in_err-encodable-clause-value : goal.returns-in_err-encodable-clause-value
returns-in_err-encodable-clause-value c = search (rules, encode_refused, numbered)

pub modulus-requires : goal.modulus-requires
modulus-requires c = (encode_accepted _ _ _ (sym c.in_ok-encodable.ensures)).field

pub code-requires : goal.code-requires
code-requires c =
    let A = encode_accepted _ _ _ (sym c.in_ok-encodable.ensures) in
    let small = range_small (fields _ A.field) _ _ A.least A.most (is_true _ A.range) in
    (c.modulus.ensures.1, rw c.modulus.ensures.0 (omega (arith, small)))

pub returns-clause-value : goal.returns-clause-value
returns-clause-value c = search (rules, encode_done)
