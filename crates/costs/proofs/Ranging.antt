-- The operands' ranges of a command that the code has matched.
-- Assumes nothing.
use mathlib.Core.Path.{◌≡◌, subst}
use Prim.Native.Nat.{ℕ}
use lib.Dec.{T}
use Rattle.model.specs.Script.{ranges, in_ranges}
use Rattle.model.proofs.Operands.{AllSay, operands}
use Rattle.script.specs.declared.command.Command.{Command}
use Rattle.script.specs.Meaning.{meant}

pub ranged : (p K : ℕ) {c c' : Command} → T (in_ranges p K (meant c)) → c ≡ c' → AllSay (ranges p K (meant c'))
ranged p K {c' = c'} t e = operands p K (meant c') (subst (λ (x : Command). T (in_ranges p K (meant x))) e t)
