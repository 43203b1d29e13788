use Rattle.std.proofs.Common.{arith}
use mathlib.Core.Path.{sym, ◌∙◌}
use borrow.Author.Rules.{sfits_of}
use Rattle.model.proofs.Coding.{reads_up, reads_down}
use Rattle.field.proofs.Signs.{held_is}
use Rattle.field.proofs.coding.read_back.Goals as goal

pub returns-then-v-half : goal.returns-then-v-half
returns-then-v-half c =
    let v = c.from.ensures in
    held_is (sfits_of c.signed.type_inv) ∙ c.signed.ensures ∙ rw v (sym (reads_up _ _ (omega arith)))

pub returns-else-v-half : goal.returns-else-v-half
returns-else-v-half c =
    let v = c.from-else-v-half.ensures in
    held_is (sfits_of c.signed-else-v-half.type_inv) ∙ c.signed-else-v-half.ensures ∙ rw v (sym (reads_down _ _ (omega arith) (omega arith)))
