-- `windows::value_at` meets its contract: the window's opening, worked.
-- Assumes nothing.
use Prim.Native.Nat.{ℕ}
use Rattle.model.specs.Presence.{openers}
use Rattle.model.specs.Sharing.{value_from}
use Rattle.model.specs.Steps.{value}
use Rattle.from_record.proofs.Windowing.{fits}
use borrow.Author.Rules.{rules}
use mathlib.Core.Path.{refl, ap, ◌∙◌}
use Rattle.from_record.proofs.windows.value_at.Statement.{statement}
use Rattle.from_record.proofs.windows.value_at.Tie as tie

opened-value-requires : tie.Need-opened_value-requires
opened-value-requires c κs =
    (fits _ c.requires.0 c.requires.1 refl refl refl refl (c.requires.2.worked c.args.z c.requires.3 _), c.requires.4)

returns : tie.Need-returns
unfolding value
returns c =
    let set = c.requires.2.sets c.args.z c.requires.3 _ in
    (c.opened_value.ensures.0 ∙ ap (λ (b : ℕ). value_from c.args.p (openers c.args.n c.args.t b) c.args.row.shares) set, c.opened_value.ensures.1)

pub value_at_spec : {M : Type 1} → statement M
value_at_spec = tie.close (tie.spec (λ c. search rules) (λ c. search rules) opened-value-requires returns)
