-- `step::setting_of` meets its contract: a field in use stands in the table, and everyone is a permitted set.
-- Assumes nothing.
use Rattle.std.proofs.Common.{rules, arith, ℕ, ◌≡◌, sym, subst, ◌∙◌}
use Rattle.model.specs.Fields.{InUse, Parties, modulus, bits}
use Rattle.model.specs.Presence.{everyone, PermittedSet}
use Rattle.model.proofs.Fields.{below_four, fields}
use Rattle.model.proofs.Presence.{all_permitted}
use Rattle.presence.specs.Openings.{WorkedBy}
use Rattle.presence.specs.declared.Opening.{Opening}
use Rattle.sharing.specs.Settings.{Fitting}
use Rattle.step_cases.proofs.step.setting_of.Goals as goal

all : (n t : ℕ) {a b : ℕ} → Parties n t → a ≡ everyone n → b ≡ a → PermittedSet n t b
all n t P e q = subst (PermittedSet n t) (sym (q ∙ e)) (all_permitted n t (omega (arith, P)))

fits : (f n t : ℕ) {p l : ℕ} {o : Opening} → InUse f → Parties n t → p ≡ modulus f → l ≡ bits f → WorkedBy (modulus f) n t o
    → Fitting (record { p = p; l = l; n = n; t = t; opening = o })
fits f n t u P ep el O =
    record {
      modulus = rw ep (fields f u).modulus_is;
      parties = P.most;
      threshold = omega (arith, P);
      bits = rw el (omega (arith, (fields f u).k_most, (fields f u).k_is));
      opens = rw ep O;
    }

pub bits-l-requires : goal.bits-l-requires
bits-l-requires c = search (rules, below_four)

pub opening_of-opening-requires : goal.opening_of-opening-requires
opening_of-opening-requires c = (c.requires.0, c.requires.1, search (rules, all))

pub returns : goal.returns
returns c = (search (rules, fits), search rules)
