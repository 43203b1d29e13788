-- MOD from C on: the trees of what is left to do.
-- Assumes nothing.
use Rattle.std.specs.Prelude.{List, ℕ, ◌+◌, ◌-◌, take}
use Rattle.model.specs.Steps.{Row, row_ops, plus, minus}
use Rattle.model.specs.Trees.{Tree, done, multiply, comparison}
use Rattle.sharing.specs.Settings.{setting_of}
use Rattle.sharing.specs.declared.setting.Setting.{Setting}
use Rattle.local.specs.declared.remainder.Publics.{Publics}
use Rattle.local.specs.Unmasking.{publics, unmasked_by}

-- the triples of u0, u1 and g, which follow f's
abbrev pub f_triples : ℕ → ℕ
f_triples m = (m - 1) + ((m - 1) + 1)

-- x has the public numbers, and low the low bits of the mask
module _ (S : Setting) (x : Publics) (low : List Row) where
  -- "g = f times (u1 − u0) by MUL; u = u0 + g", and the result
  abbrev pub after_u1 : Row → Row → Row → Tree Row Row
  after_u1 f u0 u1 = multiply f (minus (setting_of S) u1 u0) λ g. done (unmasked_by S x low f (plus (setting_of S) u0 g))

  -- "u0 is BITLT of C mod 2^m, and u1 of (C + p) mod 2^m, each against the low m bits of r", and what follows
  abbrev pub after_f : Row → Tree Row Row
  after_f f = comparison (row_ops (setting_of S)) x.c0 low λ u0. comparison (row_ops (setting_of S)) x.c1 low λ u1. after_u1 f u0 u1

module _ (S : Setting) (m : ℕ) where
  -- "f is BITLT of C against all ℓ bits of r", and what follows
  abbrev pub after_c : ℕ → List Row → Tree Row Row
  after_c C r = comparison (row_ops (setting_of S)) C r λ f. after_f S (publics S.p m C) (take m r) f
