-- MOD on one column, from the mask on: the trees of what is left to do, and what follows.
-- Assumes nothing.
use Rattle.std.specs.Prelude.{List, ℕ, ◌+◌, ◌-◌, ◌^◌, ◌≤◌, ◌<◌, take}
use Rattle.model.specs.Deal.{Row}
use Rattle.model.specs.Steps.{plus, minus, row_remainder}
use Rattle.sharing.specs.declared.setting.Setting.{Setting}
use Rattle.model.specs.Trees.{multiply, mask}
use Rattle.local.specs.declared.remainder.Publics.{Publics}
use Rattle.local.specs.Unmasking.{publics, unmasked_by}
use Rattle.column_steps.specs.declared.column.Column.{Column}
use Rattle.column_steps.specs.Reads.{own_of, Builder, compared}

-- the triples of u1 and g, and of u0 as well
abbrev pub u0_triples : ℕ → ℕ
u0_triples m = (m - 1) + 1

abbrev pub f_triples : ℕ → ℕ
f_triples m = (m - 1) + u0_triples m

-- x has the public numbers, and low the low bits of the mask
module _ (c : Column) (x : Publics) (low : List Row) where
  -- "g = f times (u1 − u0) by MUL; u = u0 + g", and the result
  abbrev pub after_u1 : Row → Row → Row → Builder
  after_u1 f u0 u1 go = multiply f (minus (own_of c) u1 u0) λ g. go (unmasked_by c.setting x low f (plus (own_of c) u0 g))

  -- "u0 is BITLT of C mod 2^m, and u1 of (C + p) mod 2^m, each against the low m bits of r", and what follows
  abbrev pub after_u0 : Row → Row → Builder
  after_u0 f u0 go = compared c x.c1 low λ u1. after_u1 f u0 u1 go

  abbrev pub after_f : Row → Builder
  after_f f go = compared c x.c0 low λ u0. after_u0 f u0 go

module _ (c : Column) (m : ℕ) where
  -- "f is BITLT of C against all ℓ bits of r", and what follows
  abbrev pub after_c : ℕ → List Row → Builder
  after_c C r go = compared c C r λ f. after_f c (publics c.setting.p m C) (take m r) f go

  -- "It opens C = X + r modulo p", and what follows
  abbrev pub from_x : Row → Builder
  from_x x go = mask x λ C r. after_c C r go

-- MOD as a step
abbrev pub modded : Column → ℕ → ℕ → Row → Builder
modded c k m a go = row_remainder (own_of c) k m a go

-- "1 ≤ m < k", and 2^k is below p
pub record KM (S : Setting) (k m : ℕ) : Type 0 where
  pub least : 1 ≤ m
  pub less : m < k
  pub most : k ≤ 30
  pub power : 2 ^ k < S.p
  pub within : m ≤ S.l
