-- An entry of the table of the four fields is the model's, by one computed test over the table.
-- Assumes nothing.
use mathlib.Core.Path.{◌≡◌, refl, sym}
use mathlib.Core.Bool.{Bool, true, false}
use mathlib.Core.List.{List}
use Prim.Native.Nat.{ℕ, ◌+◌, ◌*◌, ◌/◌, ◌%◌, ◌<◌}
use native.Mathlib.Omega.{arith}
use borrow.Author.Tests.{ltb-true, ltb-false}
use lib.Dec.{T, ltb, eqb, eqb→eq}
use lib.ListN.{get_or}
use Rattle.algebra.proofs.Tests.{every, every_at, is_true, is_false}
use Rattle.model.specs.Fields.{InUse, Modulus, in_use, modulus, inverse}
use Rattle.model.proofs.Fields.{below_four, fields}
use Rattle.field.specs.declared.table.Field.{Field}

-- what is read of field f's entry is g f
module _ (read : Field → ℕ) (g : ℕ → ℕ) where
  unfoldable pub entry_test : List Field → Field → ℕ → Bool
  entry_test l d f = eqb (read (get_or l f d)) (g f)

  pub entry_at : (l : List Field) (d : Field) (f : ℕ) → T (every 4 (entry_test l d)) → f < 4 → read (get_or l f d) ≡ g f
  unfolding entry_test
  entry_at l d f t h = eqb→eq _ _ (every_at 4 (entry_test l d) t f h)

pub modulus_facts : (l : List Field) (d : Field) (f : ℕ) → T (every 4 (entry_test (λ F. F.modulus) modulus l d)) → InUse f → Modulus (get_or l f d).modulus
modulus_facts l d f t h = rw (entry_at (λ F. F.modulus) modulus l d f t (below_four f h)) (fields f h).modulus_is

-- the eight inverses of each
unfoldable pub inverse_test : List Field → Field → ℕ → Bool
inverse_test l d i = eqb (get_or (get_or l (i / 8) d).inverses (i % 8) 0) (inverse (modulus (i / 8)) (i % 8))

pub inverse_at : (l : List Field) (d : Field) (f x : ℕ) → T (every 32 (inverse_test l d)) → f < 4 → x < 8
    → get_or (get_or l f d).inverses x 0 ≡ inverse (modulus f) x
unfolding inverse_test
inverse_at l d f x t h k =
    let q : (8 * f + x) / 8 ≡ f = omega arith in
    let r : (8 * f + x) % 8 ≡ x = omega arith in
    eqb→eq _ _ (rw (q, r) at (every_at 32 (inverse_test l d) t (8 * f + x) (omega arith)))

-- the fields in use are those below 4
pub below_4 : (f : ℕ) → ltb f 4 ≡ in_use f
unfolding in_use
below_4 f = go (ltb f 4) refl
  where
    go : (b : Bool) → ltb f 4 ≡ b → b ≡ in_use f
    go true e = sym (is_true (in_use f) (every_at 4 in_use tt f (ltb-true f 4 e)))
    go false e = sym (is_false (in_use f) (λ t. omega (arith, ltb-false f 4 e, below_four f t)))
