-- `weight` meets its contract: one test over the four fields, the counts e and the parties x compares each weight with the definition's.
-- Assumes nothing.
use Prim.Native.Nat.{ℕ, suc, ◌+◌, ◌-◌, ◌*◌, ◌/◌, ◌%◌, ◌≤◌, ◌<◌}
use Rattle.algebra.proofs.Tests.{and_left, and_right, every, every_at}
use Rattle.algebra.specs.Lists.{from}
use Rattle.algebra.specs.Ring.{sub, mul}
use Rattle.model.proofs.Fields.{below_four}
use Rattle.model.proofs.Weights.{weight_lt}
use Rattle.model.specs.Fields.{Modulus, modulus, inverse}
use Rattle.model.specs.Sharing.{weight, ratio, reciprocal}
use borrow.Author.Rules.{rules}
use borrow.Author.Tests.{le-leb, eq-eqb, ne_eqb}
use lib.Dec.{T, leb, eqb, ltb, eqb→eq, ltb→lt}
use lib.ListN.{get_or}
use mathlib.Core.Bool.{Bool, true, ◌&&◌, cond}
use mathlib.Core.List.{List}
use mathlib.Core.Path.{◌≡◌}
use native.Mathlib.Omega.{arith}
use Rattle.presence.proofs.weight.Statement.{statement}
use Rattle.presence.proofs.weight.Tie as tie

-- what the code makes of the binomial b of party x
signed : ℕ → ℕ → ℕ → ℕ
signed p x b = cond (eqb (x % 2) 1) b (p - b)

-- field i / 16, count i / 4 % 4 + 1, party i % 4 + 1: the binomial is below 8 and, with its sign, the weight
entry : List ℕ → ℕ → ℕ → ℕ → Bool
entry l p e x = ltb (get_or l (4 * e + x) 0) 8 && eqb (signed p (suc x) (get_or l (4 * e + x) 0)) (weight p (from 1 (suc e)) (suc x))

weight-test : List ℕ → ℕ → Bool
weight-test l i = cond (leb (i % 4) (i / 4 % 4)) (entry l (modulus (i / 16)) (i / 4 % 4) (i % 4)) true

weight-entry : (l : List ℕ) → T (every 64 (weight-test l)) → (f e x : ℕ) → f < 4 → x ≤ e → e < 4 → T (entry l (modulus f) e x)
unfolding weight-test
weight-entry l t f e x h k m =
    let i = 16 * f + 4 * e + x in
    let a : i / 16 ≡ f = omega arith in
    let b : i / 4 % 4 ≡ e = omega arith in
    let d : i % 4 ≡ x = omega arith in
    rw (a, b, d, le-leb x e k) at (every_at 64 (weight-test l) t i (omega arith))

-- the same of any modulus, with e and x as the code has them
module _ (l : List ℕ) {p : ℕ} (e x : ℕ) (t : T (every 64 (weight-test l))) (M : Modulus p) (a : 1 ≤ x) (b : x ≤ e) (d : e ≤ 4) where
  place : ℕ
  place = 4 * (e - 1) + (x - 1)

  here : T (ltb (get_or l place 0) 8 && eqb (signed p x (get_or l place 0)) (weight p (from 1 e) x))
  unfolding entry place
  here =
      let q : suc (e - 1) ≡ e = omega arith in
      let r : suc (x - 1) ≡ x = omega arith in
      rw (← M.is, q, r) at (weight-entry l t M.number (e - 1) (x - 1) (below_four M.number M.in_use) (omega arith) (omega arith))

  binomial-fits : get_or l place 0 ≤ p
  binomial-fits = omega (arith, ltb→lt (get_or l place 0) 8 (and_left (ltb (get_or l place 0) 8) _ here))

  weighs : signed p x (get_or l place 0) ≡ weight p (from 1 e) x
  weighs = eqb→eq _ _ (and_right (ltb (get_or l place 0) 8) _ here)

  weight-odd : x % 2 ≡ 1 → get_or l place 0 ≡ weight p (from 1 e) x
  unfolding signed
  weight-odd o = rw (eq-eqb (x % 2) 1 o) at weighs

  weight-even : (x % 2 ≡ 1 → ⊥) → p - get_or l place 0 ≡ weight p (from 1 e) x
  unfolding signed
  weight-even o = rw (ne_eqb (x % 2) 1 o) at weighs

-- a weight is below p
with_bound : {p r : ℕ} (e x : ℕ) → 1 < p → r ≡ weight p (from 1 e) x → (r ≡ weight p (from 1 e) x) × (r < p)
with_bound e x h q = (q, rw q (weight_lt h _ _))

sub-result : tie.Need-overflow_sub-result
unfolding place weight-test entry signed weight ratio reciprocal inverse modulus from mul sub
sub-result c = search (rules, binomial-fits)

returns : tie.Need-returns-then-x-eq1
unfolding place weight-test entry signed weight ratio reciprocal inverse modulus from mul sub
returns c = with_bound c.args.e c.args.x (omega arith) (search (rules, weight-odd))

returns-2 : tie.Need-returns-else-x-eq1
unfolding place weight-test entry signed weight ratio reciprocal inverse modulus from mul sub
returns-2 c = with_bound c.args.e c.args.x (omega arith) (search (rules, weight-even))

pub weight_spec : {M : Type 1} → statement M
weight_spec =
    tie.close
    (tie.spec (λ c. search rules) (λ c. search rules) (λ c. search rules) (λ c. search rules) (λ c. search rules) (λ c. search rules) sub-result returns
    returns-2)
