-- BITLT's rule on bits: 1 if v is below the number that they spell, else 0.
-- Assumes nothing.
use mathlib.Core.Path.{◌≡◌, refl, sym, ◌∙◌}
use mathlib.Core.Bool.{Bool, true, false, cond}
use mathlib.Core.List.{List, [], ◌∷◌}
use Prim.Native.Nat.{ℕ, zero, suc, ◌+◌, ◌-◌, ◌*◌, ◌/◌, ◌%◌, ◌^◌, ◌≤◌, ◌<◌, min}
use native.Mathlib.Nat.{mod-eq_of_lt, pow-suc}
use native.Mathlib.Omega.{arith}
use lib.Dec.{ltb, eqb}
use lib.ListN.{length}
use borrow.Author.Tests.{ltb-true, ltb-false}
use Rattle.algebra.specs.Ring.{add, mul}
use Rattle.algebra.specs.Lists.{Below}
use Rattle.algebra.proofs.Ring.{sub_up}
use Rattle.algebra.proofs.Lists.{below_head, below_tail}
use Rattle.model.specs.Trees.{odd}
use Rattle.model.specs.Sheet.{spell}
use Rattle.model.specs.Plain.{less_step, less_from, less}
use Rattle.model.specs.Formulas.{one}

-- a comparison as a number that `omega` reads
pub one_lt : (a b : ℕ) → one (ltb a b) ≡ 1 - (suc a - b)
one_lt a b = go (ltb a b) (ltb-true a b) (ltb-false a b)
  where
    go : (c : Bool) → (c ≡ true → a < b) → (c ≡ false → b ≤ a) → one c ≡ 1 - (suc a - b)
    go true f g = let h = f refl in omega arith
    go false f g = let h = g refl in omega arith

mul_bits : (b lt : ℕ) → b < 2 → lt < 2 → b * lt ≡ min b lt
mul_bits zero lt hb hl = omega arith
mul_bits (suc zero) lt hb hl = omega arith
mul_bits (suc (suc b)) lt hb hl = absurd (omega arith)

-- on bits a step is "or" where v's bit c is 0, else "and"
step_is : (p c b lt : ℕ) → 2 < p → c < 2 → b < 2 → lt < 2 → less_step p (eqb c 1) b lt ≡ (b + lt + (1 - c)) / 2
unfolding add mul
step_is p zero b lt hp hc hb hl =
    let m = mul_bits b lt hb hl in
    rw (mod-eq_of_lt {n = b + lt} {m = p} (omega arith), mod-eq_of_lt {n = b * lt} {m = p} (omega arith))
    (sym (sub_up (omega arith) (omega arith)) ∙ omega arith)
step_is p (suc zero) b lt hp hc hb hl =
    let m = mul_bits b lt hb hl in
    mod-eq_of_lt {n = b * lt} {m = p} (omega arith) ∙ omega arith
step_is p (suc (suc c)) b lt hp hc hb hl = absurd (omega arith)

-- lt decides where v is the number that the bits spell
from_is : (p v : ℕ) (bs : List ℕ) (lt : ℕ) → 2 < p → Below 2 bs → v < 2 ^ length bs → lt < 2 → less_from p v bs lt ≡ one (ltb v (spell bs + lt))
unfolding less_from spell
from_is p v [] lt hp B h hl = omega (arith, one_lt v (0 + lt))
from_is p v (b ∷ bs) lt hp B h hl =
    let hb = below_head B in
    let s = step_is p (v % 2) b lt hp (omega arith) hb hl in
    from_is p (v / 2) bs (less_step p (odd v) b lt) hp (below_tail B) (omega (arith, pow-suc 2 (length bs))) (omega arith)
    ∙ omega (arith, one_lt (v / 2) (spell bs + less_step p (odd v) b lt), one_lt v (b + 2 * spell bs + lt))

first_is : (c b : ℕ) → c < 2 → b < 2 → cond (eqb c 1) 0 b ≡ b - c
first_is zero b hc hb = omega arith
first_is (suc zero) b hc hb = omega arith
first_is (suc (suc c)) b hc hb = absurd (omega arith)

pub less_is : (p v : ℕ) (bs : List ℕ) → 2 < p → Below 2 bs → 1 ≤ length bs → v < 2 ^ length bs → less p v bs ≡ one (ltb v (spell bs))
unfolding less spell
less_is p v [] hp B l h = absurd (omega arith)
less_is p v (b ∷ bs) hp B l h =
    let hb = below_head B in
    let f = first_is (v % 2) b (omega arith) hb in
    from_is p (v / 2) bs (cond (odd v) 0 b) hp (below_tail B) (omega (arith, pow-suc 2 (length bs))) (omega arith)
    ∙ omega (arith, one_lt (v / 2) (spell bs + cond (odd v) 0 b), one_lt v (b + 2 * spell bs))
