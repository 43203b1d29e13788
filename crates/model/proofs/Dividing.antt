-- A division in ℤ has one floor and one remainder; and how many blocks are begun is one number, a floor.
-- Assumes nothing.
use mathlib.Core.Path.{◌≡◌, refl, sym, ap, ◌∙◌}
use Prim.Native.Nat.{ℕ, zero, suc, ◌+◌, ◌-◌, ◌*◌, ◌/◌, ◌<◌}
use native.Mathlib.Nat.{mod-lt, div-add-mod', div-lt_iff_lt-mul}
use native.Mathlib.Omega.{arith}
use lib.IntN.{ℤ, pos, negsuc, ◌+ℤ◌, ◌*ℤ◌, negsuc-*ℤ-pos, pos-ne-negsuc}
use lib.Signed.{mag}
use Rattle.model.specs.Formulas.{OneDivision, Begun, OneBegun}
use Rattle.model.proofs.Coding.{below_zero}

-- of natural numbers
same : (a b M r s : ℕ) → r < M → s < M → a * M + r ≡ b * M + s → (a ≡ b) × (r ≡ s)
same zero zero M r s h k e = (refl, omega arith)
same zero (suc b) M r s h k e = absurd (omega arith)
same (suc a) zero M r s h k e = absurd (omega arith)
same (suc a) (suc b) M r s h k e = let q = same a b M r s h k (omega arith) in (ap suc q.0, q.1)

-- a floor of 0 or more, and one below 0
up : (a M r : ℕ) → pos a *ℤ pos M +ℤ pos r ≡ pos (a * M + r)
up a M r = refl

down : (a M r : ℕ) → r < M → negsuc a *ℤ pos M +ℤ pos r ≡ negsuc (a * M + (M - suc r))
down a (suc M) r h =
    let e : suc a * suc M ≡ suc (a * suc M + M) = omega arith in
    rw (negsuc-*ℤ-pos a (suc M), e) (below_zero r (suc (a * suc M + M)) (a * suc M + (suc M - suc r)) (omega arith))
down a zero r h = elim h [ ]

fixed : (M : ℕ) (q q' : ℤ) (r r' : ℕ) → r < M → r' < M → q *ℤ pos M +ℤ pos r ≡ q' *ℤ pos M +ℤ pos r' → (q ≡ q') × (r ≡ r')
fixed M (pos a) (pos b) r s h k e =
    let x = same a b M r s h k (ap mag (sym (up a M r) ∙ e ∙ up b M s)) in
    (ap pos x.0, x.1)
fixed M (pos a) (negsuc b) r s h k e = absurd (pos-ne-negsuc _ _ (sym (up a M r) ∙ e ∙ down b M s k))
fixed M (negsuc a) (pos b) r s h k e = absurd (pos-ne-negsuc _ _ (sym (up b M s) ∙ sym e ∙ down a M r h))
fixed M (negsuc a) (negsuc b) r s h k e =
    let x = same a b M (M - suc r) (M - suc s) (omega arith) (omega arith) (ap mag (sym (down a M r h) ∙ e ∙ down b M s k)) in
    (ap negsuc x.0, omega (arith, x.1))

pub one_division : OneDivision
one_division z M q q' r r' D E = fixed M q q' r r' D.small E.small (sym D.is ∙ E.is)

pub one_begun : OneBegun
one_begun M a z z' B C = omega (arith, B.least z' C.hold, C.least z B.hold)

pub begun_is : (M a : ℕ) → 0 < M → Begun M a ((a + (M - 1)) / M)
begun_is M a h =
    let x = a + (M - 1) in
    record {
      hold = omega (arith, div-add-mod' x M, mod-lt x h);
      least = λ b l. let q : x / M < suc b = (div-lt_iff_lt-mul h).1 (omega arith) in omega arith;
    }
