-- The bytes of a list of calls by their tests: TEXTDATA, and what stands alone between quotes.
-- Assumes nothing.
use mathlib.Core.Path.{◌≡◌}
use mathlib.Core.Logic.{◌↔◌, ⊎_elim}
use mathlib.Core.Bool.{false, ◌&&◌}
use mathlib.Core.List.{List, ◌∷◌}
use Prim.Native.Nat.{ℕ, ◌≤◌}
use native.Mathlib.Omega.{arith}
use borrow.Author.Tests.{ne_eqb}
use lib.Dec.{T, leb, eqb, leb→le, le→leb, eqb→eq}
use Rattle.algebra.proofs.Tests.{and_left, and_right, and_both, or_either, or_left, or_right}
use Rattle.model.specs.Calls.{COMMA, CR, DQUOTE, LF, TEXTDATA, x20_21, x23_2_b, x2_d_7_e, is_textdata, alone, Quoted, a_textdata, a_comma, a_cr, a_lf}

-- a range as a test
pub between : (low b high : ℕ) → T (leb low b && leb b high) ↔ ((low ≤ b) × (b ≤ high))
between low b high = (
  λ t. (leb→le low b (and_left (leb low b) (leb b high) t), leb→le b high (and_right (leb low b) (leb b high) t)),
  λ h. and_both (leb low b) (leb b high) (le→leb low b h.0) (le→leb b high h.1),
)

pub textdata : (b : ℕ) → T (is_textdata b) ↔ TEXTDATA b
unfolding is_textdata
textdata b = (of_test, to_test)
  where
    of_test : T (is_textdata b) → TEXTDATA b
    of_test t =
        ⊎_elim (λ h. let r = (between 32 b 33).0 h in x20_21 r.0 r.1)
        (λ k. ⊎_elim (λ h. let r = (between 35 b 43).0 h in x23_2_b r.0 r.1) (λ h. let r = (between 45 b 126).0 h in x2_d_7_e r.0 r.1) (or_either (leb 35 b && leb b 43) _ k))
        (or_either (leb 32 b && leb b 33) _ t)

    to_test : TEXTDATA b → T (is_textdata b)
    to_test (x20_21 h k) = or_left (leb 32 b && leb b 33) _ ((between 32 b 33).1 (h, k))
    to_test (x23_2_b h k) = or_right (leb 32 b && leb b 33) _ (or_left (leb 35 b && leb b 43) _ ((between 35 b 43).1 (h, k)))
    to_test (x2_d_7_e h k) = or_right (leb 32 b && leb b 33) _ (or_right (leb 35 b && leb b 43) _ ((between 45 b 126).1 (h, k)))

-- no quote is TEXTDATA
pub no_quote : {b : ℕ} → TEXTDATA b → eqb b DQUOTE ≡ false
no_quote {b} t = ne_eqb b DQUOTE (go t)
  where
    go : TEXTDATA b → b ≡ DQUOTE → ⊥
    go (x20_21 h k) e = omega arith
    go (x23_2_b h k) e = omega arith
    go (x2_d_7_e h k) e = omega arith

-- TEXTDATA stands alone between quotes, and whatever passes the test may be put before what stands there
pub textdata_alone : {b : ℕ} → TEXTDATA b → T (alone b)
unfolding alone
textdata_alone {b} t = or_left (is_textdata b) _ ((textdata b).1 t)

pub one_alone : {s v : List ℕ} (b : ℕ) → T (alone b) → Quoted s v → Quoted (b ∷ s) (b ∷ v)
unfolding alone
one_alone b t q =
    ⊎_elim (λ h. a_textdata ((textdata b).0 h) q)
    (λ k. ⊎_elim (λ h. rw (eqb→eq b COMMA h) (a_comma q))
    (λ l. ⊎_elim (λ h. rw (eqb→eq b CR h) (a_cr q)) (λ h. rw (eqb→eq b LF h) (a_lf q)) (or_either (eqb b CR) _ l)) (or_either (eqb b COMMA) _ k))
    (or_either (is_textdata b) _ t)
