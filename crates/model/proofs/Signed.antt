-- Signed numbers in the field, as classes modulo p: differences and their sign, floor and remainder.
-- Assumes nothing.
use mathlib.Core.Path.{◌≡◌, refl, sym, ◌∙◌}
use mathlib.Core.Bool.{Bool, true, false, cond}
use Prim.Native.Nat.{ℕ, zero, suc, ◌+◌, ◌-◌, ◌*◌, ◌/◌, ◌%◌, ◌≤◌, ◌<◌, zero-le}
use native.Mathlib.Nat.{mod-lt, mod-eq_of_lt, mod_self, div-add-mod', div-eq_of_lt, add-mul-mod_self_right}
use native.Mathlib.Decide.{dec_lt}
use native.Mathlib.Omega.{arith}
use borrow.Author.Tests.{lt-ltb, le-ltb}
use lib.Dec.{ltb, leb-suc-suc}
use lib.IntN.{ℤ, pos, negsuc, sub_ℕ, ◌+ℤ◌, ◌-ℤ◌}
use lib.Signed.{mag, lt_z, shr_z}
use Rattle.algebra.specs.Ring.{add, sub, mul}
use Rattle.algebra.proofs.Ring.{by_quotients, ring, mod-ring, reduced, both_reduced, given, add_up, mul_lt, sub_lt}
use Rattle.model.specs.Coding.{code}
use Rattle.model.specs.Formulas.{one}
use Rattle.model.proofs.Coding.{code_below}

-- the sign of a difference
sign_subℕ : (a b : ℕ) → lt_z (sub_ℕ a b) (pos 0) ≡ ltb a b
sign_subℕ a b = go (ltb a b)
  where
    go : (c : Bool) → lt_z (cond c (negsuc (b - suc a)) (pos (a - b))) (pos 0) ≡ c
    go true = refl
    go false = le-ltb (a - b) 0 zero-le

pub sign_sub : (v a : ℤ) → lt_z (v -ℤ a) (pos 0) ≡ lt_z v a
sign_sub (pos m) (pos zero) = le-ltb (m + 0) 0 zero-le ∙ sym (le-ltb m 0 zero-le)
sign_sub (pos m) (pos (suc n)) = sign_subℕ m (suc n)
sign_sub (pos m) (negsuc n) = le-ltb (m + suc n) 0 zero-le
sign_sub (negsuc m) (pos zero) = sign_subℕ 0 (suc m) ∙ lt-ltb 0 (suc m) (omega arith)
sign_sub (negsuc m) (pos (suc n)) = refl
sign_sub (negsuc m) (negsuc n) = sign_subℕ (suc n) (suc m) ∙ leb-suc-suc (suc n) m

module _ {p : ℕ} (h : 0 < p) where
  -- the code of a negative number, and of a difference
  code_negative : (n : ℕ) → code p (negsuc n) ≡ sub p 0 (suc n)
  unfolding code
  code_negative n = go (n % p) (mod-lt n h) ∙ simp mod-ring (ring h _ _ _ _ (omega arith))
    where
      go : (r : ℕ) → r < p → p - suc r ≡ sub p 0 (add p 1 r)
      go r l = both_reduced {p = p} (omega arith) (sub_lt 0 (add p 1 r) h) (given 1 _ _ h (mod_self p) (simp mod-ring (ring h _ _ _ _ (omega arith))))

  code_subℕ : (a b : ℕ) → code p (sub_ℕ a b) ≡ sub p a b
  code_subℕ a b = go (dec_lt a b)
    where
      go : Dec (a < b) → code p (sub_ℕ a b) ≡ sub p a b
      go (yes l) = rw (lt-ltb a b l, code_negative (b - suc a)) (simp mod-ring (ring h _ _ _ _ (omega arith)))
      go (no l) = unfold code in rw (le-ltb a b (omega arith)) (simp mod-ring (ring h _ _ _ _ (omega arith)))

  pub code_sub : (v a : ℤ) → code p (v -ℤ a) ≡ sub p (code p v) (code p a)
  unfolding code
  code_sub (pos m) (pos zero) = simp mod-ring (ring h _ _ _ _ (omega arith))
  code_sub (pos m) (pos (suc n)) = code_subℕ m (suc n) ∙ simp mod-ring (ring h _ _ _ _ (omega arith))
  code_sub (pos m) (negsuc n) = rw (code_negative n) (simp mod-ring (ring h _ _ _ _ (omega arith)))
  code_sub (negsuc m) (pos zero) = code_subℕ 0 (suc m) ∙ rw (code_negative m) (simp mod-ring (ring h _ _ _ _ (omega arith)))
  code_sub (negsuc m) (pos (suc n)) =
      rw (code_negative (suc (m + n)), code_negative m) (simp mod-ring (ring h _ _ _ _ (omega arith)))
  code_sub (negsuc m) (negsuc n) =
      code_subℕ (suc n) (suc m) ∙ rw (code_negative m, code_negative n) (simp mod-ring (ring h _ _ _ _ (omega arith)))

  -- the code of a sum
  pub code_add : (a : ℤ) (c : ℕ) → code p (a +ℤ pos c) ≡ add p (code p a) c
  unfolding code
  code_add (pos n) c = simp mod-ring (ring h _ _ _ _ (omega arith))
  code_add (negsuc n) c = code_subℕ c (suc n) ∙ rw (code_negative n) (simp mod-ring (ring h _ _ _ _ (omega arith)))

  -- the floor of a / M times M
  floor_times : (M : ℕ) (a : ℤ) → 0 < M → sub p (code p a) (code M a) ≡ mul p M (code p (shr_z a M))
  floor_times M (pos n) l = unfold code in rw div-add-mod' at (go (n / M) (n % M))
    where
      go : (Q r : ℕ) → sub p ((Q * M + r) % p) r ≡ mul p M (Q % p)
      go Q r = simp mod-ring (ring h _ _ _ _ (omega arith))
  floor_times M (negsuc n) l = rw (code_negative n, code_negative (n / M)) (unfold code in rw div-add-mod' at (go (n / M) (n % M) (mod-lt n l)))
    where
      go : (Q r : ℕ) → r < M → sub p (sub p 0 (suc (Q * M + r))) (M - suc r) ≡ mul p M (sub p 0 (suc Q))
      go Q r l = simp mod-ring (ring h _ _ _ _ (omega arith))

  -- and divided by M again
  pub floor_is : (M i : ℕ) (a : ℤ) → 0 < M → mul p (M % p) i ≡ 1 → mul p i (sub p (code p a) (code M a)) ≡ code p (shr_z a M)
  floor_is M i a l e = rw (floor_times M a l) (go (code p (shr_z a M)) (code_below p (shr_z a M) h))
    where
      go : (c : ℕ) → c < p → mul p i (mul p M c) ≡ c
      go c k = both_reduced (mul_lt _ _ h) k (given c _ _ h e (simp mod-ring (ring h _ _ _ _ (omega arith))))

-- a + H modulo p, for a of a magnitude below H, is a + H; and modulo a divisor of H it is a's remainder
pub remainder_is : (p M q : ℕ) (a : ℤ) → 0 < M → mag a < q * M → q * M + q * M ≤ p → add p (code p a) (q * M) % M ≡ code M a
remainder_is p M q (pos n) h l k =
    unfold add code in
    rw (mod-eq_of_lt {n = n} {m = p} (omega arith), mod-eq_of_lt {n = n + q * M} {m = p} (omega arith), add-mul-mod_self_right)
remainder_is p M q (negsuc n) h l k =
    unfold code in
    rw (mod-eq_of_lt {n = n} {m = p} (omega arith), ← (add_up {p = p} (p - suc n) (q * M) (omega arith) (omega arith)))
    (by_quotients M _ (M - suc (n % M)) (suc (n / M)) q (omega (arith, div-add-mod' n M, mod-lt n h)) ∙ mod-eq_of_lt (omega arith))

-- the floor of a / H, for a of a magnitude below H, is minus the sign
pub sign_is : (p H : ℕ) (a : ℤ) → 1 < p → mag a < H → sub p 0 (code p (shr_z a H)) ≡ one (lt_z a (pos 0))
sign_is p H (pos n) h l =
    let z : 0 < p = omega arith in
    unfold code in
    rw (div-eq_of_lt l, le-ltb n 0 zero-le) (reduced z (simp mod-ring (ring z _ _ _ _ (omega arith))))
sign_is p H (negsuc n) h l =
    let z : 0 < p = omega arith in
    rw (div-eq_of_lt l, code_negative z 0) (reduced h (simp mod-ring (ring z _ _ _ _ (omega arith))))
