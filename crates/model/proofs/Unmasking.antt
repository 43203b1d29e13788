-- MOD on secrets: what its last line makes of the opened number C and the mask's bits. For every X below p it is X modulo 2^m.
-- Assumes nothing.
use mathlib.Core.Path.{◌≡◌, sym, ◌∙◌}
use mathlib.Core.Bool.{Bool, true, false}
use mathlib.Core.List.{List, [], ◌∷◌}
use Prim.Native.Nat.{ℕ, ◌+◌, ◌-◌, ◌*◌, ◌%◌, ◌^◌, ◌≤◌, ◌<◌}
use native.Mathlib.Nat.{mod-lt, mod-le, mod-eq_of_lt, add-mod, zero-mod}
use native.Mathlib.Decide.{dec_lt}
use native.Mathlib.Omega.{arith}
use lib.Dec.{ltb}
use lib.ListN.{length, take}
use lib.Pow.{pow_pos, pow_mono}
use lib.Seq.{length-take-le}
use Rattle.algebra.specs.Ring.{add, sub, mul}
use Rattle.algebra.specs.Lists.{Below}
use Rattle.algebra.proofs.Ring.{ring, mod-ring, reduced, add_lt, add_up}
use Rattle.model.specs.Fields.{Field}
use Rattle.model.specs.Sheet.{spell}
use Rattle.model.specs.Plain.{less, rem}
use Rattle.model.specs.Formulas.{one}
use Rattle.model.proofs.Bits.{bits_of, below_take, spell_take, length_bits, below_bits, spell_small}
use Rattle.model.proofs.Comparing.{one_lt, less_is}

-- the number that bits spell, worked in the field
unfoldable pub spelt : ℕ → List ℕ → ℕ
spelt p [] = 0
spelt p (b ∷ bs) = add p b (mul p 2 (spelt p bs))

-- the secret of `unmasked` of specs/Steps, with f, u0, u1 and g worked by BITLT's rule and a product
unfoldable pub unmask : ℕ → ℕ → ℕ → List ℕ → ℕ
unmask p m C r =
    let c0 = C % 2 ^ m in
    let c1 = (C + p) % 2 ^ m in
    let f = less p C r in
    let u0 = less p c0 (take m r) in
    let u1 = less p c1 (take m r) in
    add p (sub p (add p c0 (mul p (sub p c1 c0) f)) (spelt p (take m r))) (mul p (2 ^ m) (add p u0 (mul p f (sub p u1 u0))))

-- the secrets of a well-formed mask
pub record Masking (p l : ℕ) (bs : List ℕ) : Type 0 where
  pub bits : Below 2 bs
  pub count : length bs ≡ l
  pub below : spell bs < p

pub spelt_is : {p : ℕ} → 0 < p → (bs : List ℕ) → spelt p bs ≡ spell bs % p
unfolding spelt spell
spelt_is {p} h [] = sym (zero-mod p)
spelt_is {p} h (b ∷ bs) = rw (spelt_is h bs) (simp mod-ring (ring h _ _ _ _ (omega arith)))

-- a sum modulo M, with M back where it was taken away: it was where the sum came out below a summand
carry : (M x y : ℕ) → x < M → y < M → (x + y) % M + M * one (ltb ((x + y) % M) y) ≡ x + y
carry M x y hx hy = go (dec_lt (x + y) M)
  where
    go : Dec (x + y < M) → (x + y) % M + M * one (ltb ((x + y) % M) y) ≡ x + y
    go (yes l) =
        let e : (x + y) % M ≡ x + y = mod-eq_of_lt l in
        let u : one (ltb (x + y) y) ≡ 0 = omega (arith, one_lt (x + y) y) in
        rw (e, u) (omega arith)
    go (no l) =
        let e : x + y - M ≡ (x + y) % M = unfold add in add_up x y (omega arith) (omega arith) in
        let u : one (ltb (x + y - M) y) ≡ 1 = omega (arith, one_lt (x + y - M) y) in
        rw (← e, u) (omega arith)

carry_low : (M X r : ℕ) → 0 < M → (X + r) % M + M * one (ltb ((X + r) % M) (r % M)) ≡ X % M + r % M
carry_low M X r h = rw (add-mod X r M) (carry M (X % M) (r % M) (mod-lt X h) (mod-lt r h))

-- the last line's value, at f = 0 and at f = 1
abbrev worked : ℕ → ℕ → ℕ → ℕ → ℕ → ℕ → ℕ → ℕ → ℕ
worked p M c0 c1 f u0 u1 y = add p (sub p (add p c0 (mul p (sub p c1 c0) f)) y) (mul p M (add p u0 (mul p f (sub p u1 u0))))

worked_0 : {p : ℕ} (M c0 c1 u0 u1 y : ℕ) {s : ℕ} → s < p → c0 + M * u0 ≡ s + y → worked p M c0 c1 0 u0 u1 y ≡ s
worked_0 {p} M c0 c1 u0 u1 y l e = let h : 0 < p = omega arith in reduced l (simp mod-ring (ring h _ _ _ _ (omega arith)))

worked_1 : {p : ℕ} (M c0 c1 u0 u1 y : ℕ) {s : ℕ} → s < p → c1 + M * u1 ≡ s + y → worked p M c0 c1 1 u0 u1 y ≡ s
worked_1 {p} M c0 c1 u0 u1 y l e = let h : 0 < p = omega arith in reduced l (simp mod-ring (ring h _ _ _ _ (omega arith)))

-- f says whether C lacks p, and so which of c0 and c1 is X + r modulo M
worked_is : (p M X r C : ℕ) (f : Bool) → 0 < M → M ≤ p → C + p * one f ≡ X + r
    → worked p M (C % M) ((C + p) % M) (one f) (one (ltb (C % M) (r % M))) (one (ltb ((C + p) % M) (r % M))) (r % M) ≡ X % M
worked_is p M X r C false h l e =
    let q : X + r ≡ C = omega arith in
    worked_0 M _ _ _ _ _ (omega (arith, mod-lt X h)) (rw q at (carry_low M X r h))
worked_is p M X r C true h l e =
    let q : X + r ≡ C + p = omega arith in
    worked_1 M _ _ _ _ _ (omega (arith, mod-lt X h)) (rw q at (carry_low M X r h))

-- the powers of two below p have fewer bits than p
power_fits : {p l K : ℕ} → Field p l K → (m : ℕ) → m ≤ K → (2 ^ m < p) × (m < l)
power_fits {p} {l} {K} F m h =
    let a : 2 ^ m ≤ 2 ^ K = pow_mono h in (omega arith, go (dec_lt m l))
  where
    go : Dec (m < l) → m < l
    go (yes k) = k
    go (no k) = let a : 2 ^ l ≤ 2 ^ K = pow_mono (omega arith) in absurd (omega arith)

module _ {p l K : ℕ} (F : Field p l K) {bs : List ℕ} (R : Masking p l bs) where
  pub spelt_mask : spelt p bs ≡ spell bs
  spelt_mask = spelt_is (omega arith) bs ∙ mod-eq_of_lt R.below

  -- the low bits: their number, and the comparison with it
  spelt_low : (m : ℕ) → spelt p (take m bs) ≡ spell bs % 2 ^ m
  spelt_low m =
      spelt_is (omega arith) (take m bs)
      ∙ rw (spell_take m bs R.bits) (mod-eq_of_lt (omega (arith, mod-le (spell bs) (2 ^ m))))

  less_low : (m v : ℕ) → 1 ≤ m → m ≤ K → less p (v % 2 ^ m) (take m bs) ≡ one (ltb (v % 2 ^ m) (spell bs % 2 ^ m))
  less_low m v h k =
      let n : length (take m bs) ≡ m = length-take-le m bs (omega (arith, power_fits F m k)) in
      rw (spell_take m bs R.bits) at
      (less_is p (v % 2 ^ m) (take m bs) (omega arith) (below_take m bs R.bits) (omega arith) (rw n (mod-lt v (pow_pos m))))

  less_all : (v : ℕ) → v < p → less p v bs ≡ one (ltb v (spell bs))
  less_all v h =
      less_is p v bs (omega arith) R.bits (omega (arith, power_fits F K (omega arith))) (rw R.count (omega arith))

  -- the mask's number r is taken off X + r
  pub unmask_sum : (m X : ℕ) → 1 ≤ m → m ≤ K → X < p → unmask p m (add p X (spell bs)) bs ≡ X % 2 ^ m
  unfolding unmask add
  unmask_sum m X h k hX =
      let r = spell bs in
      let C = (X + r) % p in
      rw (spelt_low m, less_all C (mod-lt (X + r) (omega arith)), less_low m C h k, less_low m (C + p) h k)
      (worked_is p (2 ^ m) X r C (ltb C r) (pow_pos m) (omega (arith, power_fits F m k)) (carry p X r hX R.below))

  pub unmask_is : (k m a : ℕ) → k ≤ K → 1 ≤ m → m < k → unmask p m (add p (add p a (2 ^ (k - 1))) (spelt p bs)) bs ≡ rem p k m a
  unfolding rem
  unmask_is k m a hk h l = rw spelt_mask (unmask_sum m _ h (omega arith) (add_lt a (2 ^ (k - 1)) (omega arith)))

-- the bits of a number below p are those of a well-formed mask
pub masking_bits : {p l K : ℕ} → Field p l K → (r : ℕ) → r < p → Masking p l (bits_of l r)
masking_bits {p} {l} F r h = record { bits = below_bits l r; count = length_bits l r; below = rw (spell_small l r (omega arith)) h }
