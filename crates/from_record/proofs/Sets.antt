-- Bytes without the bits of parties 1 to z: whom they leave, which of them are permitted, and that those that are come first.
-- Assumes nothing.
use mathlib.Core.Path.{◌≡◌, refl, ap, ◌∙◌}
use mathlib.Core.Bool.{Bool, true, false, cond}
use mathlib.Core.List.Memᴰ.{head as here}
use mathlib.Core.List.Memᴰ.{tail as there}
use mathlib.Core.List.{List, [], ◌∷◌, Memᴰ as In}
use Prim.Native.Nat.{ℕ, zero, suc, ◌+◌, ◌-◌, ◌*◌, ◌/◌, ◌%◌, ◌^◌, ◌≤◌, ◌<◌}
use native.Mathlib.Nat.{pow-suc, div-one, mul-one, div-div-eq-div-mul, div-mul-le_self, mul_comm}
use native.Mathlib.Decide.{dec_lt}
use native.Mathlib.Omega.{arith}
use lib.ListN.{length, take}
use lib.Seq.{take-append-le}
use Rattle.algebra.specs.Lists.{from}
use Rattle.algebra.proofs.Lists.{in_from, length_from}
use Rattle.model.specs.Fields.{Parties}
use Rattle.model.specs.Presence.{bit, is_present, present_in, absent_in, openers, PermittedSet}
use Rattle.model.proofs.Presence.{bit_past}
use Rattle.from_record.specs.Windowed.{without}

-- one party more is left out
without_more : (b z : ℕ) → without b (suc z) ≡ 2 * without (b / 2) z
unfolding without
without_more b z =
    let e : b / 2 ^ suc z ≡ b / 2 / 2 ^ z = rw (pow-suc 2 z, mul_comm (2 ^ z) 2, div-div-eq-div-mul) in
    rw (e, pow-suc 2 z) (omega arith)

pub without_none : (b : ℕ) → without b 0 ≡ b
unfolding without
without_none b = rw (div-one, mul-one)

pub without_most : (b z : ℕ) → without b z ≤ b
unfolding without
without_most b z = div-mul-le_self b (2 ^ z)

-- their bits
bit_gone : (b z i : ℕ) → i < z → bit (without b z) i ≡ false
unfolding bit
bit_gone b zero i h = absurd (omega arith)
bit_gone b (suc z) zero h = let e : 2 * without (b / 2) z % 2 ≡ 0 = omega arith in rw (without_more b z, e)
bit_gone b (suc z) (suc i) h = let e : 2 * without (b / 2) z / 2 ≡ without (b / 2) z = omega arith in rw (without_more b z, e) (bit_gone (b / 2) z i (omega arith))

bit_kept : (b z i : ℕ) → z ≤ i → bit (without b z) i ≡ bit b i
unfolding bit
bit_kept b zero i h = rw (without_none b)
bit_kept b (suc z) zero h = absurd (omega arith)
bit_kept b (suc z) (suc i) h = let e : 2 * without (b / 2) z / 2 ≡ without (b / 2) z = omega arith in rw (without_more b z, e) (bit_kept (b / 2) z i (omega arith))

-- those that are present, of two bytes that say the same of each
present_same : (b c : ℕ) (js : List ℕ) → ((j : ℕ) → In j js → is_present b j ≡ is_present c j) → present_in b js ≡ present_in c js
unfolding present_in
present_same b c [] k = refl
present_same b c (j ∷ js) k = rw (k j (here refl), present_same b c js (λ i m. k i (there m)))

-- none of the first is
skip : (c z k m : ℕ) → ((j : ℕ) → k ≤ j → j ≤ z → is_present c j ≡ false) → k ≤ suc z → present_in c (from k m) ≡ present_in c (from (suc z) (k + m - suc z))
unfolding from present_in
skip c z k zero none h = let e : k + 0 - suc z ≡ 0 = omega arith in rw e
skip c z k (suc m) none h = go (dec_lt k (suc z)) (λ l. skip c z (suc k) m (λ j a b. none j (omega arith) b) l)
  where
    go : Dec (k < suc z) → (k < suc z → present_in c (from (suc k) m) ≡ present_in c (from (suc z) (suc k + m - suc z)))
        → cond (is_present c k) (k ∷ present_in c (from (suc k) m)) (present_in c (from (suc k) m)) ≡ present_in c (from (suc z) (k + suc m - suc z))
    go (yes l) rest =
        let e : k + suc m ≡ suc k + m = omega arith in
        rw (e, none k (omega arith) (omega arith)) (rest l)
    go (no l) rest =
        let e : k ≡ suc z = omega arith in
        let s : suc z + suc m - suc z ≡ suc m = omega arith in
        rw (e, s) (unfold from present_in in refl)

-- those of a byte's parties that come after party z
abbrev pub after : ℕ → ℕ → ℕ → List ℕ
after n b z = present_in b (from (suc z) (n - z))

pub gone : (b z j : ℕ) → 1 ≤ j → j ≤ z → is_present (without b z) j ≡ false
gone b z zero a l = refl
gone b z (suc i) a l = bit_gone b z i l

pub kept : (b z j : ℕ) → suc z ≤ j → is_present (without b z) j ≡ is_present b j
kept b z zero l = absurd (omega arith)
kept b z (suc i) l = bit_kept b z i (omega arith)

pub left_present : (n b z : ℕ) → present_in (without b z) (from 1 n) ≡ after n b z
left_present n b z =
    let e : 1 + n - suc z ≡ n - z = omega arith in
    rw e at (skip (without b z) z 1 n (gone b z) (omega arith))
    ∙ present_same (without b z) b (from (suc z) (n - z)) (λ j m. kept b z j (in_from (suc z) (n - z) m).0)

-- permitted sets, by how many they leave
module _ (n t b : ℕ) (h : b < 2 ^ n) (z : ℕ) where
  pub enough_permitted : suc t ≤ length (after n b z) → PermittedSet n t (without b z)
  enough_permitted l = record { none_beyond = none; enough = rw (left_present n b z) l }
    where
      none : (j : ℕ) → n < j → is_present (without b z) j ≡ false
      none zero m = refl
      none (suc i) m = bit_past n (without b z) i (omega (arith, without_most b z)) (omega arith)

  pub permitted_enough : PermittedSet n t (without b z) → suc t ≤ length (after n b z)
  permitted_enough Q = rw (left_present n b z) at Q.enough

  pub permitted_openers : PermittedSet n t (without b z) → openers n t (without b z) ≡ take (suc t) (after n b z)
  unfolding openers
  permitted_openers Q = take-append-le (suc t) (present_in (without b z) (from 1 n)) (absent_in (without b z) (from 1 n)) Q.enough ∙ ap (take (suc t)) (left_present n b z)

-- fewer and fewer are left
length_present : (b : ℕ) (js : List ℕ) → length (present_in b js) ≤ length js
unfolding present_in
length_present b [] = omega arith
length_present b (j ∷ js) = go (is_present b j) (length_present b js)
  where
    go : (c : Bool) → length (present_in b js) ≤ length js → length (cond c (j ∷ present_in b js) (present_in b js)) ≤ suc (length js)
    go true h = omega arith
    go false h = omega arith

after_fewer : (n b z : ℕ) → length (after n b (suc z)) ≤ length (after n b z)
after_fewer n b z = go (dec_lt z n)
  where
    go : Dec (z < n) → length (after n b (suc z)) ≤ length (after n b z)
    go (yes l) =
        unfold from present_in in
        let e : n - z ≡ suc (n - suc z) = omega arith in
        rw e (pick (is_present b (suc z)))
      where
        pick : (c : Bool) → length (after n b (suc z)) ≤ length (cond c (suc z ∷ after n b (suc z)) (after n b (suc z)))
        pick true = omega arith
        pick false = omega arith
    go (no l) = unfold from present_in in let e : n - suc z ≡ 0 = omega arith in rw e (omega arith)

after_less : (n b z d : ℕ) → length (after n b (z + d)) ≤ length (after n b z)
after_less n b z zero = let e : z + 0 ≡ z = omega arith in rw e (omega arith)
after_less n b z (suc d) = let e : z + suc d ≡ suc (z + d) = omega arith in rw e (omega (arith, after_fewer n b (z + d), after_less n b z d))

module _ {n t b : ℕ} (h : b < 2 ^ n) (P : Parties n t) where
  -- past a set that is not permitted none is
  pub no_later : (y z : ℕ) → (PermittedSet n t (without b y) → ⊥) → y ≤ z → PermittedSet n t (without b z) → ⊥
  no_later y z k l Q =
      let e : y + (z - y) ≡ z = omega arith in
      k (enough_permitted n t b h y (omega (arith, permitted_enough n t b h z Q, rw e at (after_less n b y (z - y)))))

  -- six are the most
  pub none_past : (z : ℕ) → 6 ≤ z → PermittedSet n t (without b z) → ⊥
  none_past z l Q = omega (arith, permitted_enough n t b h z Q, length_present b (from (suc z) (n - z)), length_from (suc z) (n - z), P.most, P.threshold)
