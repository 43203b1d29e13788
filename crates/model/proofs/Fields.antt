-- The facts of the fields in use, by one test over the table, and what follows from `Modulus` for powers of two.
-- Assumes nothing.
use mathlib.Core.Path.{◌≡◌, refl, ap, ◌∙◌}
use mathlib.Core.Bool.{Bool, true, false, ◌&&◌, ◌||◌}
use mathlib.Core.List.{List, [], ◌∷◌}
use Prim.Native.Nat.{ℕ, zero, suc, ◌+◌, ◌-◌, ◌*◌, ◌/◌, ◌%◌, ◌^◌, ◌<◌}
use native.Mathlib.Nat.{mod-eq_of_lt, pow-suc}
use native.Mathlib.Omega.{arith}
use lib.Dec.{T, ltb, leb, eqb, ltb→lt, leb→le, le→leb, eqb→eq}
use Rattle.algebra.specs.Ring.{mul}
use Rattle.algebra.proofs.Ring.{by_quotients, ring, mod-ring, reduced, both_reduced, given, mul_lt}
use Rattle.algebra.proofs.Tests.{and_left, and_right, and_both, every, every_at}
use Rattle.model.specs.Fields.{modulus, bits, largest_k, fields_in_use, among, in_use, InUse, inverse, power_of_2, inverse_power_of_2, Modulus, Field, Parties, parties, FieldsTested, PartiesTested, EveryField}
use Rattle.model.specs.Sheet.{all}

-- what passes at every field in use, by computing
pub at_each : (test : ℕ → Bool) (xs : List ℕ) → T (all test xs) → (f : ℕ) → T (among f xs) → T (test f)
unfolding all
at_each test (x ∷ xs) t f h = go (eqb f x) refl h (at_each test xs (and_right (test x) (all test xs) t) f)
  where
    go : (b : Bool) → eqb f x ≡ b → T (b || among f xs) → (T (among f xs) → T (test f)) → T (test f)
    go true e h rest = rw (eqb→eq f x (rw e tt)) (and_left (test x) (all test xs) t)
    go false e h rest = rest h
at_each test [] t f h = elim h [ ]

pub in_use_lem : (test : ℕ → Bool) → T (all test fields_in_use) → (f : ℕ) → InUse f → T (test f)
unfolding in_use
in_use_lem test t f h = at_each test fields_in_use t f h

-- the table has four
pub below_four : (f : ℕ) → InUse f → f < 4
unfolding all
below_four f h = ltb→lt f 4 (in_use_lem (λ g. ltb g 4) tt f h)

pub fields_tested : FieldsTested
unfolding in_use
fields_tested f = (below_four f, every_at 4 in_use tt f)

-- the facts of one field, each as a test
unit_test : ℕ → ℕ → Bool
unit_test p e = eqb (mul p (suc e) (inverse p (suc e))) 1

modulus_test : ℕ → Bool
modulus_test p = ltb 7 p && (eqb (p % 2) 1 && (ltb p (2 ^ 31) && every 7 (unit_test p)))

field_test : ℕ → ℕ → ℕ → Bool
field_test p l k = modulus_test p && (ltb p (2 ^ l) && (ltb (2 ^ (l - 1)) p && (ltb (2 ^ k) p && (leb 2 k && (ltb k 31 && eqb (suc k) l)))))

table_test : ℕ → Bool
table_test f = field_test (modulus f) (bits f) (largest_k f)

modulus_facts : (f p : ℕ) → InUse f → p ≡ modulus f → T (modulus_test p) → Modulus p
unfolding modulus_test unit_test
modulus_facts f p l e t =
    let odd = and_right (ltb 7 p) _ t in
    let word = and_right (eqb (p % 2) 1) _ odd in
    let units = and_right (ltb p (2 ^ 31)) _ word in
    record {
      number = f;
      in_use = l;
      is = e;
      above = ltb→lt 7 p (and_left (ltb 7 p) _ t);
      odd = eqb→eq (p % 2) 1 (and_left (eqb (p % 2) 1) _ odd);
      word = ltb→lt p (2 ^ 31) (and_left (ltb p (2 ^ 31)) _ word);
      units = unit units;
    }
  where
    unit : T (every 7 (unit_test p)) → (d : ℕ) → 0 < d → d < 8 → mul p d (inverse p d) ≡ 1
    unit t zero a b = absurd (omega arith)
    unit t (suc e) a b = eqb→eq (mul p (suc e) (inverse p (suc e))) 1 (every_at 7 (unit_test p) t e (omega arith))

field_facts : (f p l k : ℕ) → InUse f → p ≡ modulus f → T (field_test p l k) → Field p l k
unfolding field_test
field_facts f p l k h e t =
    let hold = and_right (modulus_test p) _ t in
    let need = and_right (ltb p (2 ^ l)) _ hold in
    let fit = and_right (ltb (2 ^ (l - 1)) p) _ need in
    let least = and_right (ltb (2 ^ k) p) _ fit in
    let most = and_right (leb 2 k) _ least in
    record {
      modulus_is = modulus_facts f p h e (and_left (modulus_test p) _ t);
      bits_hold = ltb→lt p (2 ^ l) (and_left (ltb p (2 ^ l)) _ hold);
      bits_needed = ltb→lt (2 ^ (l - 1)) p (and_left (ltb (2 ^ (l - 1)) p) _ need);
      range_fits = ltb→lt (2 ^ k) p (and_left (ltb (2 ^ k) p) _ fit);
      k_least = leb→le 2 k (and_left (leb 2 k) _ least);
      k_most = ltb→lt k 31 (and_left (ltb k 31) _ most);
      k_is = eqb→eq (suc k) l (and_right (ltb k 31) _ most);
    }

-- every field in use
pub fields : (f : ℕ) → InUse f → Field (modulus f) (bits f) (largest_k f)
unfolding all table_test field_test modulus_test unit_test modulus bits largest_k inverse mul
fields f h = field_facts f (modulus f) (bits f) (largest_k f) h refl (in_use_lem table_test tt f h)

pub parties_facts : (n t : ℕ) → T (parties n t) → Parties n t
unfolding parties
parties_facts n t h =
    let a = and_left (leb 3 n && leb n 7 && leb 1 t) (leb (2 * t + 1) n) h in
    let b = and_left (leb 3 n && leb n 7) (leb 1 t) a in
    record {
      least = leb→le 3 n (and_left (leb 3 n) (leb n 7) b);
      most = leb→le n 7 (and_right (leb 3 n) (leb n 7) b);
      threshold = leb→le 1 t (and_right (leb 3 n && leb n 7) (leb 1 t) a);
      majority = leb→le (2 * t + 1) n (and_right (leb 3 n && leb n 7 && leb 1 t) (leb (2 * t + 1) n) h);
    }

pub parties_test : {n t : ℕ} → Parties n t → T (parties n t)
unfolding parties
parties_test {n} {t} P =
    and_both (leb 3 n && leb n 7 && leb 1 t) (leb (2 * t + 1) n)
    (and_both (leb 3 n && leb n 7) (leb 1 t)
    (and_both (leb 3 n) (leb n 7) (le→leb 3 n P.least) (le→leb n 7 P.most))
    (le→leb 1 t P.threshold))
    (le→leb (2 * t + 1) n P.majority)

half_is : {p : ℕ} → 1 < p → p % 2 ≡ 1 → mul p 2 ((p + 1) / 2) ≡ 1
unfolding mul
half_is {p} h o =
    let e : 2 * ((p + 1) / 2) ≡ 1 + 1 * p = omega arith in
    ap (λ (z : ℕ). z % p) e ∙ by_quotients p (1 + 1 * p) 1 0 1 (omega arith) ∙ mod-eq_of_lt h

-- a power of two times its inverse
pub power_inverse : {p : ℕ} → Modulus p → (m : ℕ) → mul p (power_of_2 p m) (inverse_power_of_2 p m) ≡ 1
unfolding power_of_2 inverse_power_of_2
power_inverse {p} M zero = let h : 0 < p = omega arith in reduced {p = p} {x = 1} (omega arith) (simp mod-ring (ring h _ _ _ _ (omega arith)))
power_inverse {p} M (suc m) =
    rw pow-suc (turn (2 ^ m) ((p + 1) / 2) (inverse_power_of_2 p m) (omega arith) (half_is (omega arith) M.odd) (power_inverse M m))
  where
    turn : (x h i : ℕ) → 1 < p → mul p 2 h ≡ 1 → mul p (x % p) i ≡ 1 → mul p (x * 2 % p) (mul p h i) ≡ 1
    turn x h i l e f =
        let z : 0 < p = omega arith in
        both_reduced {p = p} {y = 1} (mul_lt _ _ z) l (given (2 * h) _ _ z f (given 1 _ _ z e (simp mod-ring (ring z _ _ _ _ (omega arith)))))

pub parties_tested : PartiesTested
parties_tested n t = (parties_facts n t, parties_test)

pub every_field : EveryField
every_field = record { field = fields; inverses = λ f m h. power_inverse (fields f h).modulus_is m }
