-- An opening in a record: whose shares are present, the one polynomial that they are on, and the tests in their order.
-- Assumes nothing.
use mathlib.Core.Path.{◌≡◌, refl, sym, ap, ◌∙◌}
use mathlib.Core.Logic.{◌≢◌}
use mathlib.Core.Bool.{Bool, true, false, ◌||◌, cond}
use mathlib.Core.List.Memᴰ.{head as here}
use mathlib.Core.List.Memᴰ.{tail as there}
use mathlib.Core.List.{List, [], ◌∷◌, Memᴰ as In}
use Prim.Native.Nat.{ℕ, zero, suc, ◌-◌, ◌≤◌, ◌<◌}
use native.Mathlib.Decide.{dec_lt, ℕ_discrete}
use native.Mathlib.Omega.{arith}
use borrow.Author.Tests.{le-leb, lt-leb, eq-eqb, ne_eqb}
use lib.Dec.{T, eqb, leb, eqb→eq, leb→le}
use lib.ListN.{length, get_or, take}
use lib.Seq.{length-take-le}
use Rattle.algebra.specs.Lists.{all_below, Distinct, from}
use Rattle.algebra.proofs.Lists.{all_below_lem, below_any, in_from, from_in}
use Rattle.algebra.proofs.Rows.{row_at_lem, row_past}
use Rattle.algebra.proofs.Tests.{and_left, and_right, and_both, is_true}
use Rattle.model.specs.Fields.{Modulus, modulus, InUse, Parties}
use Rattle.model.specs.Sharing.{eval, at}
use Rattle.model.specs.Shamir.{Group}
use Rattle.model.specs.Refusing.{first_failed}
use Rattle.model.specs.Sheet.{all}
use Rattle.model.specs.Replay.{opening, present_at, present_of, through, opened_value, opening_tests, opening_number}
use Rattle.model.specs.Replays.{OnOne, Openings}
use Rattle.model.proofs.Fields.{fields}
use Rattle.model.proofs.Polynomials.{interpolate_cong, length_interpolate, below_interpolate, positive, interpolate_only}
use Rattle.model.proofs.Presence.{Rising, rising_from, rising_distinct, in_take, distinct_take}
use Rattle.model.proofs.Sharings.{nodes_distinct}
use Rattle.model.proofs.Trying.{passes, fails}

-- A list without one of its numbers: one shorter, and it has all the others.
record Without (x : ℕ) (ys : List ℕ) : Type 0 where
  pub rest : List ℕ
  pub count : length ys ≡ suc (length rest)
  pub has : (z : ℕ) → In z ys → z ≢ x → In z rest

without : (x : ℕ) (ys : List ℕ) → In x ys → Without x ys
without x (y ∷ ys) (here e) = record { rest = ys; count = refl; has = has }
  where
    has : (z : ℕ) → In z (y ∷ ys) → z ≢ x → In z ys
    has z (here q) n = absurd (n (q ∙ sym e))
    has z (there m) n = m
without x (y ∷ ys) (there i) = let w = without x ys i in record { rest = y ∷ w.rest; count = ap suc w.count; has = has w }
  where
    has : (w : Without x ys) (z : ℕ) → In z (y ∷ ys) → z ≢ x → In z (y ∷ w.rest)
    has w z (here q) n = here q
    has w z (there m) n = there (w.has z m n)
without x [] x'' = elim x'' [ ]

-- different numbers that all stand in a list are not more than it has
pub at_most : (xs ys : List ℕ) → Distinct xs → ((z : ℕ) → In z xs → In z ys) → length xs ≤ length ys
at_most [] ys d k = omega arith
at_most (x ∷ xs) ys d k =
    let w = without x ys (k x (here refl)) in
    omega (arith, w.count, at_most xs w.rest d.1 (λ z m. w.has z (k z (there m)) (d.0 z m)))

-- a test of each number of a list
pub all_to : (f : ℕ → Bool) (xs : List ℕ) → T (all f xs) → (z : ℕ) → In z xs → T (f z)
unfolding all
all_to f (x ∷ xs) t z (here e) = rw e (and_left (f x) (all f xs) t)
all_to f (x ∷ xs) t z (there m) = all_to f xs (and_right (f x) (all f xs) t) z m
all_to f [] t z x'' = elim x'' [ ]

pub all_from : (f : ℕ → Bool) (xs : List ℕ) → ((z : ℕ) → In z xs → T (f z)) → T (all f xs)
unfolding all
all_from f [] k = tt
all_from f (x ∷ xs) k = and_both (f x) (all f xs) (k x (here refl)) (all_from f xs (λ z m. k z (there m)))

-- Those whose share is present.
module _ (p n t : ℕ) (x : List ℕ) where
  -- of some parties
  record Those (js xs : List ℕ) : Type 0 where
    pub in_those : (z : ℕ) → In z xs → In z js × (at 0 x z ≢ p)
    pub those_in : (z : ℕ) → In z js → at 0 x z ≢ p → In z xs
    pub rises : Rising js → Rising xs

  those : (js : List ℕ) → Those js (present_at p n t x js)
  unfolding present_at
  those [] = record { in_those = λ z m. absurd (no m); those_in = λ z m e. absurd (no m); rises = λ r. tt }
    where
      no : {z : ℕ} → In z [] → ⊥
      no = elim [ ]
  those (j ∷ js) = go (ℕ_discrete (at 0 x j) p) (those js)
    where
      go : Dec (at 0 x j ≡ p) → Those js (present_at p n t x js)
          → Those (j ∷ js) (cond (eqb (at 0 x j) p) (present_at p n t x js) (j ∷ present_at p n t x js))
      go (yes e) R =
          rw (eq-eqb (at 0 x j) p e)
          (record { in_those = λ z m. (there (R.in_those z m).0, (R.in_those z m).1); those_in = has; rises = λ r. R.rises r.1 })
        where
          has : (z : ℕ) → In z (j ∷ js) → at 0 x z ≢ p → In z (present_at p n t x js)
          has z (here q) h = absurd (h (rw q e))
          has z (there m) h = R.those_in z m h
      go (no e) R =
          rw (ne_eqb (at 0 x j) p e)
          (record { in_those = of; those_in = has; rises = λ r. (λ z m. r.0 z (R.in_those z m).0, R.rises r.1) })
        where
          of : (z : ℕ) → In z (j ∷ present_at p n t x js) → In z (j ∷ js) × (at 0 x z ≢ p)
          of z (here q) = (here q, rw q e)
          of z (there m) = (there (R.in_those z m).0, (R.in_those z m).1)

          has : (z : ℕ) → In z (j ∷ js) → at 0 x z ≢ p → In z (j ∷ present_at p n t x js)
          has z (here q) h = here q
          has z (there m) h = there (R.those_in z m h)

  pub present_rises : (js : List ℕ) → Rising js → Rising (present_at p n t x js)
  present_rises js = (those js).rises

  -- of parties 1 to n
  pub present_party : (z : ℕ) → In z (present_of p n t x) → (1 ≤ z) × (z ≤ n)
  present_party z m = let l = in_from 1 n ((those (from 1 n)).in_those z m).0 in (l.0, omega arith)

  pub present_there : (z : ℕ) → In z (present_of p n t x) → at 0 x z ≢ p
  present_there z m = ((those (from 1 n)).in_those z m).1

  pub there_present : (z : ℕ) → 1 ≤ z → z ≤ n → at 0 x z ≢ p → In z (present_of p n t x)
  there_present z a b e = (those (from 1 n)).those_in z (from_in 1 n z a (omega arith)) e

  pub present_rising : Rising (present_of p n t x)
  present_rising = present_rises (from 1 n) (rising_from 1 n)

  pub present_distinct : Distinct (present_of p n t x)
  present_distinct = rising_distinct (present_of p n t x) present_rising

  -- the lowest t + 1 of them
  pub lowest_group : suc t ≤ length (present_of p n t x) → Group n (suc t) (take (suc t) (present_of p n t x))
  lowest_group h =
      record {
        points =
            record {
              count = length-take-le (suc t) (present_of p n t x) h;
              distinct = distinct_take (suc t) (present_of p n t x) present_distinct;
              most = λ z m. (present_party z (in_take (suc t) (present_of p n t x) m)).1;
            };
        least = λ z m. (present_party z (in_take (suc t) (present_of p n t x) m)).0;
      }

-- The tests that 42 answers, of a row that has 0 past n.
module _ {p n t : ℕ} (M : Modulus p) (P : Parties n t) (x : List ℕ) where
  -- at least t + 1 shares are present where those of t + 1 different parties are
  pub enough_there : OnOne p n t x → suc t ≤ length (present_of p n t x)
  enough_there h =
      omega (
        arith,
        h.group.points.count,
        at_most h.parties (present_of p n t x) h.group.points.distinct
            (λ z m. there_present p n t x z (h.group.least z m) (h.group.points.most z m) (h.there z m)),
      )

  -- where the shares are on one polynomial, it is the one through the lowest
  pub through_is : (h : OnOne p n t x) → through p n t x ≡ h.poly
  unfolding through
  through_is h =
      let G = lowest_group p n t x (enough_there h) in
      let xs = take (suc t) (present_of p n t x) in
      interpolate_cong p xs _ _ (λ z m. let i = in_take (suc t) (present_of p n t x) m in
      sym (h.takes z (present_party p n t x z i).0 (present_party p n t x z i).1 (present_there p n t x z i)))
      ∙ interpolate_only M xs h.poly (nodes_distinct xs G.points.distinct (λ z m. omega (arith, G.points.most z m, P.most)))
      (h.size ∙ sym G.points.count) h.below

  abbrev on_through : ℕ → Bool
  on_through i = eqb (eval p (through p n t x) i) (at 0 x i)

  module _ (past : (j : ℕ) → n ≤ j → get_or x j 0 ≡ 0) where
    most_test : OnOne p n t x → T (all_below (suc p) x)
    most_test h = (all_below_lem (suc p) x).1 (record { at = λ i l. low i (dec_lt i n) })
      where
        low : (i : ℕ) → Dec (i < n) → get_or x i 0 < suc p
        low i (yes l) = omega (arith, h.most (suc i) (omega arith) (omega arith))
        low i (no l) = rw (past i (omega arith)) (omega arith)

    on_test : OnOne p n t x → T (all on_through (present_of p n t x))
    on_test h =
        all_from on_through (present_of p n t x) (λ z m.
        let l = present_party p n t x z m in
        rw (through_is h, eq-eqb (eval p h.poly z) (at 0 x z) (h.takes z l.0 l.1 (present_there p n t x z m))) tt)

    -- and back
    tested : T (all_below (suc p) x) → T (leb (suc t) (length (present_of p n t x))) → T (all on_through (present_of p n t x)) → OnOne p n t x
    unfolding through
    tested a b c =
        let xs = present_of p n t x in
        let enough = leb→le (suc t) (length xs) b in
        record {
          most = most;
          parties = take (suc t) xs;
          group = lowest_group p n t x enough;
          there = λ i m. present_there p n t x i (in_take (suc t) xs m);
          poly = through p n t x;
          size = length_interpolate p (take (suc t) xs) (at 0 x) ∙ length-take-le (suc t) xs enough;
          below = below_interpolate (positive M) (take (suc t) xs) (at 0 x);
          takes = λ i l u e. eqb→eq (eval p (through p n t x) i) (at 0 x i) (all_to on_through xs c i (there_present p n t x i l u e));
        }
      where
        most : (i : ℕ) → 1 ≤ i → i ≤ n → at 0 x i ≤ p
        most zero l u = omega arith
        most (suc i) l u = omega (arith, below_any (omega arith) ((all_below_lem (suc p) x).0 a) i)

-- three tests with one number: it comes where they do not all pass
none_of_three : (a b c : Bool) (number : ℕ) (xs : List (Bool × ℕ)) → (T a → T b → T c → ⊥)
    → first_failed ((a, number) ∷ (b, number) ∷ (c, number) ∷ xs) ≡ number
unfolding first_failed
none_of_three true true true number xs h = absurd (h tt tt tt)
none_of_three true true false number xs h = refl
none_of_three true false c number xs h = refl
none_of_three false b c number xs h = refl

-- The numbers of an opening.
module _ (f n t j own : ℕ) (log : List ℕ) (U : InUse f) (P : Parties n t) (l : 1 ≤ j) (u : j ≤ n) where
  abbrev p : ℕ
  p = modulus f

  abbrev M : Modulus p
  M = (fields f U).modulus_is

  abbrev x : List ℕ
  x = opening p n t log

  past : (j : ℕ) → n ≤ j → get_or x j 0 ≡ 0
  unfolding opening
  past j h = row_past n _ j h

  numbers_are : (i : ℕ) → 1 ≤ i → i ≤ n → at 0 x i ≡ get_or log (i - 1) 0
  unfolding opening
  numbers_are zero l u = absurd (omega arith)
  numbers_are (suc i) l u = row_at_lem n _ i (omega arith) ∙ ap (λ (k : ℕ). get_or log k 0) (back i)
    where
      back : (i : ℕ) → i ≡ suc i - 1
      back i = omega arith

  -- the own share, where the tests before it pass
  own_left : n ≤ length log → OnOne p n t x → opening_number p n t j own log ≡ first_failed ((eqb (at 0 x j) p || eqb (at 0 x j) own, 41) ∷ [])
  unfolding opening_tests
  own_left h o =
      sym (passes 43 _ (le-leb n (length log) h)
      (passes 42 _ (is_true _ (most_test M P x past o))
      (passes 42 _ (le-leb (suc t) _ (enough_there M P x o))
      (passes 42 _ (is_true _ (on_test M P x past o)) refl))))

  too_short : length log < n → opening_number p n t j own log ≡ 43
  unfolding opening_tests
  too_short h = sym (fails 43 _ (lt-leb n (length log) h))

  not_on_one : n ≤ length log → (OnOne p n t x → ⊥) → opening_number p n t j own log ≡ 42
  unfolding opening_tests
  not_on_one h none = sym (passes 43 _ (le-leb n (length log) h) (sym (none_of_three _ _ _ 42 _ (λ a b c. none (tested M P x past a b c)))))

  pub openings : Openings p n t j own log
  unfolding opened_value first_failed
  openings =
      record {
        numbers_are = numbers_are;
        too_short = too_short;
        not_on_one = not_on_one;
        differs = λ h o there other. own_left h o ∙ rw (ne_eqb (at 0 x j) p there, ne_eqb (at 0 x j) own other);
        absent = λ h o gone. own_left h o ∙ rw (eq-eqb (at 0 x j) p gone);
        same = λ h o e. own_left h o ∙ rw (eq-eqb (at 0 x j) own e) (either (eqb (at 0 x j) p));
        value_is = λ o. ap (λ (q : List ℕ). eval p q 0) (through_is M P x o);
      }
    where
      either : (b : Bool) → ◌≡◌ {A = ℕ} (cond (b || true) 0 41) 0
      either true = refl
      either false = refl
