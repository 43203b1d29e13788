-- Laws of `first_failed`: of one test more, of tests appended to others, of tests that all pass, and of the largest number. A test is found by the
-- number of its refusal, so that a test more moves no other.
-- Assumes nothing.
use mathlib.Core.Path.{◌≡◌, refl, sym, ◌∙◌}
use mathlib.Core.Bool.{Bool, true, false, ◌&&◌, cond}
use mathlib.Core.List.{List, [], ◌∷◌, ◌++◌}
use Prim.Native.Nat.{ℕ, zero, suc, ◌≤◌, ◌<◌}
use native.Mathlib.Omega.{arith}
use borrow.Author.Tests.{lt-ltb, le-ltb, le-leb, lt-leb, eq-eqb, ne_eqb}
use lib.Dec.{T, eqb, ltb, leb, leb→le}
use Rattle.algebra.specs.Lists.{All, none, one}
use Rattle.algebra.proofs.Tests.{and_left, and_right, is_true, choice}
use Rattle.model.specs.Fields.{in_use, InUse, Parties, parties, field_tests, setting_tests}
use Rattle.model.specs.Refusing.{first_failed, given}
use Rattle.model.proofs.Fields.{parties_facts, parties_test}

-- by the number: what is given, or what stands for it
pub given_done : {A : Type 0} (number : ℕ) (x y : A) → number ≡ 0 → given number x y ≡ x
given_done number x y e = rw e refl

pub given_refused : {A : Type 0} (number : ℕ) (x y : A) → (number ≡ 0 → ⊥) → given number x y ≡ y
given_refused zero x y z = absurd (z refl)
given_refused (suc number) x y z = refl

-- one test more: it passes and the others decide, or it fails
pub passes : {b : Bool} {r : ℕ} (n : ℕ) (xs : List (Bool × ℕ)) → b ≡ true → r ≡ first_failed xs → r ≡ first_failed ((b, n) ∷ xs)
unfolding first_failed
passes n xs t k = rw t k

pub fails : {b : Bool} (n : ℕ) (xs : List (Bool × ℕ)) → b ≡ false → n ≡ first_failed ((b, n) ∷ xs)
unfolding first_failed
fails n xs t = rw t

pub nothing_left : 0 ≡ first_failed []
unfolding first_failed
nothing_left = refl

-- no refusal has the number 0
unfoldable pub numbered : List (Bool × ℕ) → Bool
numbered [] = true
numbered (test ∷ tests) = ltb 0 test.1 && numbered tests

-- the tests with the number n
unfoldable pub holding : ℕ → List (Bool × ℕ) → Bool
holding n [] = true
holding n (test ∷ tests) = cond (eqb test.1 n) (test.0 && holding n tests) (holding n tests)

-- appended tests are tried where none before them refuses
pub appended : (xs ys : List (Bool × ℕ)) → T (numbered xs) → first_failed (xs ++ ys) ≡ given (first_failed xs) (first_failed ys) (first_failed xs)
unfolding first_failed numbered
appended [] ys t = refl
appended (x ∷ xs) ys t = go x.0 x.1 (and_left (ltb 0 x.1) (numbered xs) t) (appended xs ys (and_right (ltb 0 x.1) (numbered xs) t))
  where
    go : (passes : Bool) (number : ℕ) → T (ltb 0 number) → first_failed (xs ++ ys) ≡ given (first_failed xs) (first_failed ys) (first_failed xs)
        → cond passes (first_failed (xs ++ ys)) number
        ≡ given (cond passes (first_failed xs) number) (first_failed ys) (cond passes (first_failed xs) number)
    go true number h e = e
    go false zero h e = absurd h
    go false (suc number) h e = refl

-- what holds of 0 and of each test's number holds of the first that fails
pub failed_in : (P : ℕ → Type 0) → P 0 → {xs : List (Bool × ℕ)} → All (λ x. P x.1) xs → P (first_failed xs)
unfolding first_failed
failed_in P z none = z
failed_in P z (one {x = x} h hs) = go x.0 (failed_in P z hs)
  where
    go : (b : Bool) {k : ℕ} → P k → P (cond b k x.1)
    go true r = r
    go false r = h

-- so the number n of the first ones decides where it refuses, and else the others do
pub first_decide : {n : ℕ} (xs ys : List (Bool × ℕ)) → n ≡ first_failed xs → (n ≡ 0 → ⊥) → n ≡ first_failed (xs ++ ys)
unfolding first_failed
first_decide [] ys e z = absurd (z e)
first_decide (x ∷ xs) ys e z = go x.0 e (λ q. first_decide xs ys q z)
  where
    go : (passes : Bool) {n : ℕ} → n ≡ cond passes (first_failed xs) x.1 → (n ≡ first_failed xs → n ≡ first_failed (xs ++ ys)) → n ≡ cond passes (first_failed (xs ++ ys)) x.1
    go true e k = k e
    go false e k = e

pub others_decide : {n r : ℕ} (xs ys : List (Bool × ℕ)) → T (numbered xs) → n ≡ first_failed xs → n ≡ 0 → r ≡ first_failed ys → r ≡ first_failed (xs ++ ys)
others_decide xs ys t e z k = k ∙ sym (appended xs ys t ∙ given_done _ _ _ (sym e ∙ z))

-- what comes after tests counts only where these pass
pub after : (xs ys zs : List (Bool × ℕ)) → T (numbered xs) → (first_failed xs ≡ 0 → first_failed ys ≡ first_failed zs)
    → first_failed (xs ++ ys) ≡ first_failed (xs ++ zs)
after xs ys zs t k = rw (appended xs ys t, appended xs zs t) (go (first_failed xs) k)
  where
    go : (n : ℕ) → (n ≡ 0 → first_failed ys ≡ first_failed zs) → given n (first_failed ys) n ≡ given n (first_failed zs) n
    go zero k = k refl
    go (suc n) k = refl

-- tests that all pass refuse nothing
pub all_pass : {xs : List (Bool × ℕ)} → All (λ x. T x.0) xs → first_failed xs ≡ 0
unfolding first_failed
all_pass none = refl
all_pass (one {x} t ts) = rw (is_true x.0 t) (all_pass ts)

pub both_pass : (xs ys : List (Bool × ℕ)) → first_failed xs ≡ 0 → first_failed ys ≡ 0 → first_failed (xs ++ ys) ≡ 0
unfolding first_failed
both_pass [] ys e k = k
both_pass (x ∷ xs) ys e k = go x.0 e (λ q. both_pass xs ys q k)
  where
    go : (passes : Bool) → cond passes (first_failed xs) x.1 ≡ 0 → (first_failed xs ≡ 0 → first_failed (xs ++ ys) ≡ 0) → cond passes (first_failed (xs ++ ys)) x.1 ≡ 0
    go true e k = k e
    go false e k = e

-- where nothing refuses, every test passes
module _ (n : ℕ) where
  same : (b a : Bool) → T a → T (cond b a a)
  same true a t = t
  same false a t = t

  first_holds : (passes : Bool) (number : ℕ) (xs : List (Bool × ℕ)) → T (ltb 0 number) → cond passes (first_failed xs) number ≡ 0
      → (first_failed xs ≡ 0 → T (holding n xs)) → T (cond (eqb number n) (passes && holding n xs) (holding n xs))
  first_holds true number xs h e rest = same (eqb number n) (holding n xs) (rest e)
  first_holds false zero xs h e rest = absurd h
  first_holds false (suc number) xs h e rest = absurd (omega arith)

  pub all_hold : (xs : List (Bool × ℕ)) → T (numbered xs) → first_failed xs ≡ 0 → T (holding n xs)
  unfolding first_failed numbered holding
  all_hold [] t e = tt
  all_hold (x ∷ xs) t e =
      first_holds x.0 x.1 xs (and_left (ltb 0 x.1) (numbered xs) t) e (all_hold xs (and_right (ltb 0 x.1) (numbered xs) t))

-- no number is above the largest of a refusal
unfoldable pub up_to : ℕ → List (Bool × ℕ) → Bool
up_to m [] = true
up_to m (test ∷ tests) = leb test.1 m && up_to m tests

pub number_most : (m : ℕ) (xs : List (Bool × ℕ)) → T (up_to m xs) → first_failed xs ≤ m
unfolding first_failed up_to
number_most m [] t = omega arith
number_most m (x ∷ xs) t =
    choice (λ (n : ℕ). n ≤ m) x.0 (λ _. number_most m xs (and_right (leb x.1 m) (up_to m xs) t)) (λ _. leb→le x.1 m (and_left (leb x.1 m) (up_to m xs) t))

-- where the number is none of the first tests', these pass
pub first_pass : (m : ℕ) (xs ys : List (Bool × ℕ)) → T (numbered xs) → T (up_to m xs) → {r : ℕ} → r ≡ first_failed (xs ++ ys) → (0 < r → m < r)
    → first_failed xs ≡ 0
first_pass m xs ys t u {r} e k = go (first_failed xs) (number_most m xs u) (e ∙ appended xs ys t)
  where
    go : (n : ℕ) → n ≤ m → r ≡ given n (first_failed ys) n → n ≡ 0
    go zero l q = refl
    go (suc n) l q = absurd (omega (arith, k (omega arith)))

-- where nothing refuses, none of the first tests does, nor of the others
pub front_passes : (xs ys : List (Bool × ℕ)) → T (numbered xs) → first_failed (xs ++ ys) ≡ 0 → first_failed xs ≡ 0
front_passes xs ys t e = go (first_failed xs) (sym e ∙ appended xs ys t)
  where
    go : (n : ℕ) → 0 ≡ given n (first_failed ys) n → n ≡ 0
    go zero q = refl
    go (suc n) q = sym q

pub others_pass : (xs ys : List (Bool × ℕ)) → T (numbered xs) → first_failed (xs ++ ys) ≡ 0 → first_failed ys ≡ 0
others_pass xs ys t e = sym (given_done _ _ _ (front_passes xs ys t e)) ∙ sym (appended xs ys t) ∙ e

-- field, n and t, where 2 and 3 do not refuse, by the number r that they give
pub field_numbered : (f : ℕ) → T (numbered (field_tests f))
unfolding field_tests numbered
field_numbered f = tt

pub field_passed : (f : ℕ) {r : ℕ} → r ≡ first_failed (field_tests f) → r ≡ 0 → InUse f
unfolding field_tests numbered holding
field_passed f e z = and_left (in_use f) true (all_hold 2 (field_tests f) tt (sym e ∙ z))

pub field_passes : (f : ℕ) → InUse f → first_failed (field_tests f) ≡ 0
unfolding field_tests
field_passes f u = all_pass (one u none)

module _ (f n t : ℕ) where
  pub setting_numbered : T (numbered (setting_tests f n t))
  unfolding field_tests setting_tests numbered
  setting_numbered = tt

  pub setting_passes : InUse f → Parties n t → first_failed (setting_tests f n t) ≡ 0
  unfolding setting_tests
  setting_passes u P = both_pass (field_tests f) _ (field_passes f u) (all_pass (one (parties_test P) none))

  module _ {r : ℕ} (e : r ≡ first_failed (setting_tests f n t)) (z : r ≡ 0) where
    pub setting_field : InUse f
    unfolding setting_tests
    setting_field = field_passed f refl (front_passes (field_tests f) _ (field_numbered f) (sym e ∙ z))

    pub setting_people : Parties n t
    unfolding field_tests setting_tests numbered holding
    setting_people = parties_facts n t (and_left (parties n t) true (all_hold 3 (setting_tests f n t) tt (sym e ∙ z)))

-- a test that a call answered, and one of numbers that a call gave
pub told : {a b c : Bool} → a ≡ b → a ≡ c → b ≡ c
told e q = sym e ∙ q

pub below : {v p q : ℕ} → p ≡ q → v < p → ltb v q ≡ true
below e h = lt-ltb _ _ (rw e at h)

pub not_below : {v p q : ℕ} → p ≡ q → p ≤ v → ltb v q ≡ false
not_below e h = le-ltb _ _ (rw e at h)

pub within : {v p q : ℕ} → p ≡ q → v ≤ p → leb v q ≡ true
within e h = le-leb _ _ (rw e at h)

pub beyond : {v p q : ℕ} → p ≡ q → p < v → leb v q ≡ false
beyond e h = lt-leb _ _ (rw e at h)

-- for `search`, at a return of a function that tries tests in their order
pub ruleset trying = (passes, fails, nothing_left, first_decide, others_decide, field_numbered, field_passed, setting_numbered, setting_field, setting_people, told, below, not_below, within, beyond, lt-ltb, le-ltb, le-leb, lt-leb, eq-eqb, ne_eqb)
