-- Who is present: the test of a set is exact, the parties that an opening is worked from are the lowest, and everyone is a permitted set.
-- Assumes nothing.
use mathlib.Core.Path.{◌≡◌, refl, sym, ap, ◌∙◌}
use mathlib.Core.Logic.{◌⊎◌, inl, inr, ⊎_elim}
use mathlib.Core.Bool.{Bool, true, false, cond}
use mathlib.Core.List.Memᴰ.{head as here}
use mathlib.Core.List.Memᴰ.{tail as there}
use mathlib.Core.List.{List, [], ◌∷◌, ◌++◌, append-nil, Memᴰ as In}
use Prim.Native.Nat.{ℕ, zero, suc, ◌+◌, ◌-◌, ◌/◌, ◌%◌, ◌^◌, ◌≤◌, ◌<◌}
use native.Mathlib.Nat.{pow-suc}
use native.Mathlib.Omega.{arith}
use borrow.Author.Tests.{eq-eqb}
use lib.Dec.{T, ltb, leb, ltb→lt, lt→ltb, leb→le, le→leb}
use lib.ListN.{length, take, length-append}
use lib.Seq.{length-take-le, take-append-le}
use lib.Pow.{pow_pos}
use Rattle.algebra.specs.Lists.{Distinct, from}
use Rattle.algebra.proofs.Lists.{in_from, from_in, length_from}
use Rattle.algebra.proofs.Tests.{and_left, and_right, and_both, true_false}
use Rattle.model.specs.Presence.{bit, is_present, present_in, absent_in, everyone, PermittedSet, permitted_set, openers, Lowest, Presence}
use Rattle.model.specs.Shamir.{Group}

-- Bits. A number below 2^k has none from bit k on, and one that has none from bit k on is below 2^k.
bit_zero : (i : ℕ) → bit 0 i ≡ false
unfolding bit
bit_zero zero = refl
bit_zero (suc i) = bit_zero i

pub bit_past : (k b i : ℕ) → b < 2 ^ k → k ≤ i → bit b i ≡ false
unfolding bit
bit_past zero b i h l = let z : b ≡ 0 = omega arith in rw z (bit_zero i)
bit_past (suc k) b zero h l = absurd (omega arith)
bit_past (suc k) b (suc i) h l = bit_past k (b / 2) i (omega (arith, pow-suc 2 k)) (omega arith)

bit_low : (b : ℕ) → bit b 0 ≡ false → b % 2 ≡ 0
unfolding bit
bit_low b e = go (b % 2) (omega arith) refl
  where
    go : (r : ℕ) → r < 2 → r ≡ b % 2 → b % 2 ≡ 0
    go zero h q = sym q
    go (suc zero) h q = absurd (true_false (sym (eq-eqb (b % 2) 1 (sym q)) ∙ e))
    go (suc (suc r)) h q = absurd (omega arith)

no_bits : (k b : ℕ) → b < 2 ^ k → ((i : ℕ) → bit b i ≡ false) → b ≡ 0
unfolding bit
no_bits zero b h e = omega arith
no_bits (suc k) b h e =
    let rest = no_bits k (b / 2) (omega (arith, pow-suc 2 k)) (λ i. e (suc i)) in
    omega (arith, bit_low b (e 0))

below_power : (b : ℕ) → b < 2 ^ b
below_power zero = omega arith
below_power (suc b) = omega (arith, below_power b, pow-suc 2 b)

none_past : (n b : ℕ) → ((i : ℕ) → n ≤ i → bit b i ≡ false) → b < 2 ^ n
unfolding bit
none_past zero b e = let z = no_bits b b (below_power b) (λ i. e i (omega arith)) in omega arith
none_past (suc n) b e = omega (arith, none_past n (b / 2) (λ i l. e (suc i) (omega arith)), pow-suc 2 n)

all_bits : (n i : ℕ) → i < n → bit (2 ^ n - 1) i ≡ true
unfolding bit
all_bits zero i h = absurd (omega arith)
all_bits (suc n) zero h = eq-eqb ((2 ^ suc n - 1) % 2) 1 (omega (arith, pow-suc 2 n, pow_pos n))
all_bits (suc n) (suc i) h =
    let half : (2 ^ suc n - 1) / 2 ≡ 2 ^ n - 1 = omega (arith, pow-suc 2 n, pow_pos n) in
    rw half (all_bits n i (omega arith))

-- every number is above those before it
abbrev pub Rising : List ℕ → Type 0
Rising [] = Unit {0}
Rising (x ∷ xs) = ((z : ℕ) → In z xs → x < z) × Rising xs

-- Those that are present and those that are absent.
module _ (b : ℕ) where
  -- what is true of both lists where it is true of the empty ones and goes on, whoever comes first
  halves : (P : List ℕ → List ℕ → List ℕ → Type 0) → P [] [] []
      → ((j : ℕ) (js xs ys : List ℕ) → is_present b j ≡ true → P js xs ys → P (j ∷ js) (j ∷ xs) ys)
      → ((j : ℕ) (js xs ys : List ℕ) → is_present b j ≡ false → P js xs ys → P (j ∷ js) xs (j ∷ ys))
      → (js : List ℕ) → P js (present_in b js) (absent_in b js)
  unfolding present_in absent_in
  halves P none came gone [] = none
  halves P none came gone (j ∷ js) = go (is_present b j) refl (halves P none came gone js)
    where
      go : (c : Bool) → is_present b j ≡ c → P js (present_in b js) (absent_in b js)
          → P (j ∷ js) (cond c (j ∷ present_in b js) (present_in b js)) (cond c (absent_in b js) (j ∷ absent_in b js))
      go true e rest = came j js _ _ e rest
      go false e rest = gone j js _ _ e rest

  lengths : (js : List ℕ) → length (present_in b js) + length (absent_in b js) ≡ length js
  lengths =
      halves (λ js xs ys. length xs + length ys ≡ length js) refl (λ j js xs ys e h. omega (arith, h)) (λ j js xs ys e h. omega (arith, h))

  -- whom they have
  record Split (js xs ys : List ℕ) : Type 0 where
    pub in_present : (z : ℕ) → In z xs → In z js × (is_present b z ≡ true)
    pub in_absent : (z : ℕ) → In z ys → In z js × (is_present b z ≡ false)
    pub present_in_lem : (z : ℕ) → In z js → is_present b z ≡ true → In z xs
    pub rises : Rising js → Rising xs × Rising ys

  split : (js : List ℕ) → Split js (present_in b js) (absent_in b js)
  split = halves Split (record { in_present = λ z m. absurd (no m); in_absent = λ z m. absurd (no m); present_in_lem = λ z m e. absurd (no m); rises = λ r. (tt, tt) }) one_here one_gone
    where
      no : {z : ℕ} → In z [] → ⊥
      no = elim [ ]

      one_here : (j : ℕ) (js xs ys : List ℕ) → is_present b j ≡ true → Split js xs ys → Split (j ∷ js) (j ∷ xs) ys
      one_here j js xs ys e R = record { in_present = a; in_absent = λ z m. (there (R.in_absent z m).0, (R.in_absent z m).1); present_in_lem = c; rises = λ r. let h = R.rises r.1 in ((λ z m. r.0 z (R.in_present z m).0, h.0), h.1) }
        where
          a : (z : ℕ) → In z (j ∷ xs) → In z (j ∷ js) × (is_present b z ≡ true)
          a z (here q) = (here q, rw q e)
          a z (there m) = (there (R.in_present z m).0, (R.in_present z m).1)

          c : (z : ℕ) → In z (j ∷ js) → is_present b z ≡ true → In z (j ∷ xs)
          c z (here q) h = here q
          c z (there m) h = there (R.present_in_lem z m h)

      one_gone : (j : ℕ) (js xs ys : List ℕ) → is_present b j ≡ false → Split js xs ys → Split (j ∷ js) xs (j ∷ ys)
      one_gone j js xs ys e R = record { in_present = λ z m. (there (R.in_present z m).0, (R.in_present z m).1); in_absent = a; present_in_lem = c; rises = λ r. let h = R.rises r.1 in (h.0, (λ z m. r.0 z (R.in_absent z m).0, h.1)) }
        where
          a : (z : ℕ) → In z (j ∷ ys) → In z (j ∷ js) × (is_present b z ≡ false)
          a z (here q) = (here q, rw q e)
          a z (there m) = (there (R.in_absent z m).0, (R.in_absent z m).1)

          c : (z : ℕ) → In z (j ∷ js) → is_present b z ≡ true → In z xs
          c z (here q) h = absurd (true_false (sym h ∙ (rw q e)))
          c z (there m) h = R.present_in_lem z m h

  everyone_present : (js : List ℕ) → ((z : ℕ) → In z js → is_present b z ≡ true) → (present_in b js ≡ js) × (absent_in b js ≡ [])
  everyone_present =
      halves (λ js xs ys. ((z : ℕ) → In z js → is_present b z ≡ true) → (xs ≡ js) × (ys ≡ [])) (λ k. (refl, refl))
      (λ j js xs ys e h k. (ap (λ (l : List ℕ). j ∷ l) (h (λ z m. k z (there m))).0, (h (λ z m. k z (there m))).1))
      (λ j js xs ys e h k. absurd (true_false (sym (k j (here refl)) ∙ e)))

-- Rising lists, and the front of one.
pub rising_from : (k m : ℕ) → Rising (from k m)
unfolding from
rising_from k zero = tt
rising_from k (suc m) = (λ z i. omega (arith, in_from (suc k) m i), rising_from (suc k) m)

pub rising_distinct : (xs : List ℕ) → Rising xs → Distinct xs
rising_distinct [] r = tt
rising_distinct (x ∷ xs) r = (λ z m e. omega (arith, r.0 z m), rising_distinct xs r.1)

pub in_take : (k : ℕ) (xs : List ℕ) {z : ℕ} → In z (take k xs) → In z xs
in_take (suc k) (x ∷ xs) (here e) = here e
in_take (suc k) (x ∷ xs) (there m) = there (in_take k xs m)
in_take zero xs {z = z} x' = elim x' [ ]
in_take (suc k) [] {z = z} x3 = elim x3 [ ]

front_lower : (k : ℕ) (xs : List ℕ) → Rising xs → (z : ℕ) → In z xs → (In z (take k xs) → ⊥) → (x : ℕ) → In x (take k xs) → x < z
front_lower (suc k) (y ∷ ys) r z (here e) n x i = absurd (n (here e))
front_lower (suc k) (y ∷ ys) r z (there m) n x (here e) = rw e (r.0 z m)
front_lower (suc k) (y ∷ ys) r z (there m) n x (there i) = front_lower k ys r.1 z m (λ l. n (there l)) x i
front_lower zero xs r z _ n x i = elim i [ ]
front_lower (suc k) [] r z x12 n x i = elim x12 [ ]

pub distinct_take : (k : ℕ) (xs : List ℕ) → Distinct xs → Distinct (take k xs)
distinct_take zero xs d = tt
distinct_take (suc k) [] d = tt
distinct_take (suc k) (x ∷ xs) d = (λ z m. d.0 z (in_take k xs m), distinct_take k xs d.1)

in_append : (xs ys : List ℕ) {z : ℕ} → In z (xs ++ ys) → In z xs ⊎ In z ys
in_append [] ys m = inr m
in_append (x ∷ xs) ys (here e) = inl (here e)
in_append (x ∷ xs) ys (there m) = ⊎_elim (λ l. inl (there l)) (λ l. inr l) (in_append xs ys m)

distinct_append : (xs ys : List ℕ) → Distinct xs → Distinct ys → ((z : ℕ) → In z xs → In z ys → ⊥) → Distinct (xs ++ ys)
distinct_append [] ys d f k = f
distinct_append (x ∷ xs) ys d f k =
    (λ z m e. ⊎_elim (λ l. d.0 z l e) (λ l. k x (here refl) (rw e at l)) (in_append xs ys m), distinct_append xs ys d.1 f (λ z m. k z (there m)))

-- the first of a run of numbers
take_from : (k m j : ℕ) → k ≤ m → take k (from j m) ≡ from j k
unfolding from
take_from zero m j h = refl
take_from (suc k) zero j h = absurd (omega arith)
take_from (suc k) (suc m) j h = ap (λ (l : List ℕ). j ∷ l) (take_from k m (suc j) (omega arith))

-- whoever is present, an opening is worked from different parties of 1 to n, t + 1 where there are so many
module _ (n t b : ℕ) where
  both : List ℕ
  both = present_in b (from 1 n) ++ absent_in b (from 1 n)

  pub openers_in : (z : ℕ) → In z (openers n t b) → (1 ≤ z) × (z ≤ n)
  unfolding openers both
  openers_in z m =
      let R = split b (from 1 n) in
      let parties = ⊎_elim (λ l. (R.in_present z l).0) (λ l. (R.in_absent z l).0) (in_append (present_in b (from 1 n)) (absent_in b (from 1 n)) (in_take (suc t) both m)) in
      let l = in_from 1 n parties in
      (l.0, omega arith)

  pub openers_distinct : Distinct (openers n t b)
  unfolding openers both
  openers_distinct =
      let R = split b (from 1 n) in
      let r = R.rises (rising_from 1 n) in
      let xs = present_in b (from 1 n) in
      let ys = absent_in b (from 1 n) in
      distinct_take (suc t) both
      (distinct_append xs ys (rising_distinct xs r.0) (rising_distinct ys r.1) (λ z m l. true_false (sym (R.in_present z m).1 ∙ (R.in_absent z l).1)))

  pub openers_group : t < n → Group n (suc t) (openers n t b)
  unfolding openers both
  openers_group h =
      record {
        points =
            record {
              count = length-take-le (suc t) both (rw length-append (omega (arith, lengths b (from 1 n), length_from 1 n)));
              distinct = openers_distinct;
              most = λ z m. (openers_in z m).1;
            };
        least = λ z m. (openers_in z m).0;
      }

opened_from : (n t b : ℕ) → PermittedSet n t b → Lowest n t b (openers n t b)
unfolding openers
opened_from n t b Q =
    let js = from 1 n in
    let R = split b js in
    let r = (R.rises (rising_from 1 n)).0 in
    let mine : (z : ℕ) → In z (take (suc t) (present_in b js)) → In z js × (is_present b z ≡ true) = λ z m. R.in_present z (in_take (suc t) (present_in b js) m) in
    rw (take-append-le (suc t) (present_in b js) (absent_in b js) Q.enough)
    (record {
      count = length-take-le (suc t) (present_in b js) Q.enough;
      distinct = distinct_take (suc t) (present_in b js) (rising_distinct (present_in b js) r);
      parties = λ z m. let l = in_from 1 n (mine z m).0 in (l.0, omega arith);
      present_all = λ z m. (mine z m).1;
      lowest = λ z a c e k x m. front_lower (suc t) (present_in b js) r z (R.present_in_lem z (from_in 1 n z a (omega arith)) e) k x m;
    })

-- the test
beyond : (n b : ℕ) → b < 2 ^ n → (j : ℕ) → n < j → is_present b j ≡ false
beyond n b h zero l = refl
beyond n b h (suc i) l = bit_past n b i h (omega arith)

tested_to : (n t b : ℕ) → T (permitted_set n t b) → PermittedSet n t b
unfolding permitted_set
tested_to n t b h =
    record {
      none_beyond = beyond n b (ltb→lt b (2 ^ n) (and_left (ltb b (2 ^ n)) _ h));
      enough = leb→le (suc t) _ (and_right (ltb b (2 ^ n)) _ h);
    }

tested_from : (n t b : ℕ) → PermittedSet n t b → T (permitted_set n t b)
unfolding permitted_set
tested_from n t b Q =
    and_both (ltb b (2 ^ n)) (leb (suc t) (length (present_in b (from 1 n)))) (lt→ltb b (2 ^ n) (none_past n b (λ i l. Q.none_beyond (suc i) (omega arith)))) (le→leb (suc t) _ Q.enough)

-- everyone
all_present : (n j : ℕ) → 1 ≤ j → j ≤ n → is_present (everyone n) j ≡ true
unfolding everyone
all_present n zero a b = absurd (omega arith)
all_present n (suc i) a b = all_bits n i (omega arith)

everyone_in : (n : ℕ) → (present_in (everyone n) (from 1 n) ≡ from 1 n) × (absent_in (everyone n) (from 1 n) ≡ [])
everyone_in n = everyone_present (everyone n) (from 1 n) (λ z m. let l = in_from 1 n m in all_present n z l.0 (omega arith))

pub all_permitted : (n t : ℕ) → t < n → PermittedSet n t (everyone n)
unfolding everyone
all_permitted n t h =
    record {
      none_beyond = beyond n (2 ^ n - 1) (omega (arith, pow_pos n));
      enough = rw ((everyone_in n).0, length_from) (omega arith);
    }

pub all_open : (n t : ℕ) → t < n → openers n t (everyone n) ≡ from 1 (suc t)
unfolding openers
all_open n t h = rw ((everyone_in n).0, (everyone_in n).1, append-nil, take_from (suc t) n 1 (omega arith))

pub presence : Presence
presence =
    record {
      tested = λ n t b. (tested_to n t b, tested_from n t b);
      opened_from = opened_from;
      all_present = all_present;
      all_permitted = all_permitted;
      all_open = all_open;
    }
