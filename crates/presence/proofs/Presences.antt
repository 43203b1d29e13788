-- The lowest present parties as a loop finds them, party by party, and their weights.
-- Assumes nothing.
use mathlib.Core.Path.{◌≡◌, refl, sym, ap, subst, ◌∙◌}
use mathlib.Core.Bool.{Bool, true, false, cond}
use mathlib.Core.Logic.{◌⊎◌, inl, inr}
use mathlib.Core.List.{List, [], ◌∷◌, ◌++◌, map, map-append, append-nil, append_assoc}
use Prim.Native.Nat.{ℕ, zero, suc, ◌+◌, ◌-◌, ◌/◌, ◌%◌, ◌^◌, ◌≤◌, ◌<◌}
use native.Mathlib.Nat.{min-le_left, pow-suc, div-one, lt-div-mul-add, div-eq_of_lt, div-div-eq-div-mul, mul_comm}
use native.Mathlib.Numerals.{add-one}
use native.Mathlib.Omega.{arith}
use borrow.Author.Tests.{lt-ltb, leb-true, leb-false, eqb-true, eq-eqb, ne_eqb}
use lib.Dec.{ltb, leb, eqb, ltb→lt}
use lib.ListN.{length, get_or, set, take, drop, length-append, length-set, length-take, drop_of_length-le, take-append-drop}
use lib.Pow.{pow_pos}
use lib.Seq.{length-take-le, take_all, take-nil, take-append-le, take-suc-set, take-suc, drop-cons, get_or-take, get_or-set_other}
use Rattle.algebra.specs.Ring.{sub, mul}
use Rattle.algebra.specs.Lists.{Below, from}
use Rattle.algebra.proofs.Ring.{ring, mod-ring, reduced}
use Rattle.algebra.proofs.Tests.{is_true, is_false}
use Rattle.algebra.proofs.Lists.{below_nil, below_head, below_tail, below_cons}
use Rattle.model.specs.Fields.{Modulus, InUse, modulus, inverse}
use Rattle.model.proofs.Fields.{fields}
use Rattle.model.proofs.Presence.{presence}
use Rattle.model.specs.Presence.{bit, is_present, present_in, absent_in, everyone, openers, permitted_set, PermittedSet}
use Rattle.model.specs.Sharing.{reciprocal, ratio, weight}
use Rattle.presence.specs.Openings.{LowestOf, FirstWeights, parties_of, weights_of, WorkedBy}
use Rattle.presence.specs.declared.Found.{Found}
use Rattle.presence.specs.declared.Opening.{Opening}

-- bit j stands lowest once the bits before it are gone
pub bit_left : (b j : ℕ) → bit b j ≡ eqb (b / 2 ^ j % 2) 1
unfolding bit
bit_left b zero = rw div-one
bit_left b (suc j) = bit_left (b / 2) j ∙ rw (div-div-eq-div-mul, pow-suc 2 j, mul_comm 2)

-- one party more
from_last : (k m : ℕ) → from k (suc m) ≡ from k m ++ ((k + m) ∷ [])
unfolding from
from_last k zero = ap (λ (z : ℕ). z ∷ []) (omega arith)
from_last k (suc m) = ap (λ (l : List ℕ). k ∷ l) (from_last (suc k) m ∙ ap (λ (z : ℕ). from (suc k) m ++ (z ∷ [])) (omega arith))

present_append : (b : ℕ) (xs ys : List ℕ) → present_in b (xs ++ ys) ≡ present_in b xs ++ present_in b ys
unfolding present_in
present_append b [] ys = refl
present_append b (x ∷ xs) ys = rw (present_append b xs ys) (go (is_present b x))
  where
    go : (c : Bool) → cond c (x ∷ (present_in b xs ++ present_in b ys)) (present_in b xs ++ present_in b ys) ≡ cond c (x ∷ present_in b xs) (present_in b xs) ++ present_in b ys
    go true = refl
    go false = refl

module _ (b j : ℕ) where
  more : present_in b (from 1 (suc j)) ≡ present_in b (from 1 j) ++ present_in b (suc j ∷ [])
  more = ap (present_in b) (from_last 1 j ∙ ap (λ (z : ℕ). from 1 j ++ (z ∷ [])) (omega arith)) ∙ present_append b (from 1 j) (suc j ∷ [])

  one_more : b / 2 ^ j % 2 ≡ 1 → present_in b (from 1 (suc j)) ≡ present_in b (from 1 j) ++ (suc j ∷ [])
  one_more e = more ∙ ap (λ (l : List ℕ). present_in b (from 1 j) ++ l) (unfold present_in in rw (bit_left b j, eq-eqb (b / 2 ^ j % 2) 1 e))

  none_more : (b / 2 ^ j % 2 ≡ 1 → ⊥) → present_in b (from 1 (suc j)) ≡ present_in b (from 1 j)
  none_more e = more ∙ ap (λ (l : List ℕ). present_in b (from 1 j) ++ l) {y = []} (unfold present_in in rw (bit_left b j, ne_eqb (b / 2 ^ j % 2) 1 e)) ∙ append-nil (present_in b (from 1 j))

pub shifted : (b j : ℕ) → b / 2 ^ j / 2 ≡ b / 2 ^ suc j
shifted b j = rw (div-div-eq-div-mul, pow-suc 2 j)

pub below_set : {p : ℕ} (l : List ℕ) (i : ℕ) {v : ℕ} → Below p l → v < p → Below p (set l i v)
below_set [] i B h = B
below_set (x ∷ xs) zero B h = below_cons h (below_tail B)
below_set (x ∷ xs) (suc i) B h = below_cons (below_head B) (below_set xs i (below_tail B) h)

some_set : (n : ℕ) (l : List ℕ) (i : ℕ) {v : ℕ} → 1 ≤ v → ((k : ℕ) → k < n → 1 ≤ get_or l k 0) → (k : ℕ) → k < n → 1 ≤ get_or (set l i v) k 0
some_set zero l i h s k m = absurd (omega arith)
some_set (suc n) [] i h s k m = s k m
some_set (suc n) (x ∷ xs) zero h s zero m = h
some_set (suc n) (x ∷ xs) zero h s (suc k) m = s (suc k) m
some_set (suc n) (x ∷ xs) (suc i) h s zero m = s zero m
some_set (suc n) (x ∷ xs) (suc i) h s (suc k) m = some_set n xs i h (λ j l. s (suc j) (omega arith)) k (omega arith)

-- the first e of a list, where it has fewer, and where it has so many
short : (e : ℕ) (xs : List ℕ) → length (take e xs) < e → length xs < e
short zero xs h = absurd (omega arith)
short (suc e) [] h = omega arith
short (suc e) (x ∷ xs) h = let r = short e xs (omega arith) in omega arith

full : (e : ℕ) (xs : List ℕ) → (length (take e xs) < e → ⊥) → e ≤ length xs
full zero xs h = omega arith
full (suc e) [] h = absurd (h (omega arith))
full (suc e) (x ∷ xs) h = let r = full e xs (λ l. h (omega arith)) in omega arith

-- The first j parties were looked at: what is found of them, and of one party more.
pub record Looked (j e b : ℕ) (parties : List ℕ) (count : ℕ) : Type 0 where
  pub size : length parties ≡ 4
  pub found : LowestOf j e b (record { parties = parties; count = count; beyond = b / 2 ^ j })

pub looked_none : (e b : ℕ) → Looked 0 e b (1 ∷ 1 ∷ 1 ∷ 1 ∷ []) 0
unfolding from present_in
looked_none e b =
    let z : 1 < 8 = omega arith in
    record {
      size = refl;
      found =
          record {
            parties = sym (take-nil e);
            count = rw (take-nil {A = ℕ} e);
            beyond = refl;
            low = below_cons z (below_cons z (below_cons z (below_cons z (below_nil 8))));
            some = all_ones;
          };
    }
  where
    all_ones : (i : ℕ) → i < 4 → 1 ≤ get_or (1 ∷ 1 ∷ 1 ∷ 1 ∷ []) i 0
    all_ones zero h = omega arith
    all_ones (suc zero) h = omega arith
    all_ones (suc (suc zero)) h = omega arith
    all_ones (suc (suc (suc zero))) h = omega arith
    all_ones (suc (suc (suc (suc i)))) h = absurd (omega arith)

module _ {j e b : ℕ} {parties : List ℕ} {count : ℕ} (K : Looked j e b parties count) where
  pub takes : j < 7 → e ≤ 4 → b / 2 ^ j % 2 ≡ 1 → count < e → Looked (j + 1) e b (set parties count (j + 1)) (count + 1)
  takes h k o c =
      let R = K.found in
      let P = present_in b (from 1 j) in
      let m = short e P (rw (← R.count) c) in
      let all : take e P ≡ P = take_all e P (omega arith) in
      let next : take e (present_in b (from 1 (suc j))) ≡ P ++ (suc j ∷ []) =
      rw (one_more b j o) (take_all e (P ++ (suc j ∷ [])) (rw length-append (omega arith))) in
      rw (add-one j)
      (record {
        size = rw length-set K.size;
        found =
            record {
              parties = rw (add-one count, take-suc-set parties count (suc j) (omega (arith, K.size)), R.parties, all, next);
              count = rw (next, length-append, R.count, all);
              beyond = refl;
              low = below_set parties count R.low (omega arith);
              some = some_set 4 parties count (omega arith) R.some;
            };
      })

  -- a party where enough are found, and one that is absent
  pub left_out : (b / 2 ^ j % 2 ≡ 1) × (e ≤ count) ⊎ (b / 2 ^ j % 2 ≡ 1 → ⊥) → Looked (j + 1) e b parties count
  left_out h =
      let R = K.found in
      rw (add-one j)
      (record {
        size = K.size;
        found = record { parties = rw (same h) R.parties; count = rw (same h) R.count; beyond = refl; low = R.low; some = R.some };
      })
    where
      same : (b / 2 ^ j % 2 ≡ 1) × (e ≤ count) ⊎ (b / 2 ^ j % 2 ≡ 1 → ⊥) → take e (present_in b (from 1 (suc j))) ≡ take e (present_in b (from 1 j))
      same (inl (o, c)) =
          let P = present_in b (from 1 j) in
          rw (more b j) (take-append-le e P (present_in b (suc j ∷ [])) (full e P (λ l. omega (arith, c, K.found.count))))
      same (inr o) = ap (take e) (none_more b j o)

-- the test of a set
module _ {n b : ℕ} (t : ℕ) {x : Found} (R : LowestOf n (t + 1) b x) where
  pub permits : x.beyond ≡ 0 → eqb x.count (t + 1) ≡ permitted_set n t b
  unfolding permitted_set
  permits z =
      let q : b / 2 ^ n ≡ 0 = sym R.beyond ∙ z in
      let low : b < 2 ^ n = omega (arith, rw q at (lt-div-mul-add {a = b} {b = 2 ^ n} (pow_pos n))) in
      rw (lt-ltb b (2 ^ n) low) (go (leb (suc t) (length (present_in b (from 1 n)))) refl)
    where
      go : (c : Bool) → leb (suc t) (length (present_in b (from 1 n))) ≡ c → eqb x.count (t + 1) ≡ c
      go true e = let l : suc t ≤ length (present_in b (from 1 n)) = leb-true _ _ e in eq-eqb x.count (t + 1) (R.count ∙ length-take-le (t + 1) (present_in b (from 1 n)) (omega arith))
      go false e =
          let l : length (present_in b (from 1 n)) < suc t = leb-false _ _ e in
          let q : x.count ≡ length (present_in b (from 1 n)) = R.count ∙ ap length (take_all (t + 1) (present_in b (from 1 n)) (omega arith)) in
          ne_eqb x.count (t + 1) (λ h. omega arith)

  pub bits_beyond : (x.beyond ≡ 0 → ⊥) → false ≡ permitted_set n t b
  unfolding permitted_set
  bits_beyond z = rw (is_false (ltb b (2 ^ n)) (λ h. z (R.beyond ∙ div-eq_of_lt (ltb→lt b (2 ^ n) h))))

-- the parties that an opening is worked from
pub worked_from : {n b t : ℕ} {x : Found} → LowestOf n (suc t) b x → PermittedSet n t b → take (suc t) x.parties ≡ openers n t b
unfolding openers
worked_from {n} {b} {t} {x} R Q =
    let P = present_in b (from 1 n) in
    let many : x.count ≡ suc t = R.count ∙ length-take-le (suc t) P Q.enough in
    rw (take-append-le (suc t) P (absent_in b (from 1 n)) Q.enough) (rw many at R.parties)

below_parts : {p : ℕ} (xs ys : List ℕ) → Below p (xs ++ ys) → Below p xs × Below p ys
below_parts {p} [] ys B = (below_nil p, B)
below_parts (x ∷ xs) ys B = let r = below_parts xs ys (below_tail B) in (below_cons (below_head B) r.0, r.1)

-- a weight, from the last party to the first
pub weight_start : (p x e : ℕ) (zs : List ℕ) → 1 ≡ weight p (drop e (take e zs)) x
unfolding weight
weight_start p x e zs = rw (drop_of_length-le (take e zs) {i = e} (rw length-take (min-le_left e (length zs))))

pub weight_more : (p x e : ℕ) (zs : List ℕ) (i : ℕ) {r w z : ℕ} → 0 < i → i ≤ e → e ≤ length zs → r ≡ ratio p x (get_or zs (i - 1) 0) → w ≡ weight p (drop i (take e zs)) x
    → z ≡ mul p r w → z ≡ weight p (drop (i - 1) (take e zs)) x
weight_more p x e zs i h l k a b c =
    let s : suc (i - 1) ≡ i = omega arith in
    let m : i - 1 < length (take e zs) = rw (length-take-le e zs k) (omega arith) in
    c ∙ rw (drop-cons (take e zs) (i - 1) 0 m, s, get_or-take e zs (i - 1) 0 (omega arith), a, b) (unfold weight in refl)

-- x's weight among some parties, from the last of them to the first: those that are left, and the weight among the others
pub record Weighed (p x : ℕ) (parties left : List ℕ) (w : ℕ) : Type 0 where
  pub others : List ℕ
  pub whole : left ++ others ≡ parties
  pub is : w ≡ weight p others x
  pub less : w < p
  pub low : Below 8 left

pub weighed_start : (p x e : ℕ) (zs left : List ℕ) → 1 < p → Below 8 zs → left ≡ take e zs → Weighed p x (take e zs) left 1
unfolding weight
weighed_start p x e zs left h B q =
    let low = (below_parts (take e zs) (drop e zs) (rw (take-append-drop e zs) B)).0 in
    record { others = []; whole = rw append-nil q; is = refl; less = h; low = rw q low }

-- the next party, and its ratio
pub weighed_low : {p x : ℕ} {parties left : List ℕ} {w : ℕ} → Weighed p x parties left w → (left' : List ℕ) (z : ℕ) → left ≡ left' ++ (z ∷ []) → z < 8
weighed_low W left' z q = below_head (below_parts left' (z ∷ []) (rw q at W.low)).1

pub weighed_more : {p x : ℕ} {parties left : List ℕ} {w : ℕ} → Weighed p x parties left w → (left' : List ℕ) (z : ℕ) → left ≡ left' ++ (z ∷ [])
    → {w' : ℕ} → (w' ≡ mul p (ratio p x z) w) × (w' < p) → Weighed p x parties left' w'
weighed_more W left' z q e =
    record {
      others = z ∷ W.others;
      whole = sym (append_assoc left' (z ∷ []) W.others) ∙ (rw q at W.whole);
      is = unfold weight in rw (← W.is) e.0;
      less = e.1;
      low = (below_parts left' (z ∷ []) (rw q at W.low)).0;
    }

pub weighed_end : {p x : ℕ} {parties left : List ℕ} {w : ℕ} → Weighed p x parties left w → length left ≡ 0 → w ≡ weight p parties x
weighed_end {left = []} W e = rw (← W.whole) W.is
weighed_end {left = z ∷ zs} W e = absurd (omega arith)

-- weights, from the first to the last: the first i of e stand in the list, and 0 past them
pub record Weighing (p : ℕ) (parties : List ℕ) (e i : ℕ) (ws : List ℕ) : Type 0 where
  pub done : i ≤ e
  pub size : length ws ≡ 4
  pub weights : take i ws ≡ map (weight p (take e parties)) (take i (take e parties))
  pub past : (k : ℕ) → i ≤ k → get_or ws k 0 ≡ 0

pub weighing_start : (p : ℕ) (parties : List ℕ) (e : ℕ) → Weighing p parties e 0 (0 ∷ 0 ∷ 0 ∷ 0 ∷ [])
weighing_start p parties e = record { done = omega arith; size = refl; weights = refl; past = λ k _. zeros k }
  where
    zeros : (k : ℕ) → ◌≡◌ {A = ℕ} (get_or (0 ∷ 0 ∷ 0 ∷ 0 ∷ []) k 0) 0
    zeros zero = refl
    zeros (suc zero) = refl
    zeros (suc (suc zero)) = refl
    zeros (suc (suc (suc zero))) = refl
    zeros (suc (suc (suc (suc k)))) = refl

module _ {p : ℕ} {parties : List ℕ} {e i : ℕ} {ws : List ℕ} (W : Weighing p parties e i ws) (l : length parties ≡ 4) (h : e ≤ 4) where
  pub weighing_more : {w : ℕ} → i < e → w ≡ weight p (take e parties) (get_or parties i 0) → Weighing p parties e (i + 1) (set ws i w)
  weighing_more {w} k q =
      let xs = take e parties in
      let m : i < length xs = rw (length-take-le e parties (omega arith)) k in
      let at : w ≡ weight p xs (get_or xs i 0) = rw (get_or-take e parties i 0 k) q in
      record {
        done = omega arith;
        size = rw length-set W.size;
        weights = rw add-one (take-suc-set ws i w (omega (arith, W.size)) ∙ rw (W.weights, take-suc xs i 0 m, map-append, at));
        past = λ z n. get_or-set_other ws i z w 0 (λ e. omega arith) ∙ W.past z (omega arith);
      }

  pub weighing_end : e ≤ i → FirstWeights p parties e ws
  weighing_end k =
      let q : i ≡ e = omega (arith, W.done) in
      record {
        weights = rw q at W.weights ∙ rw (take_all e (take e parties) (rw (length-take-le e parties (omega arith)) (omega arith)));
        past = λ z n. W.past z (omega arith);
      }

-- the first of parties 1 to 4
pub first_at : (i : ℕ) → i < 4 → get_or (from 1 4) i 0 ≡ i + 1
unfolding from
first_at zero h = refl
first_at (suc zero) h = refl
first_at (suc (suc zero)) h = refl
first_at (suc (suc (suc zero))) h = refl
first_at (suc (suc (suc (suc i)))) h = absurd (omega arith)

pub first_all : (e : ℕ) → e ≤ 4 → take e (from 1 4) ≡ from 1 e
unfolding from
first_all zero h = refl
first_all (suc zero) h = refl
first_all (suc (suc zero)) h = refl
first_all (suc (suc (suc zero))) h = refl
first_all (suc (suc (suc (suc zero)))) h = refl
first_all (suc (suc (suc (suc (suc e))))) h = absurd (omega arith)

-- the modulus of a field
pub modulus_of : (f : ℕ) {p : ℕ} → InUse f → p ≡ modulus f → Modulus p
modulus_of f h e = rw e (fields f h).modulus_is

-- a ratio, of a party and itself and of another
pub own_ratio : (p x z : ℕ) {w : ℕ} → w < p → z ≡ x → (w ≡ mul p (ratio p x z) w) × (w < p)
own_ratio p x z {w} h e =
    (unfold ratio in rw (eq-eqb z x e) (sym (reduced h (let k : 0 < p = omega arith in simp mod-ring (ring k _ _ _ _ (omega arith))))), h)

pub ratio_other : (p x z : ℕ) {a b d r : ℕ} → (z ≡ x → ⊥) → a ≡ inverse p (z - x) → b ≡ inverse p (x - z) → d ≡ sub p a b → r ≡ mul p z d → r ≡ ratio p x z
ratio_other p x z n ea eb ed er = unfold ratio reciprocal in rw (ne_eqb z x n, ← ea, ← eb, ← ed) er

-- the points of what was found
pub four : (l : List ℕ) → length l ≡ 4 → get_or l 0 0 ∷ get_or l 1 0 ∷ get_or l 2 0 ∷ get_or l 3 0 ∷ [] ≡ l
four [] e = absurd (omega arith)
four (a ∷ []) e = absurd (omega arith)
four (a ∷ b ∷ []) e = absurd (omega arith)
four (a ∷ b ∷ c ∷ []) e = absurd (omega arith)
four (a ∷ b ∷ c ∷ d ∷ []) e = refl
four (a ∷ b ∷ c ∷ d ∷ x ∷ xs) e = absurd (omega arith)

pub opens_by : {p n t b : ℕ} {x : Found} {ws : List ℕ} (o : Opening) → LowestOf n (suc t) b x → PermittedSet n t b → FirstWeights p x.parties (suc t) ws
    → o.present ≡ b → parties_of o ≡ x.parties → weights_of o ≡ ws → WorkedBy p n t o
opens_by {p} {n} {t} o R Q W eb ep ew =
    record {
      parties = ap (take (suc t)) ep ∙ worked_from R Q ∙ ap (openers n t) (sym eb);
      weights = subst (λ (l : List ℕ). FirstWeights p l (suc t) (weights_of o)) (sym ep) (subst (FirstWeights p _ (suc t)) (sym ew) W);
      some = subst (λ (l : List ℕ). (i : ℕ) → i < 4 → 1 ≤ get_or l i 0) (sym ep) R.some;
      low = subst (Below 8) (sym ep) R.low;
    }

-- everyone: a permitted set, and the points of parties 1 to t + 1
pub everyone_may : (n t b : ℕ) {a : Bool} → t < n → a ≡ eqb b (everyone n) → a ≡ true → true ≡ permitted_set n t b
everyone_may n t b h e q =
    let p = eqb-true b (everyone n) (sym e ∙ q) in
    rw p (sym (is_true (permitted_set n t (everyone n)) ((presence.tested n t (everyone n)).1 (presence.all_permitted n t h))))

pub opens_all : {p n t b : ℕ} {a : Bool} {ws : List ℕ} (o : Opening) → t ≤ 3 → t < n → a ≡ eqb b (everyone n) → a ≡ true → FirstWeights p (from 1 4) (suc t) ws
    → o.present ≡ b → parties_of o ≡ 1 ∷ 2 ∷ 3 ∷ 4 ∷ [] → weights_of o ≡ ws → WorkedBy p n t o
unfolding from
opens_all {p} {n} {t} {b} o h k e q W eb ep ew =
    let all = eqb-true b (everyone n) (sym e ∙ q) in
    record {
      parties = ap (take (suc t)) ep ∙ first_all (suc t) (omega arith) ∙ sym (ap (openers n t) (eb ∙ all) ∙ presence.all_open n t k);
      weights = subst (λ (l : List ℕ). FirstWeights p l (suc t) (weights_of o)) (sym ep) (subst (FirstWeights p (1 ∷ 2 ∷ 3 ∷ 4 ∷ []) (suc t)) (sym ew) W);
      some = subst (λ (l : List ℕ). (i : ℕ) → i < 4 → 1 ≤ get_or l i 0) (sym ep) some;
      low = subst (Below 8) (sym ep) (below_cons (omega arith) (below_cons (omega arith) (below_cons (omega arith) (below_cons (omega arith) (below_nil 8)))));
    }
  where
    some : (i : ℕ) → i < 4 → 1 ≤ get_or (1 ∷ 2 ∷ 3 ∷ 4 ∷ []) i 0
    some zero h = omega arith
    some (suc zero) h = omega arith
    some (suc (suc zero)) h = omega arith
    some (suc (suc (suc zero))) h = omega arith
    some (suc (suc (suc (suc i)))) h = absurd (omega arith)
