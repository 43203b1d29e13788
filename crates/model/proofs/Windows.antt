-- Shares on one polynomial, told by windows: where every t + 1 neighbouring points give one value at 0, all points are on the polynomial through the first
-- t + 1. Two neighbouring windows share t points, and with 0 these are t + 1 points at which their polynomials are the same.
-- Assumes nothing.
use mathlib.Core.Path.{◌≡◌, refl, sym, ap, ◌∙◌}
use mathlib.Core.Logic.{◌≢◌, ◌⊎◌, inl, inr, ⊎_elim}
use mathlib.Core.Bool.{Bool, true, false, cond}
use mathlib.Core.List.Memᴰ.{head as here}
use mathlib.Core.List.Memᴰ.{tail as there}
use mathlib.Core.List.{List, [], ◌∷◌, Memᴰ as In}
use Prim.Native.Nat.{ℕ, zero, suc, ◌+◌, ◌-◌, ◌%◌, ◌≤◌, ◌<◌}
use native.Mathlib.Nat.{mod-eq_of_lt}
use native.Mathlib.Decide.{dec_lt}
use native.Mathlib.Omega.{arith}
use lib.Dec.{eqb}
use lib.ListN.{length, take}
use lib.Seq.{length-take-le, take_all}
use Rattle.algebra.specs.Lists.{from, Distinct}
use Rattle.model.specs.Fields.{Modulus, Parties}
use Rattle.model.specs.Sharing.{eval, interpolate, at, value_from}
use Rattle.model.specs.Replay.{present_at, present_of, through, opened_value}
use Rattle.model.specs.Replays.{OnOne}
use Rattle.model.proofs.Polynomials.{Nodes, interpolate_cong, length_interpolate, below_interpolate, positive, interpolate_eval, interpolate_only, same_values}
use Rattle.model.proofs.Presence.{rising_from, rising_distinct, in_take}
use Rattle.model.proofs.Sharings.{nodes_distinct}
use Rattle.model.proofs.RecordOpenings.{present_rises, present_party, present_there, there_present, present_distinct, lowest_group, through_is}

nodes_take : (k : ℕ) (xs : List ℕ) → Nodes xs → Nodes (take k xs)
nodes_take zero xs n = tt
nodes_take (suc k) [] n = tt
nodes_take (suc k) (x ∷ xs) n = (λ z m. n.0 z (in_take k xs m), nodes_take k xs n.1)

-- Points with values f.
module _ (p t : ℕ) (f : ℕ → ℕ) where
  -- the polynomial through the first t + 1
  abbrev first : List ℕ → List ℕ
  first xs = interpolate p (take (suc t) xs) f

  -- every t + 1 neighbours give v at 0
  abbrev Neighbours : ℕ → List ℕ → Type 0
  Neighbours v [] = Unit {0}
  Neighbours v (x ∷ xs) = (suc t ≤ length (x ∷ xs) → eval p (first (x ∷ xs)) 0 ≡ v) × Neighbours v xs

  first_gives : (v : ℕ) (xs : List ℕ) → suc t ≤ length xs → Neighbours v xs → eval p (first xs) 0 ≡ v
  first_gives v [] h k = absurd (omega arith)
  first_gives v (x ∷ xs) h k = k.0 h

module _ {p : ℕ} (M : Modulus p) (t : ℕ) (f : ℕ → ℕ) where
  on_first : (v : ℕ) (xs : List ℕ) → Nodes (0 ∷ xs) → suc t ≤ length xs → Neighbours p t f v xs → (z : ℕ) → In z xs
      → eval p (first p t f xs) z ≡ f z % p
  on_first v [] n h k = absurd (omega arith)
  on_first v (x ∷ xs) n h k = go (dec_lt t (length xs)) (λ l. on_first v xs (λ z m. n.0 z (there m), n.1.1) l k.1)
    where
      go : Dec (t < length xs) → (t < length xs → (z : ℕ) → In z xs → eval p (first p t f xs) z ≡ f z % p)
          → (z : ℕ) → In z (x ∷ xs) → eval p (first p t f (x ∷ xs)) z ≡ f z % p
      go (no l) rest z m = rw (take_all (suc t) (x ∷ xs) (omega arith)) (interpolate_eval M (x ∷ xs) f n.1 m)
      go (yes l) rest z m = found z m
        where
          -- this window without its first point, and 0
          agree : (z : ℕ) → In z (0 ∷ take t xs) → eval p (first p t f (x ∷ xs)) z ≡ eval p (first p t f xs) z
          agree z (here e) = rw e (k.0 h ∙ sym (first_gives p t f v xs l k.1))
          agree z (there m) = interpolate_eval M (x ∷ take t xs) f (nodes_take (suc t) (x ∷ xs) n.1) (there m) ∙ sym (rest l z (in_take t xs m))

          same : first p t f (x ∷ xs) ≡ first p t f xs
          same =
              let c : length (take t xs) ≡ t = length-take-le t xs (omega arith) in
              let d : length (take (suc t) xs) ≡ suc t = length-take-le (suc t) xs l in
              same_values M (0 ∷ take t xs) _ _ (λ z m. n.0 z (there (in_take t xs m)), nodes_take t xs n.1.1)
              (length_interpolate p (take (suc t) (x ∷ xs)) f) (length_interpolate p (take (suc t) xs) f ∙ d ∙ ap suc (sym c))
              (below_interpolate (positive M) (take (suc t) (x ∷ xs)) f) (below_interpolate (positive M) (take (suc t) xs) f) agree

          found : (z : ℕ) → In z (x ∷ xs) → eval p (first p t f (x ∷ xs)) z ≡ f z % p
          found z (here e) = interpolate_eval M (x ∷ take t xs) f (nodes_take (suc t) (x ∷ xs) n.1) (here e)
          found z (there m) = rw same (rest l z m)

-- what some parties give asks for their shares only
pub value_same : (p : ℕ) (xs x y : List ℕ) → ((z : ℕ) → In z xs → at 0 x z ≡ at 0 y z) → value_from p xs x ≡ value_from p xs y
unfolding value_from
value_same p xs x y k = ap (λ (q : List ℕ). eval p q 0) (interpolate_cong p xs (at 0 x) (at 0 y) k)

-- Of an opening x: the windows among those present, each by the party z that it comes after.
module _ (p n t : ℕ) (x : List ℕ) where
  abbrev pub present_after : ℕ → List ℕ
  present_after z = present_at p n t x (from (suc z) (n - z))

  abbrev pub window : ℕ → List ℕ
  window z = take (suc t) (present_after z)

  -- one party less: its share was absent, or stood first
  after_less : (z : ℕ) → z < n → (present_after z ≡ present_after (suc z)) ⊎ (present_after z ≡ suc z ∷ present_after (suc z))
  unfolding present_at from
  after_less z h =
      let e : n - z ≡ suc (n - suc z) = omega arith in
      rw e (go (eqb (at 0 x (suc z)) p))
    where
      go : (b : Bool) → (cond b (present_after (suc z)) (suc z ∷ present_after (suc z)) ≡ present_after (suc z))
          ⊎ (cond b (present_after (suc z)) (suc z ∷ present_after (suc z)) ≡ suc z ∷ present_after (suc z))
      go true = inl refl
      go false = inr refl

  -- and none after the last party
  after_none : (z : ℕ) → n ≤ z → present_after z ≡ []
  unfolding present_at from
  after_none z h = let e : n - z ≡ 0 = omega arith in rw e

  pub after_all : present_after 0 ≡ present_of p n t x
  after_all = let e : n - 0 ≡ n = omega arith in rw e

  -- those after a party are among all
  in_after : (z i : ℕ) → In i (present_after z) → In i (present_of p n t x)
  in_after zero i m = rw after_all at m
  in_after (suc z) i m = go (dec_lt z n) (in_after z i)
    where
      none : In i [] → ⊥
      none = elim [ ]

      go : Dec (z < n) → (In i (present_after z) → In i (present_of p n t x)) → In i (present_of p n t x)
      go (yes l) all = all (⊎_elim (λ e. rw e m) (λ e. rw e (there m)) (after_less z l))
      go (no l) all = absurd (none (rw (after_none (suc z) (omega arith)) at m))

  after_distinct : (z : ℕ) → Distinct (present_after z)
  after_distinct z = rising_distinct (present_after z) (present_rises p n t x (from (suc z) (n - z)) (rising_from (suc z) (n - z)))

module _ {p n t : ℕ} (M : Modulus p) (P : Parties n t) (x : List ℕ) where
  nodes : Nodes (0 ∷ present_of p n t x)
  nodes = (
    λ z m. let l = present_party p n t x z m in record { left = omega arith; right = omega (arith, P.most); differ = λ e. omega arith },
    nodes_distinct (present_of p n t x) (present_distinct p n t x) (λ z m. omega (arith, (present_party p n t x z m).1, P.most)),
  )

  -- the windows one after the other
  neighbours : (v : ℕ) → ((z : ℕ) → suc t ≤ length (present_after p n t x z) → value_from p (window p n t x z) x ≡ v)
      → (m z : ℕ) → z + m ≡ n → Neighbours p t (at 0 x) v (present_after p n t x z)
  unfolding value_from
  neighbours v k zero z e = rw (after_none p n t x z (omega arith)) tt
  neighbours v k (suc m) z e = go (after_less p n t x z (omega arith)) (neighbours v k m (suc z) (omega arith))
    where
      go : (present_after p n t x z ≡ present_after p n t x (suc z)) ⊎ (present_after p n t x z ≡ suc z ∷ present_after p n t x (suc z))
          → Neighbours p t (at 0 x) v (present_after p n t x (suc z)) → Neighbours p t (at 0 x) v (present_after p n t x z)
      go (inl q) rest = rw q rest
      go (inr q) rest = rw q (λ h. rw q at (k z (rw q h)), rest)

  -- all windows give one value: all shares that are present are on one polynomial
  pub windows_on_one : (v : ℕ) → ((i : ℕ) → 1 ≤ i → i ≤ n → at 0 x i ≤ p) → suc t ≤ length (present_of p n t x)
      → ((z : ℕ) → suc t ≤ length (present_after p n t x z) → value_from p (window p n t x z) x ≡ v) → OnOne p n t x
  unfolding through
  windows_on_one v most enough k =
      let xs = present_of p n t x in
      record {
        most = most;
        parties = take (suc t) xs;
        group = lowest_group p n t x enough;
        there = λ i m. present_there p n t x i (in_take (suc t) xs m);
        poly = through p n t x;
        size = length_interpolate p (take (suc t) xs) (at 0 x) ∙ length-take-le (suc t) xs enough;
        below = below_interpolate (positive M) (take (suc t) xs) (at 0 x);
        takes = λ i a b e. on_first M t (at 0 x) v xs nodes enough (rw (after_all p n t x) at (neighbours v k n 0 (omega arith))) i (there_present p n t x i a b e) ∙ mod-eq_of_lt (low i a b e);
      }
    where
      low : (i : ℕ) → 1 ≤ i → i ≤ n → at 0 x i ≢ p → at 0 x i < p
      low i a b e = omega (arith, most i a b, e)

  -- and where they are, every window gives the opened value
  pub on_one_windows : OnOne p n t x → (z : ℕ) → suc t ≤ length (present_after p n t x z) → value_from p (window p n t x z) x ≡ opened_value p n t x
  unfolding value_from opened_value
  on_one_windows o z h =
      let xs = window p n t x z in
      let inside : (i : ℕ) → In i xs → In i (present_of p n t x) = λ i m. in_after p n t x z i (in_take (suc t) (present_after p n t x z) m) in
      ap (λ (q : List ℕ). eval p q 0)
      (interpolate_cong p xs (at 0 x) (eval p o.poly) (λ i m. let l = present_party p n t x i (inside i m) in sym (o.takes i l.0 l.1 (present_there p n t x i (inside i m))))
      ∙ interpolate_only M xs o.poly (nodes_take (suc t) (present_after p n t x z) after_nodes) (o.size ∙ sym (length-take-le (suc t) (present_after p n t x z) h)) o.below
      ∙ sym (through_is M P x o))
    where
      after_nodes : Nodes (present_after p n t x z)
      after_nodes = nodes_distinct (present_after p n t x z) (after_distinct p n t x z) (λ i m. omega (arith, (present_party p n t x i (in_after p n t x z i m)).1, P.most))
