-- The loop over an opening's numbers, from the last column to the first.
-- Assumes nothing.
use mathlib.Core.Path.{◌≡◌, sym, ◌∙◌}
use mathlib.Core.Logic.{◌≢◌}
use mathlib.Core.List.{List, [], ◌∷◌}
use Prim.Native.Nat.{ℕ, zero, suc, ◌+◌, ◌-◌, ◌*◌, ◌/◌, ◌%◌, ◌^◌, ◌≤◌, ◌<◌}
use native.Mathlib.Nat.{pow-suc}
use native.Mathlib.Decide.{ℕ_discrete}
use native.Mathlib.Omega.{arith}
use borrow.Author.Tests.{eq-eqb, ne_eqb}
use lib.Dec.{eqb}
use lib.ListN.{length, get_or, set}
use lib.Pow.{pow_mono}
use lib.Seq.{get_or-set_same, get_or-set_other}
use Rattle.algebra.proofs.Lists.{below_nil, below_cons}
use Rattle.model.specs.Presence.{bit}
use Rattle.presence.proofs.Presences.{below_set}
use Rattle.from_record.specs.Showing.{is_share, Gathered, Further}
use Rattle.from_record.specs.declared.shown.Shown.{Shown}

-- a bit before the others
bit_first : (b c i : ℕ) → c < 2 → bit (2 * b + c) (suc i) ≡ bit b i
unfolding bit
bit_first b c i h = let e : (2 * b + c) / 2 ≡ b = omega arith in rw e

bits_more : (p n j b c : ℕ) (xs : List ℕ) → c < 2 → eqb c 1 ≡ is_share p (get_or xs j 0)
    → ((i : ℕ) → suc j + i < n → bit b i ≡ is_share p (get_or xs (suc j + i) 0)) → (i : ℕ) → j + i < n → bit (2 * b + c) i ≡ is_share p (get_or xs (j + i) 0)
unfolding bit
bits_more p n j b c xs h e k zero l =
    let q : (2 * b + c) % 2 ≡ c = omega arith in
    let s : j + 0 ≡ j = omega arith in
    rw (q, s) e
bits_more p n j b c xs h e k (suc i) l = let s : j + suc i ≡ suc j + i = omega arith in rw s (bit_first b c i h ∙ k i (omega arith))

small_more : (n j b c : ℕ) → j < n → c < 2 → b < 2 ^ (n - suc j) → 2 * b + c < 2 ^ (n - j)
small_more n j b c l h k = let e : n - j ≡ suc (n - suc j) = omega arith in rw e (omega (arith, pow-suc 2 (n - suc j)))

module _ {p j number : ℕ} {x : Shown} where
  pub share_more : length x.shares ≡ 7 → j < 7 → number < p → Further p j number x (record { shares = set x.shares j number; present = 2 * x.present + 1 })
  share_more s l h n xs m e G =
      record {
        most = λ i a b. most n xs e G i (ℕ_discrete i j) a b;
        below = below_set x.shares j G.below h;
        same = λ i a b d. same n xs e G i (ℕ_discrete i j) a b d;
        bits = bits_more p n j x.present 1 xs (omega arith) (rw (e, ne_eqb number p (λ o. omega arith))) G.bits;
        small = small_more n j x.present 1 m (omega arith) G.small;
      }
    where
      most : (n : ℕ) (xs : List ℕ) → get_or xs j 0 ≡ number → Gathered p n (suc j) xs x → (i : ℕ) → Dec (i ≡ j) → j ≤ i → i < n → get_or xs i 0 ≤ p
      most n xs e G i (yes o) a b = rw (o, e) (omega arith)
      most n xs e G i (no o) a b = G.most i (omega arith) b

      same : (n : ℕ) (xs : List ℕ) → get_or xs j 0 ≡ number → Gathered p n (suc j) xs x → (i : ℕ) → Dec (i ≡ j) → j ≤ i → i < n → get_or xs i 0 ≢ p
          → get_or (set x.shares j number) i 0 ≡ get_or xs i 0
      same n xs e G i (yes o) a b d = rw (o, get_or-set_same x.shares j number 0 (omega arith)) (sym e)
      same n xs e G i (no o) a b d = get_or-set_other x.shares j i number 0 o ∙ G.same i (omega arith) b d

  pub none_more : number ≤ p → p ≤ number → Further p j number x (record { shares = x.shares; present = 2 * x.present })
  none_more u v n xs m e G =
      let o : number ≡ p = omega arith in
      let z : 2 * x.present ≡ 2 * x.present + 0 = omega arith in
      rw z (record {
        most = λ i a b. most n xs e G i (ℕ_discrete i j) a b;
        below = G.below;
        same = λ i a b d. G.same i (other n xs e i (ℕ_discrete i j) a d) b d;
        bits = bits_more p n j x.present 0 xs (omega arith) (rw (e, eq-eqb number p o)) G.bits;
        small = small_more n j x.present 0 m (omega arith) G.small;
      })
    where
      most : (n : ℕ) (xs : List ℕ) → get_or xs j 0 ≡ number → Gathered p n (suc j) xs x → (i : ℕ) → Dec (i ≡ j) → j ≤ i → i < n → get_or xs i 0 ≤ p
      most n xs e G i (yes o) a b = rw (o, e) u
      most n xs e G i (no o) a b = G.most i (omega arith) b

      other : (n : ℕ) (xs : List ℕ) → get_or xs j 0 ≡ number → (i : ℕ) → Dec (i ≡ j) → j ≤ i → get_or xs i 0 ≢ p → suc j ≤ i
      other n xs e i (yes o) a d = absurd (d (rw (o, e) (omega arith)))
      other n xs e i (no o) a d = omega arith

-- before the first turn
pub gathered_start : (p n : ℕ) (xs : List ℕ) → 0 < p → Gathered p n n xs (record { shares = 0 ∷ 0 ∷ 0 ∷ 0 ∷ 0 ∷ 0 ∷ 0 ∷ []; present = 0 })
gathered_start p n xs h =
    record {
      most = λ i a b. absurd (omega arith);
      below = below_cons h (below_cons h (below_cons h (below_cons h (below_cons h (below_cons h (below_cons h (below_nil p)))))));
      same = λ i a b d. absurd (omega arith);
      bits = λ i b. absurd (omega arith);
      small = let e : n - n ≡ 0 = omega arith in rw e (omega arith);
    }

-- what is known of some columns
module _ {p n j : ℕ} {xs : List ℕ} {x : Shown} (G : Gathered p n j xs x) where
  pub small_word : 1 ≤ j → n ≤ 7 → x.present < 64
  small_word a l = omega (arith, G.small, pow_mono {i = n - j} {j = 6} (omega arith))

  pub small_byte : x.present < 2 ^ n
  small_byte = omega (arith, G.small, pow_mono {i = n - j} {j = n} (omega arith))
