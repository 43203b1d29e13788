-- Examples that compute, so that no promise about sharings and groups is empty: the rows of the paper's printed run (field 0, n 3, t 1),
-- a row of each larger field, weights, and a row that is no sharing.
-- Assumes nothing.
use mathlib.Core.Path.{◌≡◌, refl}
use mathlib.Core.Bool.{false}
use mathlib.Core.Logic.{◌≢◌}
use mathlib.Core.List.Memᴰ
use mathlib.Core.List.Memᴰ.{head as here}
use mathlib.Core.List.Memᴰ.{tail as there}
use mathlib.Core.List.{[], ◌∷◌, Memᴰ as In}
use Prim.Native.Nat.{ℕ, suc, ◌≤◌}
use native.Mathlib.Omega.{arith}
use Rattle.algebra.specs.Ring.{add, sub, mul}
use Rattle.algebra.specs.Lists.{from, same_list}
use Rattle.algebra.specs.Rows.{tab, row, padded}
use Rattle.model.specs.Fields.{modulus, in_use, inverse, Parties}
use Rattle.model.specs.Sharing.{eval, newton, reciprocal, slope, interpolate, share, Sharing, recover, secret, is_sharing, ratio, weight}
use Rattle.model.specs.Shamir.{Group}
use Rattle.figures.specs.TwinSheets.{Groups}
use Rattle.model.proofs.Fields.{fields}
use Rattle.model.proofs.Sharings.{test_exact}

pub figures : (recover 13 1 (padded (7 ∷ 9 ∷ 11 ∷ [])) ≡ 5 ∷ 2 ∷ [])
    × (recover 13 1 (padded (7 ∷ 11 ∷ 2 ∷ [])) ≡ 3 ∷ 4 ∷ [])
    × (secret 13 1 (padded (7 ∷ 12 ∷ 4 ∷ [])) ≡ 2)
    × (recover 251 3 (share 251 7 (1 ∷ 250 ∷ 5 ∷ 99 ∷ [])) ≡ 1 ∷ 250 ∷ 5 ∷ 99 ∷ [])
    × (recover 65521 2 (share 65521 5 (170 ∷ 65520 ∷ 7 ∷ [])) ≡ 170 ∷ 65520 ∷ 7 ∷ [])
    × (recover 2147483647 3 (share 2147483647 7 (1 ∷ 2147483646 ∷ 5 ∷ 99 ∷ [])) ≡ 1 ∷ 2147483646 ∷ 5 ∷ 99 ∷ [])
    × (tab 4 (λ j. weight 251 (from 1 4) (suc j)) ≡ 4 ∷ 245 ∷ 4 ∷ 250 ∷ [])
    × (is_sharing 13 3 1 (padded (7 ∷ 9 ∷ 12 ∷ [])) ≡ false)
unfolding add sub mul from tab row inverse eval newton reciprocal slope interpolate share recover secret same_list is_sharing ratio weight
figures = (refl, refl, refl, refl, refl, refl, refl, refl)

pub three_and_one : Parties 3 1
three_and_one = omega arith

pub a_sharing_lem : Sharing 13 3 1 (padded (7 ∷ 9 ∷ 11 ∷ []))
unfolding add sub mul from tab row inverse eval newton reciprocal slope interpolate share recover same_list is_sharing modulus in_use
a_sharing_lem = (test_exact {n = 3} {t = 1} (fields 0 tt).modulus_is three_and_one (padded (7 ∷ 9 ∷ 11 ∷ []))).0 tt

-- a list of three
each : (P : ℕ → Type 0) {a b c : ℕ} → P a → P b → P c → (z : ℕ) → In z (a ∷ b ∷ c ∷ []) → P z
each P x y w z (here e) = rw e x
each P x y w z (there (here e)) = rw e y
each P x y w z (there (there (here e))) = rw e w
each P {a = a} {b = b} {c = c} x y w z (there (there (there x13))) = elim x13 [ ]

-- one party of three, and three of seven
pub one_party : (j : ℕ) → 1 ≤ j → j ≤ 3 → Group 3 1 (j ∷ [])
one_party j l h =
    record {
      points = record { count = refl; distinct = (λ z m. absurd (Memᴰ.not-nil m), tt); most = λ z m. rw (Memᴰ.eq_of_singleton m) h };
      least = λ z m. rw (Memᴰ.eq_of_singleton m) l;
    }

pub groups : Groups
groups =
    record {
      first_party = one_party 1 (omega arith) (omega arith);
      last_party = one_party 3 (omega arith) (omega arith);
      three_parties =
          record {
            points =
                record {
                  count = refl;
                  distinct = (two_apart, (λ z m. rw (Memᴰ.eq_of_singleton m) (λ e. omega arith), (λ z m. absurd (Memᴰ.not-nil m), tt)));
                  most = each (λ z. z ≤ 7) (omega arith) (omega arith) (omega arith);
                };
            least = each (λ z. 1 ≤ z) (omega arith) (omega arith) (omega arith);
          };
    }
  where
    two_apart : (z : ℕ) → In z (4 ∷ 7 ∷ []) → z ≢ 1
    two_apart z (here e) = λ q. omega arith
    two_apart z (there (here e)) = λ q. omega arith
    two_apart z (there (there x8)) = elim x8 [ ]
