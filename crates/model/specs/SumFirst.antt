-- Request 4, "Sum first, reduce after": what is summed, that the sum fits, that the secret is its remainder, and what the entry gives. "no result
-- changes": runs and recovery are defined by `secret` of Sharing, the value at 0, and not by the sum.
-- Assumes nothing.
use Rattle.std.specs.Prelude.{◌≡◌, ◌≢◌, ℕ, suc, ◌+◌, ◌-◌, ◌*◌, ◌%◌, ◌^◌, ◌≤◌, ◌<◌, length, replicate}
use mathlib.Core.List.{List, ◌∷◌, Memᴰ as In}
use Rattle.algebra.specs.Lists.{Below, from, total}
use Rattle.algebra.specs.Rows.{padded}
use Rattle.model.specs.Fields.{Parties, modulus, InUse}
use Rattle.model.specs.Sharing.{Sharing, at, secret, weight, secret_sum}
use Rattle.model.specs.Entries.{recover_number, recover_value, sum_number, sum_value}

-- "Our test room's hand sheet": for the thresholds 1, 2 and 3 the sum of a row, a sharing or not, share by share with its weight. The first t + 1 shares
-- are named, and the others are not summed.
pub record HandSheet (p : ℕ) (others : List ℕ) : Type 0 where
  pub two : (a b : ℕ) → secret_sum p 1 (a ∷ b ∷ others) ≡ 2 * a + (p - 1) * b
  pub three : (a b c : ℕ) → secret_sum p 2 (a ∷ b ∷ c ∷ others) ≡ 3 * a + (p - 3) * b + 1 * c
  pub four : (a b c d : ℕ) → secret_sum p 3 (a ∷ b ∷ c ∷ d ∷ others) ≡ 4 * a + (p - 6) * b + 4 * c + (p - 1) * d

-- of a field in use
pub record ProductsFit (p : ℕ) : Type 0 where
  -- "its weight below p": of each party, among whichever parties
  pub weights_below : (xs : List ℕ) (x : ℕ) → weight p xs x < p
  -- four products of numbers below p, summed, fit 64 bits
  pub four_products : (xs : List ℕ) (a b : ℕ → ℕ) → length xs ≤ 4 → ((z : ℕ) → In z xs → (a z < p) × (b z < p)) → total xs (λ z. a z * b z) < 2 ^ 64

-- of the reconstruction of a row's secret, for every field in use and all thresholds that the paper permits
pub record Reconstructs (p t : ℕ) : Type 0 where
  -- "each of shares 1 to t + 1 by its weight", and "At most four products are summed": one for each of these parties
  pub products : (x : List ℕ) → secret_sum p t x ≡ total (from 1 (suc t)) (λ j. weight p (from 1 (suc t)) j * at 0 x j)
  pub at_most_four : length (from 1 (suc t)) ≤ 4
  -- "the sum fits 64 bits", where shares are below p
  pub row_fits : (x : List ℕ) → Below p x → secret_sum p t x < 2 ^ 64
  -- "its remainder by p is the secret"
  pub reduced_last : (x : List ℕ) → secret_sum p t x % p ≡ secret p t x

-- of the entry, whatever it is handed
pub record SumEntry (f n t : ℕ) (xs : List ℕ) : Type 0 where
  -- where it does not refuse, it is handed a sharing, n shares below p, and gives the row's sum; a refusal gives 0
  pub takes : sum_number f n t xs ≡ 0 → InUse f × Parties n t × (length xs ≡ n) × Below (modulus f) xs × Sharing (modulus f) n t (padded xs)
  pub gives : sum_number f n t xs ≡ 0 → sum_value f n t xs ≡ secret_sum (modulus f) t xs
  pub refused : sum_number f n t xs ≢ 0 → sum_value f n t xs ≡ 0
  -- "the sum fits 64 bits", and the largest is `attained` below
  pub sum_fits : sum_value f n t xs < 2 ^ 64
  pub largest : sum_value f n t xs ≤ 9223372026117357570
  -- "so that the two compare": its remainder is what recovery gives, and "It refuses as recovery does", where that is lent the t places that it asks for
  pub remainder : (out : List ℕ) → length out ≡ t → sum_value f n t xs % modulus f ≡ recover_value f n t xs out
  pub refuses : (out : List ℕ) → length out ≡ t → sum_number f n t xs ≡ recover_number f n t xs out

pub record SumFirst : Type 0 where
  pub hand_sheet : (f : ℕ) → InUse f → (others : List ℕ) → HandSheet (modulus f) others
  pub products_fit : (f : ℕ) → InUse f → ProductsFit (modulus f)
  pub reconstructs : (f n t : ℕ) → InUse f → Parties n t → Reconstructs (modulus f) t
  pub entry : (f n t : ℕ) (xs : List ℕ) → SumEntry f n t xs
  -- the largest sum: all shares are p − 1 in field 3, with t = 3
  pub attained : (sum_number 3 7 3 (replicate 7 2147483646) ≡ 0) × (sum_value 3 7 3 (replicate 7 2147483646) ≡ 9223372026117357570)
