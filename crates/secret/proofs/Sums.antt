-- The weighted sum as a loop has it, term by term, and that it fits 64 bits.
-- Assumes nothing.
use mathlib.Core.Path.{◌≡◌, refl}
use mathlib.Core.List.{List}
use Prim.Native.Nat.{ℕ, suc, ◌+◌, ◌-◌, ◌*◌, ◌^◌, ◌≤◌, ◌<◌}
use native.Mathlib.Nat.{add-mul, add-le-add, mul-le-mul, mul-le-mul_left, zero-add}
use native.Mathlib.Numerals.{add-one}
use native.Mathlib.Omega.{arith}
use lib.ListN.{get_or}
use Rattle.algebra.specs.Lists.{from, total}
use Rattle.algebra.proofs.Lists.{total_more, total_front}
use Rattle.model.specs.Fields.{Modulus}
use Rattle.model.specs.Sharing.{at, weight, weighted, secret_sum}
use Rattle.model.proofs.Weights.{weighted_cong}
use Rattle.model.proofs.SumFirst.{weights_total}

-- The first m of e terms are summed, party i + k's being its weight times its share. No share is over 2^32 - 1.
pub record Summing (p e : ℕ) (x : List ℕ) (i m s : ℕ) : Type 0 where
  pub done : m ≤ e
  pub is : s ≡ total (from 1 m) (λ k. weight p (from 1 e) k * at 0 x (i + k))
  pub most : s ≤ total (from 1 m) (weight p (from 1 e)) * 4294967295

pub summing_start : (p e : ℕ) (x : List ℕ) (i : ℕ) → Summing p e x i 0 0
unfolding from total
summing_start p e x i = record { done = omega arith; is = refl; most = omega arith }

module _ {p e : ℕ} {x : List ℕ} {i m s : ℕ} (S : Summing p e x i m s) where
  -- one term more
  pub summing_more : {w v : ℕ} → m < e → w ≡ weight p (from 1 e) (m + 1) → v ≡ get_or x (i + m) 0 → v < 2 ^ 32 → Summing p e x i (m + 1) (s + w * v)
  summing_more {w} {v} l a b c =
      let k : 1 + m ≡ suc m = omega arith in
      let j : i + suc m ≡ suc (i + m) = omega arith in
      record {
        done = omega arith;
        is = rw (S.is, a, b, add-one, total_more 1 m _, k, j);
        most = rw (add-one, total_more 1 m _, k, add-mul, a, add-one) (add-le-add S.most (mul-le-mul_left (weight p (from 1 e) (suc m)) (omega arith)));
      }

  -- a sum that is made so fits
  pub summing_fits : Modulus p → e ≤ 4 → s < 2 ^ 64
  summing_fits M h =
      let d : m + (e - m) ≡ e = omega (arith, S.done) in
      let front = rw d at (total_front 1 m (e - m) (weight p (from 1 e))) in
      omega (
        arith,
        S.most,
        mul-le-mul {n₁ = total (from 1 m) (weight p (from 1 e))} {m₁ = 4294967295} {n₂ = 4294967295} {m₂ = 4294967295} (omega (arith, front, weights_total M e h, M.word)) (omega arith),
      )

  pub summing_end : e ≤ m → s ≡ weighted p (from 1 e) (λ k. at 0 x (i + k))
  unfolding weighted
  summing_end l = let q : m ≡ e = omega (arith, S.done) in rw q at S.is

-- the sum of the shares from the first on
pub sum_from_first : (p t : ℕ) (x : List ℕ) → weighted p (from 1 (t + 1)) (λ k. at 0 x (0 + k)) ≡ secret_sum p t x
unfolding secret_sum
sum_from_first p t x = rw add-one (weighted_cong p (from 1 (suc t)) _ (at 0 x) (λ z _. rw zero-add))
