-- A row is a sharing just if its shares are below p and each is what the t + 1 shares after it give.
-- Assumes nothing.
use mathlib.Core.Path.{◌≡◌, sym, ap, ◌∙◌}
use mathlib.Core.List.{List}
use Prim.Native.Nat.{ℕ, zero, suc, ◌+◌, ◌-◌, ◌%◌, ◌≤◌, ◌<◌}
use native.Mathlib.Nat.{mod-eq_of_lt}
use native.Mathlib.Decide.{dec_le}
use native.Mathlib.Omega.{arith}
use Rattle.algebra.specs.Lists.{from}
use Rattle.algebra.specs.Rows.{row}
use Rattle.algebra.proofs.Lists.{in_from, from_in, length_from}
use Rattle.algebra.proofs.Rows.{row_ext}
use Rattle.model.specs.Fields.{Modulus, Parties}
use Rattle.model.specs.Sharing.{eval, share, Sharing, interpolate, at, weighted}
use Rattle.model.proofs.Polynomials.{positive, length_interpolate, below_interpolate, interpolate_eval}
use Rattle.model.proofs.Sharings.{Seat, nodes_from, value}
use Rattle.model.proofs.Weights.{value_before, weighted_cong}

-- the value at i that the t + 1 shares after it give
abbrev pub before : ℕ → ℕ → List ℕ → ℕ → ℕ
before p e x i = weighted p (from 1 e) (λ k. at 0 x (i + k)) % p

module _ {p n t : ℕ} (M : Modulus p) (P : Parties n t) where
  pub extrapolated : {x : List ℕ} → Sharing p n t x → (i : ℕ) → Seat n i → i + suc t ≤ n → before p (suc t) x i ≡ at 0 x i
  extrapolated {x} s i k l =
      ap (λ (a : ℕ). a % p) (weighted_cong p (from 1 (suc t)) _ _ (λ z m.
      let b = in_from 1 (suc t) m in value M P s 0 (i + z) (record { least = omega arith; most = omega arith })))
      ∙ value_before M (suc t) s.poly (omega arith) s.size s.below i ∙ sym (value M P s 0 i k)

  module _ (x : List ℕ) (low : (z : ℕ) → Seat n z → at 0 x z < p)
      (steps : (i : ℕ) → Seat n i → i + suc t ≤ n → before p (suc t) x i ≡ at 0 x i) where
    -- the polynomial through the last t + 1 shares
    last : List ℕ
    last = interpolate p (from (n - t) (suc t)) (at 0 x)

    last_values : (z : ℕ) → Seat n z → n ≤ t + z → eval p last z ≡ at 0 x z
    unfolding last
    last_values z k l =
        interpolate_eval M (from (n - t) (suc t)) (at 0 x) (nodes_from (n - t) (suc t) (omega arith))
        (from_in (n - t) (suc t) z (omega arith) (omega arith))
        ∙ mod-eq_of_lt (low z k)

    -- takes the shares d places before them, too
    down : (d z : ℕ) → Seat n z → n ≤ t + z + d → eval p last z ≡ at 0 x z
    down zero z k l = last_values z k (omega arith)
    down (suc d) z k l = go (dec_le n (t + z + d)) (down d)
      where
        go : Dec (n ≤ t + z + d) → ((z : ℕ) → Seat n z → n ≤ t + z + d → eval p last z ≡ at 0 x z) → eval p last z ≡ at 0 x z
        go (yes a) up = up z k a
        go (no a) up =
            unfold last in
            sym (value_before M (suc t) last (omega arith) (length_interpolate p _ _ ∙ length_from (n - t) (suc t)) (below_interpolate (positive M) _ _) z)
            ∙ ap (λ (a : ℕ). a % p) (weighted_cong p (from 1 (suc t)) _ _ (λ y m.
            let b = in_from 1 (suc t) m in up (z + y) (record { least = omega arith; most = omega arith }) (omega arith)))
            ∙ steps z k (omega arith)

    pub sharing_steps : x ≡ row n (λ j. at 0 x (suc j)) → Sharing p n t x
    unfolding last share
    sharing_steps e =
        record {
          poly = last;
          size = length_interpolate p _ _ ∙ length_from (n - t) (suc t);
          below = below_interpolate (positive M) _ _;
          is = e ∙ row_ext n _ _ (λ j k. sym (down n (suc j) (record { least = omega arith; most = k }) (omega arith)));
        }
