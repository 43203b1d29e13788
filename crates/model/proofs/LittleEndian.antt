-- The number in w bytes and the w bytes of a number undo each other, at any place of a list.
-- Assumes nothing.
use mathlib.Core.Path.{◌≡◌, refl, ap}
use mathlib.Core.List.{List, [], ◌∷◌, ◌++◌}
use Prim.Native.Nat.{ℕ, zero, suc, ◌+◌, ◌*◌, ◌/◌, ◌%◌, ◌^◌, ◌≤◌, ◌<◌}
use native.Mathlib.Nat.{add-zero, pow-suc}
use native.Mathlib.Decide.{dec_lt}
use native.Mathlib.Numerals.{add-one}
use native.Mathlib.Omega.{arith}
use lib.ListN.{length, get_or, drop, get_or-eq_default}
use lib.Seq.{drop-drop, drop_at, drop-cons, get_or-drop}
use Rattle.algebra.specs.Lists.{Below}
use Rattle.model.specs.Bytes.{number}
use Rattle.model.specs.Sheet.{bytes_of}

pub length_bytes : (w v : ℕ) → length (bytes_of w v) ≡ w
unfolding bytes_of
length_bytes zero v = refl
length_bytes (suc w) v = ap suc (length_bytes w (v / 256))

module _ (s : List ℕ) where
  -- what follows k elements from place i on
  pub past : (i k : ℕ) (x y : List ℕ) → drop i s ≡ x ++ y → length x ≡ k → drop (i + k) s ≡ y
  past i k x y e l = rw (← drop-drop k i s, e) (drop_at x y k l)

  -- reading what was written
  pub number_read : (w v i : ℕ) (ys : List ℕ) → drop i s ≡ bytes_of w v ++ ys → v < 256 ^ w → number w s i ≡ v
  unfolding bytes_of number
  number_read zero v i ys e h = omega arith
  number_read (suc w) v i ys e h =
      let low : get_or s i 0 ≡ v % 256 = rw (get_or-drop, add-zero) at (ap (λ (l : List ℕ). get_or l 0 0) e) in
      omega (arith, pow-suc 256 w, number_read w (v / 256) (i + 1) ys (past i 1 (v % 256 ∷ []) _ e refl) (omega (arith, pow-suc 256 w)))

module _ (s : List ℕ) (b : Below 256 s) where
  pub byte : (i : ℕ) → get_or s i 0 < 256
  byte i = go (dec_lt i (length s))
    where
      go : Dec (i < length s) → get_or s i 0 < 256
      go (yes l) = b.at i l
      go (no l) = rw (get_or-eq_default s 0 {n = i} (omega arith)) (omega arith)

  pub number_fits : (w i : ℕ) → number w s i < 256 ^ w
  unfolding number
  number_fits zero i = omega arith
  number_fits (suc w) i = omega (arith, pow-suc 256 w, byte i, number_fits w (i + 1))

  -- writing what was read
  pub number_written : (w i : ℕ) → i + w ≤ length s → drop i s ≡ bytes_of w (number w s i) ++ drop (i + w) s
  unfolding bytes_of number
  number_written zero i h = rw add-zero
  number_written (suc w) i h =
      let N = number w s (i + 1) in
      let lo : (get_or s i 0 + 256 * N) % 256 ≡ get_or s i 0 = omega (arith, byte i) in
      let hi : (get_or s i 0 + 256 * N) / 256 ≡ N = omega (arith, byte i) in
      let next : drop (i + 1) s ≡ bytes_of w N ++ drop (i + 1 + w) s = number_written w (i + 1) (omega arith) in
      let e : i + suc w ≡ i + 1 + w = omega arith in
      rw (lo, hi, e, ← next, add-one) (drop-cons s i 0 (omega arith))
