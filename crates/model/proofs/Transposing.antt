-- Laws of `transposed`: where each share stands, that no other list has them there, and so that transposing again gives the list back.
-- Assumes nothing.
use mathlib.Core.Path.{◌≡◌, refl, sym, ap, ap₂, ◌∙◌}
use mathlib.Core.List.{List, ◌++◌}
use Prim.Native.Nat.{ℕ, zero, suc, ◌+◌, ◌*◌, ◌≤◌, ◌<◌}
use native.Mathlib.Nat.{add-zero, mul-zero}
use native.Mathlib.Omega.{arith}
use lib.ListN.{length, take, drop, length-append, length-drop, drop_of_length-le, take-append-drop}
use lib.Seq.{length-take-le, take_at, drop_at, take-add, drop-drop, take-append-le, drop-append-le}
use Rattle.model.specs.Columns.{shares_from, regrouped, transposed}

-- four bytes from place i on
pub length_share : (s : List ℕ) (i : ℕ) → i + 4 ≤ length s → length (take 4 (drop i s)) ≡ 4
length_share s i h = length-take-le 4 (drop i s) (rw length-drop (omega arith))

-- Shares from place i on, each step bytes behind the one before it: the last of them ends within s.
pub length_shares : (s : List ℕ) (step i count : ℕ) → i + step * count + 4 ≤ length s + step → length (shares_from s step i count) ≡ 4 * count
unfolding shares_from
length_shares s step i zero h = refl
length_shares s step i (suc count) h =
    rw (length-append, length_share s i (omega arith), length_shares s step (i + step) count (omega arith)) (omega arith)

shares_at : (s : List ℕ) (step i count k : ℕ) → i + step * count + 4 ≤ length s + step → k < count
    → take 4 (drop (4 * k) (shares_from s step i count)) ≡ take 4 (drop (i + step * k) s)
unfolding shares_from
shares_at s step i zero k h l = absurd (omega arith)
shares_at s step i (suc count) zero h l =
    rw (mul-zero, add-zero) (take_at (take 4 (drop i s)) (shares_from s step (i + step) count) 4 (length_share s i (omega arith)))
shares_at s step i (suc count) (suc k) h l =
    let e : 4 * suc k ≡ 4 + 4 * k = omega arith in
    let q : i + step * suc k ≡ i + step + step * k = omega arith in
    rw (e, q, ← drop-drop, drop_at (take 4 (drop i s)) (shares_from s step (i + step) count) 4 (length_share s i (omega arith)))
    (shares_at s step (i + step) count k (omega arith) (omega arith))

-- shares that stand one behind the other
pub shares_next : (s : List ℕ) (i count : ℕ) → shares_from s 4 i count ≡ take (4 * count) (drop i s)
unfolding shares_from
shares_next s i zero = refl
shares_next s i (suc count) =
    let e : 4 * suc count ≡ 4 + 4 * count = omega arith in
    rw (e, take-add, drop-drop, shares_next s (i + 4) count)

-- shares that are the same one by one
pub shares_same : (s s' : List ℕ) (step step' i i' count : ℕ) → ((k : ℕ) → k < count → take 4 (drop (i + step * k) s) ≡ take 4 (drop (i' + step' * k) s'))
    → shares_from s step i count ≡ shares_from s' step' i' count
unfolding shares_from
shares_same s s' step step' i i' zero k = refl
shares_same s s' step step' i i' (suc count) k =
    ap₂ {C = List ℕ} ◌++◌ (rw (mul-zero, mul-zero, add-zero, add-zero) at (k 0 (omega arith)))
    (shares_same s s' step step' (i + step) (i' + step') count next)
  where
    next : (z : ℕ) → z < count → take 4 (drop (i + step + step * z) s) ≡ take 4 (drop (i' + step' + step' * z) s')
    next z l =
        let e : i + step * suc z ≡ i + step + step * z = omega arith in
        let q : i' + step' * suc z ≡ i' + step' + step' * z = omega arith in
        rw (e, q) at (k (suc z) (omega arith))

module _ (s : List ℕ) (groups size : ℕ) where
  pub length_regrouped : (i k : ℕ) → i + 4 * k + 4 * size * groups ≤ length s + 4 * size → length (regrouped s groups size i k) ≡ 4 * groups * k
  unfolding regrouped
  length_regrouped i zero h = sym (mul-zero (4 * groups))
  length_regrouped i (suc k) h =
      rw (length-append, length_shares s (4 * size) i groups (omega arith), length_regrouped (i + 4) k (omega arith)) (omega arith)

  regrouped_at : (i k g j : ℕ) → i + 4 * k + 4 * size * groups ≤ length s + 4 * size → g < groups → j < k
      → take 4 (drop (4 * (groups * j + g)) (regrouped s groups size i k)) ≡ take 4 (drop (i + 4 * (size * g + j)) s)
  unfolding regrouped
  regrouped_at i zero g j h lg lj = absurd (omega arith)
  regrouped_at i (suc k) g zero h lg lj =
      let first = shares_from s (4 * size) i groups in
      let long : length first ≡ 4 * groups = length_shares s (4 * size) i groups (omega arith) in
      let e : 4 * (groups * 0 + g) ≡ 4 * g = omega arith in
      let q : i + 4 * (size * g + 0) ≡ i + 4 * size * g = omega arith in
      rw (
        e,
        q,
        drop-append-le (4 * g) first (regrouped s groups size (i + 4) k) (omega arith),
        take-append-le 4 (drop (4 * g) first) (regrouped s groups size (i + 4) k) (rw length-drop (omega arith)),
      )
      (shares_at s (4 * size) i groups g (omega arith) lg)
  regrouped_at i (suc k) g (suc j) h lg lj =
      let first = shares_from s (4 * size) i groups in
      let long : length first ≡ 4 * groups = length_shares s (4 * size) i groups (omega arith) in
      let e : 4 * (groups * suc j + g) ≡ 4 * groups + 4 * (groups * j + g) = omega arith in
      let q : i + 4 * (size * g + suc j) ≡ i + 4 + 4 * (size * g + j) = omega arith in
      rw (e, q, ← drop-drop, drop_at first (regrouped s groups size (i + 4) k) (4 * groups) long) (regrouped_at (i + 4) k g j (omega arith) lg (omega arith))

-- c has from place i on size groups, of a share from each of the groups of s: the same share at both places
pub record Transposes (i groups size : ℕ) (s c : List ℕ) : Type 0 where
  pub same_length : length c ≡ length s
  pub head : take i c ≡ take i s
  pub shares : (g j : ℕ) → g < groups → j < size → take 4 (drop (i + 4 * (groups * j + g)) c) ≡ take 4 (drop (i + 4 * (size * g + j)) s)

-- the other way round it is the same
pub transposes_back : {i groups size : ℕ} {s c : List ℕ} → Transposes i groups size s c → Transposes i size groups c s
transposes_back T = record { same_length = sym T.same_length; head = sym T.head; shares = λ g j lg lj. sym (T.shares j g lj lg) }

-- s has groups of shares from place i on, and nothing behind them
module _ (s : List ℕ) (i groups size : ℕ) (whole : length s ≡ i + 4 * size * groups) where
  length_front : length (take i s) ≡ i
  length_front = length-take-le i s (omega arith)

  pub transposes : Transposes i groups size s (transposed s i groups size)
  unfolding transposed
  transposes =
      record {
        same_length = rw (length-append, length_front, length_regrouped s groups size i size (omega arith)) (omega arith);
        head = take_at (take i s) (regrouped s groups size i size) i length_front;
        shares = λ g j lg lj.
            rw (← drop-drop, drop_at (take i s) (regrouped s groups size i size) i length_front) (regrouped_at s groups size i size g j (omega arith) lg lj);
      }

  module _ (c : List ℕ) (T : Transposes i groups size s c) where
    -- from the group after j others on
    rest_is : (j k : ℕ) → j + k ≡ size → drop (i + 4 * groups * j) c ≡ regrouped s groups size (i + 4 * j) k
    unfolding regrouped
    rest_is j zero e =
        let z : j ≡ size = omega arith in
        let l = T.same_length in
        drop_of_length-le c {i = i + 4 * groups * j} (rw z (omega arith))
    rest_is j (suc k) e =
        let here = i + 4 * groups * j in
        let next : here + 4 * groups ≡ i + 4 * groups * suc j = omega arith in
        let four : i + 4 * suc j ≡ i + 4 * j + 4 = omega arith in
        sym (take-append-drop (4 * groups) (drop here c))
        ∙ ap₂ {C = List ℕ} ◌++◌ (sym (shares_next c here groups) ∙ shares_same c s 4 (4 * size) here (i + 4 * j) groups (λ g lg. same g lg))
        (drop-drop (4 * groups) here c ∙ ap (λ (z : ℕ). drop z c) next ∙ rest_is (suc j) k (omega arith) ∙ ap (λ (z : ℕ). regrouped s groups size z k) four)
      where
        same : (g : ℕ) → g < groups → take 4 (drop (i + 4 * groups * j + 4 * g) c) ≡ take 4 (drop (i + 4 * j + 4 * size * g) s)
        same g lg =
            let a : i + 4 * (groups * j + g) ≡ i + 4 * groups * j + 4 * g = omega arith in
            let b : i + 4 * (size * g + j) ≡ i + 4 * j + 4 * size * g = omega arith in
            rw (a, b) at (T.shares g j lg (omega arith))

    -- there is no other list
    pub transposed_is : c ≡ transposed s i groups size
    unfolding transposed
    transposed_is =
        let e : i + 4 * groups * 0 ≡ i = omega arith in
        let q : i + 4 * 0 ≡ i = omega arith in
        sym (take-append-drop i c) ∙ ap₂ {C = List ℕ} ◌++◌ T.head (rw (e, q) at (rest_is 0 size (omega arith)))

-- transposed again, by as many groups as a group had shares
pub undone : (s : List ℕ) (i groups size : ℕ) → length s ≡ i + 4 * size * groups → transposed (transposed s i groups size) i size groups ≡ s
undone s i groups size whole =
    let T = transposes s i groups size whole in
    let l = T.same_length in
    sym (transposed_is (transposed s i groups size) i size groups (omega arith) s (transposes_back T))
