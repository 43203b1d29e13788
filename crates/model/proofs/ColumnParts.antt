-- A party's part of the column form: where it stands, and that its numbers are those of the party's column of the sheet.
-- Assumes nothing.
use mathlib.Core.Path.{◌≡◌, refl, sym, ap, ap₂, ◌∙◌}
use mathlib.Core.List.{List, ◌∷◌, ◌++◌, map}
use Prim.Native.Nat.{ℕ, zero, suc, ◌+◌, ◌*◌, ◌-◌, ◌≤◌, ◌<◌}
use native.Mathlib.Nat.{le_refl, add-zero, mul-le-mul}
use native.Mathlib.Omega.{arith}
use lib.ListN.{length, take, drop, length-drop, drop_of_length-le, take-append-drop}
use lib.Seq.{length-take-le, drop-drop, get_or-take, get_or-drop}
use Rattle.algebra.specs.Rows.{tab, row}
use Rattle.algebra.proofs.Rows.{row_at_lem}
use Rattle.model.specs.Sharing.{at}
use Rattle.model.specs.Bytes.{number, row_at}
use Rattle.model.specs.Deal.{Row}
use Rattle.model.specs.Sheet.{Header, header_of, inputs_at, row_count, rows_at}
use Rattle.model.specs.Columns.{shares_from, part_length, part_at, part_of, shares_in, column_in}
use Rattle.model.specs.ColumnForms.{sheet_place, parts_of, IsColumnForm, InParts}
use Rattle.model.proofs.SheetDeal.{all_rows}
use Rattle.model.proofs.Transposing.{shares_next, shares_same}

-- a number in bytes that are a list's front, or stand behind others
pub number_front : (w m i : ℕ) (s : List ℕ) → i + w ≤ m → number w (take m s) i ≡ number w s i
unfolding number
number_front zero m i s h = refl
number_front (suc w) m i s h = rw (get_or-take m s i 0 (omega arith), number_front w m (i + 1) s (omega arith))

number_behind : (w m i : ℕ) (s : List ℕ) → number w (drop m s) i ≡ number w s (m + i)
unfolding number
number_behind zero m i s = refl
number_behind (suc w) m i s =
    let e : m + (i + 1) ≡ m + i + 1 = omega arith in
    rw (get_or-drop, number_behind w m (i + 1) s, e)

-- the same four bytes are the same number
number_same : (s s' : List ℕ) (i i' : ℕ) → take 4 (drop i s) ≡ take 4 (drop i' s') → number 4 s i ≡ number 4 s' i'
number_same s s' i i' e = sym (alone s i) ∙ ap (λ (x : List ℕ). number 4 x 0) e ∙ alone s' i'
  where
    alone : (x : List ℕ) (k : ℕ) → number 4 (take 4 (drop k x)) 0 ≡ number 4 x k
    alone x k = number_front 4 4 0 (drop k x) (omega arith) ∙ number_behind 4 k 0 x ∙ ap (number 4 x) (add-zero k)

-- parties count from 1, and the cells of a row from 0
pub one_less : (k : ℕ) → suc k - 1 ≡ k
one_less k = omega arith

share_of : (n : ℕ) (f : ℕ → ℕ) (j : ℕ) → 1 ≤ j → j ≤ n → at 0 (row n f) j ≡ f (j - 1)
share_of n f zero a b = absurd (omega arith)
share_of n f (suc k) a b = row_at_lem n f k b ∙ ap f (sym (one_less k))

-- numbers one by one, and party j's column of rows
column_is : (s : List ℕ) (n j : ℕ) → 1 ≤ j → j ≤ n → (i count : ℕ) (f : ℕ → ℕ) → ((k : ℕ) → k < count → f k ≡ number 4 s (i + 4 * n * k + 4 * (j - 1)))
    → tab count f ≡ map (λ (x : Row). at 0 x j) (rows_at s n i count)
unfolding tab rows_at row_at
column_is s n j a b i zero f e = refl
column_is s n j a b i (suc count) f e =
    let z : i + 4 * n * 0 ≡ i = omega arith in
    ap₂ {C = List ℕ} ◌∷◌ ((rw z at (e 0 (omega arith))) ∙ sym (share_of n (λ k. number 4 s (i + 4 * k)) j a b))
    (column_is s n j a b (i + 4 * n) count (λ k. f (suc k)) next)
  where
    next : (k : ℕ) → k < count → f (suc k) ≡ number 4 s (i + 4 * n + 4 * n * k + 4 * (j - 1))
    next k l =
        let q : i + 4 * n * suc k ≡ i + 4 * n + 4 * n * k = omega arith in
        rw q at (e (suc k) (omega arith))

module _ (s c : List ℕ) (C : IsColumnForm s c) (some : 1 ≤ (header_of s).n)
    (whole : length c ≡ inputs_at (header_of s) + (header_of s).n * part_length (header_of s)) where
  abbrev h : Header
  h = header_of s

  -- where the part after k others begins
  abbrev behind : ℕ → ℕ
  behind k = inputs_at h + k * part_length h

  -- party j's part ends where the next begins, and within the form
  part_ends : (j : ℕ) → 1 ≤ j → part_at h j + part_length h ≡ behind j
  part_ends zero a = absurd (omega arith)
  part_ends (suc k) a = rw (one_less k) (omega arith)

  within : (j : ℕ) → 1 ≤ j → j ≤ h.n → part_at h j + part_length h ≤ length c
  within j a b = rw (part_ends j a) (omega (arith, mul-le-mul {n₂ = h.n} {m₂ = part_length h} b (le_refl (part_length h))))

  part_column : (j : ℕ) → 1 ≤ j → j ≤ h.n → shares_in h (part_of h j c) ≡ column_in h j s
  unfolding shares_in part_of column_in
  part_column j a b = rw (all_rows h s) (column_is s h.n j a b (inputs_at h) (row_count h) _ (λ i l. each i l))
    where
      each : (i : ℕ) → i < row_count h → number 4 (take (part_length h) (drop (part_at h j) c)) (4 * i) ≡ number 4 s (inputs_at h + 4 * h.n * i + 4 * (j - 1))
      each i l =
          let e : sheet_place h i j ≡ inputs_at h + 4 * h.n * i + 4 * (j - 1) = omega arith in
          number_front 4 (part_length h) (4 * i) (drop (part_at h j) c) (omega arith) ∙ number_behind 4 (part_at h j) (4 * i) c
          ∙ number_same c s (part_at h j + 4 * i) _ (C.shares i j l a b) ∙ ap (number 4 s) e

  part_bytes : (j : ℕ) → 1 ≤ j → j ≤ h.n → part_of h j c ≡ shares_from s (4 * h.n) (sheet_place h 0 j) (row_count h)
  unfolding part_of
  part_bytes j a b =
      sym (shares_next c (part_at h j) (row_count h)) ∙ shares_same c s 4 (4 * h.n) (part_at h j) (sheet_place h 0 j) (row_count h) (λ i l. each i l)
    where
      each : (i : ℕ) → i < row_count h → take 4 (drop (part_at h j + 4 * i) c) ≡ take 4 (drop (sheet_place h 0 j + 4 * h.n * i) s)
      each i l =
          let e : sheet_place h i j ≡ sheet_place h 0 j + 4 * h.n * i = omega arith in
          C.shares i j l a b ∙ ap (λ (z : ℕ). take 4 (drop z s)) e

  parts_are : (k m : ℕ) → k + m ≡ h.n → drop (behind k) c ≡ parts_of h c (suc k) m
  unfolding parts_of part_of
  parts_are k zero e =
      let z : k ≡ h.n = omega arith in
      drop_of_length-le c {i = behind k} (rw z (omega arith))
  parts_are k (suc m) e =
      let next : behind k + part_length h ≡ behind (suc k) = omega arith in
      rw (one_less k)
      (sym (take-append-drop (part_length h) (drop (behind k) c))
      ∙ ap (λ (x : List ℕ). take (part_length h) (drop (behind k) c) ++ x)
      (drop-drop (part_length h) (behind k) c ∙ ap (λ (z : ℕ). drop z c) next ∙ parts_are (suc k) m (omega arith)))

  pub parts : InParts s c
  unfolding part_of
  parts =
      let z : behind 0 ≡ inputs_at h = omega arith in
      record {
        joined = sym (take-append-drop (inputs_at h) c) ∙ ap₂ {C = List ℕ} ◌++◌ C.head (rw z at (parts_are 0 h.n (omega arith)));
        length_each = λ j a b. length-take-le (part_length h) (drop (part_at h j) c) (rw length-drop (omega (arith, within j a b)));
        ends = whole ∙ sym (part_ends h.n some);
        bytes = part_bytes;
        column = part_column;
      }
