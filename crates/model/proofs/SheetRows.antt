-- Rows and their bytes undo each other, at any place of a list of bytes.
-- Assumes nothing.
use mathlib.Core.Path.{◌≡◌, refl, sym, ap, ap₂, ◌∙◌}
use mathlib.Core.List.Memᴰ.{head as here}
use mathlib.Core.List.Memᴰ.{tail as there}
use mathlib.Core.List.{List, [], ◌∷◌, ◌++◌, append_assoc, Memᴰ as In}
use Prim.Native.Nat.{ℕ, zero, suc, ◌+◌, ◌*◌, ◌^◌, ◌≤◌, ◌<◌}
use native.Mathlib.Nat.{add-zero, mul-zero}
use native.Mathlib.Omega.{arith}
use lib.ListN.{length, get_or, take, drop, length-append}
use Rattle.algebra.specs.Lists.{Below}
use Rattle.algebra.specs.Rows.{tab}
use Rattle.algebra.proofs.Rows.{length_tab, row_at_lem, row_ext, row_again, take_row}
use Rattle.model.specs.Bytes.{number, row_at}
use Rattle.model.specs.Steps.{Row}
use Rattle.model.specs.Sheet.{rows_at, bytes_of, share_bytes, row_bytes}
use Rattle.model.specs.Making.{SheetRow}
use Rattle.model.proofs.LittleEndian.{length_bytes, past, number_read, number_fits, number_written}

-- every row of a list is one that a sheet can hold
abbrev pub SheetRows : ℕ → List Row → Type 0
SheetRows n xs = (x : Row) → In x xs → SheetRow n x

shares : {n : ℕ} {x : Row} → SheetRow n x → take n x ≡ tab n (λ j. get_or x j 0)
shares {n} S = ap (take n) S.is ∙ take_row n _

length_shares : (xs : List ℕ) → length (share_bytes xs) ≡ 4 * length xs
unfolding share_bytes
length_shares [] = refl
length_shares (x ∷ xs) = rw (length-append, length_bytes, length_shares xs) (omega arith)

length_row_bytes : {n : ℕ} {x : Row} → SheetRow n x → length (share_bytes (take n x)) ≡ 4 * n
length_row_bytes {n} {x} S = rw (shares S, length_shares, length_tab)

pub length_rows : (n : ℕ) (xs : List Row) → SheetRows n xs → length (row_bytes n xs) ≡ 4 * n * length xs
unfolding row_bytes
length_rows n [] k = omega arith
length_rows n (x ∷ xs) k =
    rw (length-append, length_row_bytes (k x (here refl)), length_rows n xs (λ y m. k y (there m))) (omega arith)

pub rows_append : (n : ℕ) (xs ys : List Row) → row_bytes n (xs ++ ys) ≡ row_bytes n xs ++ row_bytes n ys
unfolding row_bytes
rows_append n [] ys = refl
rows_append n (x ∷ xs) ys = rw (rows_append n xs ys, append_assoc)

next_share : (i j : ℕ) → i + 4 * suc j ≡ i + 4 + 4 * j
next_share i j = omega arith

-- reading what was written
module _ (s : List ℕ) where
  shares_read : (n : ℕ) (f : ℕ → ℕ) (i : ℕ) (ys : List ℕ) → drop i s ≡ share_bytes (tab n f) ++ ys → ((j : ℕ) → j < n → f j < 2 ^ 32)
      → (j : ℕ) → j < n → number 4 s (i + 4 * j) ≡ f j
  unfolding tab share_bytes
  shares_read zero f i ys e k j h = absurd (omega arith)
  shares_read (suc n) f i ys e k zero h = rw add-zero (number_read s 4 (f 0) i _ (rw append_assoc at e) (k 0 h))
  shares_read (suc n) f i ys e k (suc j) h =
      let next = past s i 4 (bytes_of 4 (f 0)) _ (rw append_assoc at e) (length_bytes 4 (f 0)) in
      rw next_share (shares_read n (λ m. f (suc m)) (i + 4) ys next (λ m l. k (suc m) (omega arith)) j (omega arith))

  row_read : (n i : ℕ) (x : Row) (ys : List ℕ) → SheetRow n x → drop i s ≡ share_bytes (take n x) ++ ys → row_at s n i ≡ x
  unfolding row_at
  row_read n i x ys S e = row_ext n _ _ (shares_read n _ i ys (rw (shares S) at e) S.small) ∙ sym S.is

  pub rows_read : (n i : ℕ) (xs : List Row) (ys : List ℕ) → SheetRows n xs → drop i s ≡ row_bytes n xs ++ ys → rows_at s n i (length xs) ≡ xs
  unfolding rows_at row_bytes
  rows_read n i [] ys k e = refl
  rows_read n i (x ∷ xs) ys k e =
      let S : SheetRow n x = k x (here refl) in
      let e' : drop i s ≡ share_bytes (take n x) ++ (row_bytes n xs ++ ys) = rw append_assoc at e in
      let next = past s i (4 * n) (share_bytes (take n x)) _ e' (length_row_bytes S) in
      ap₂ ◌∷◌ (row_read n i x _ S e') (rows_read n (i + 4 * n) xs ys (λ y m. k y (there m)) next)

-- writing what was read
module _ (s : List ℕ) (b : Below 256 s) where
  shares_written : (n : ℕ) (f : ℕ → ℕ) (i : ℕ) → i + 4 * n ≤ length s → ((j : ℕ) → j < n → f j ≡ number 4 s (i + 4 * j))
      → drop i s ≡ share_bytes (tab n f) ++ drop (i + 4 * n) s
  unfolding tab share_bytes
  shares_written zero f i h k = rw add-zero
  shares_written (suc n) f i h k =
      let next = shares_written n (λ j. f (suc j)) (i + 4) (omega arith) (λ j l. k (suc j) (omega arith) ∙ rw next_share) in
      rw (append_assoc, next_share, ← next, k 0 (omega arith), add-zero) (number_written s b 4 i (omega arith))

  pub rows_written : (n i c : ℕ) → i + 4 * n * c ≤ length s → drop i s ≡ row_bytes n (rows_at s n i c) ++ drop (i + 4 * n * c) s
  unfolding rows_at row_bytes row_at
  rows_written n i zero h = rw (mul-zero, add-zero)
  rows_written n i (suc c) h =
      let e : i + 4 * n * suc c ≡ i + 4 * n + 4 * n * c = omega arith in
      rw (append_assoc, e, ← rows_written n (i + 4 * n) c (omega arith), take_row) (shares_written n _ i (omega arith) (λ j l. refl))

  row_fits : (n i : ℕ) → SheetRow n (row_at s n i)
  unfolding row_at
  row_fits n i = record { is = sym (row_again n _); small = λ j h. rw (row_at_lem n _ j h) (number_fits s b 4 _) }

  pub rows_fit : (n i c : ℕ) → SheetRows n (rows_at s n i c)
  unfolding rows_at
  rows_fit n i (suc c) x (here e) = rw e (row_fits n i)
  rows_fit n i (suc c) x (there m) = rows_fit n (i + 4 * n) c x m
  rows_fit n i zero x x3 = elim x3 [ ]
