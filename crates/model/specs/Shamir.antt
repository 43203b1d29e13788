-- What Shamir's sharing promises: for every field p in use and all parties n and thresholds t that the paper permits.
-- Assumes nothing.
use Rattle.std.specs.Prelude.{◌≡◌, ◌↔◌, ℕ, suc, ◌≤◌, ◌<◌, T, ℤ, length}
use mathlib.Core.List.{List, Memᴰ as In}
use Rattle.algebra.specs.Ring.{add, sub, mul}
use Rattle.algebra.specs.Lists.{Below, Distinct}
use Rattle.algebra.specs.Rows.{row, on, padded}
use Rattle.model.specs.Fields.{Parties, modulus, largest_k, InUse}
use Rattle.model.specs.Coding.{in_range}
use Rattle.model.specs.Sharing.{Sharing, eval, share, recover, secret, value_from, is_sharing, at}
use Rattle.model.specs.Entries.{share_number, share_left, recover_number, recover_value, recover_left, encode_number, encode_value, decode_number, decode_value}

-- c distinct points of 0 to n
pub record Points (n c : ℕ) (xs : List ℕ) : Type 0 where
  pub count : length xs ≡ c
  pub distinct : Distinct xs
  pub most : (z : ℕ) → In z xs → z ≤ n

-- c distinct parties of 1 to n
pub record Group (n c : ℕ) (xs : List ℕ) : Type 0 where
  pub points : Points n c xs
  pub least : (z : ℕ) → In z xs → 1 ≤ z

-- two rows with the same shares in the columns of a set of parties
pub record Agree (set x y : List ℕ) : Type 0 where
  pub same : (z : ℕ) → In z set → at 0 x z ≡ at 0 y z

-- there is one sharing of v, and only one, that keeps the set's shares of x
pub record OneKept (p n t : ℕ) (set x : List ℕ) (v : ℕ) : Type 0 where
  pub kept : List ℕ
  pub sharing : Sharing p n t kept
  pub has_secret : secret p t kept ≡ v
  pub keeps : Agree set x kept
  pub only : (y : List ℕ) → Sharing p n t y → secret p t y ≡ v → Agree set x y → y ≡ kept

-- sharings are closed under an operation on columns, and the secret goes through it
pub record Closed (p n t : ℕ) (op : ℕ → ℕ → ℕ) : Type 0 where
  pub sharing : (x y : List ℕ) → Sharing p n t x → Sharing p n t y → Sharing p n t (on op n x y)
  pub secret_is : (x y : List ℕ) → Sharing p n t x → Sharing p n t y → secret p t (on op n x y) ≡ op (secret p t x) (secret p t y)

pub record Shamir (p n t : ℕ) : Type 0 where
  -- each undoes the other
  pub recover_undoes : (cs : List ℕ) → length cs ≡ suc t → Below p cs → recover p t (share p n cs) ≡ cs
  pub share_undoes : (x : List ℕ) → Sharing p n t x → share p n (recover p t x) ≡ x
  -- the test is exact
  pub test_exact : (x : List ℕ) → T (is_sharing p n t x) ↔ Sharing p n t x
  -- "A cell is a share, a whole number from 0 to p − 1"; "its secret is the value at 0" of the one polynomial
  pub shares_below_lem : (x : List ℕ) → Sharing p n t x → Below p x
  pub secret_is : (x : List ℕ) (s : Sharing p n t x) → secret p t x ≡ eval p s.poly 0
  -- a secret is below p; it is the remainder of a sum of products (SumFirst)
  pub secret_below : (x : List ℕ) → secret p t x < p
  -- sum, difference, multiple, constant
  pub sums : Closed p n t (add p)
  pub differences : Closed p n t (sub p)
  pub multiples : (c : ℕ) → Closed p n t (λ a _. mul p c a)
  pub constant : (v : ℕ) → v < p → Sharing p n t (row n (λ _. v))
  pub constant_secret : (v : ℕ) → v < p → secret p t (row n (λ _. v)) ≡ v
  -- a sharing is fixed by its values at any t + 1 distinct points of 0 to n
  pub fixed : (xs x y : List ℕ) → Points n (suc t) xs → Sharing p n t x → Sharing p n t y
      → ((z : ℕ) → In z xs → at (secret p t x) x z ≡ at (secret p t y) y z) → x ≡ y
  -- any t + 1 parties' shares of a sharing give its secret
  pub any_parties : (xs x : List ℕ) → Group n (suc t) xs → Sharing p n t x → value_from p xs x ≡ secret p t x
  -- any t parties' shares of a sharing say nothing of its secret
  pub hidden : (set x : List ℕ) (v : ℕ) → Group n t set → Sharing p n t x → v < p → OneKept p n t set x v

-- The same of the entries: each undoes the other on what the other accepts, and of rows of n shares below p, 6 is said of exactly those
-- that are no sharing.
pub record Entries (f n t : ℕ) : Type 0 where
  pub recover_undoes : (s : ℕ) (cs out : List ℕ) → share_number f n t s cs out ≡ 0 → (out' : List ℕ) → length out' ≡ t
      → (recover_number f n t (share_left f n t s cs out) out' ≡ 0)
      × (recover_value f n t (share_left f n t s cs out) out' ≡ s)
      × (recover_left f n t (share_left f n t s cs out) out' ≡ cs)
  pub share_undoes : (xs out : List ℕ) → recover_number f n t xs out ≡ 0 → (out' : List ℕ) → length out' ≡ n
      → (share_number f n t (recover_value f n t xs out) (recover_left f n t xs out) out' ≡ 0)
      × (share_left f n t (recover_value f n t xs out) (recover_left f n t xs out) out' ≡ xs)
  pub six_exact : (xs out : List ℕ) → length xs ≡ n → length out ≡ t → Below (modulus f) xs
      → (recover_number f n t xs out ≡ 6) ↔ (Sharing (modulus f) n t (padded xs) → ⊥)

-- Of encode and decode: what encode accepts decode gives back, and what decode gives, in the k-bit range, encode takes back.
pub record CodeEntries (f : ℕ) : Type 0 where
  pub decode_undoes : (k : ℕ) (a : ℤ) → encode_number f k a ≡ 0 → (decode_number f (encode_value f k a) ≡ 0) × (decode_value f (encode_value f k a) ≡ a)
  pub encode_undoes : (k v : ℕ) → 2 ≤ k → k ≤ largest_k f → decode_number f v ≡ 0 → T (in_range k (decode_value f v))
      → (encode_number f k (decode_value f v) ≡ 0) × (encode_value f k (decode_value f v) ≡ v)

-- "Sharing and reconstruction are Shamir's, each undoing the other": for every field in use, and all parties and thresholds that the paper permits
abbrev pub EverySharing : Type 0
EverySharing = (f n t : ℕ) → InUse f → Parties n t → Shamir (modulus f) n t

abbrev pub EveryEntry : Type 0
EveryEntry = (f n t : ℕ) → InUse f → Parties n t → Entries f n t

abbrev pub EveryCodeEntry : Type 0
EveryCodeEntry = (f : ℕ) → InUse f → CodeEntries f
