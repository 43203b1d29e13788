-- What a command byte that is known says, and the bytes that it takes.
-- Assumes nothing.
use mathlib.Core.Path.{◌≡◌, refl}
use mathlib.Core.List.{List, [], ◌∷◌, map}
use Prim.Native.Nat.{ℕ, zero, suc, ◌+◌, ◌-◌, ◌≤◌, ◌<◌}
use native.Mathlib.Omega.{arith}
use lib.Dec.{T, leb, leb→le}
use lib.ListN.{length, get_or}
use Rattle.model.specs.Script.{Said, END, table, byte_says, last_byte}

-- the sizes alone
sizes_of : (rows : List (ℕ × Said)) (k : ℕ) → k < length rows → get_or (map (λ row. row.0) rows) k 0 ≡ (get_or rows k (1, END)).0
sizes_of [] k h = absurd (omega arith)
sizes_of (row ∷ rows) zero h = refl
sizes_of (row ∷ rows) (suc k) h = sizes_of rows k (omega arith)

pub size_known : (s : List ℕ) (i op : ℕ) → op ≤ last_byte → get_or (map (λ row. row.0) (table s i)) op 0 ≡ (byte_says s i op).0
unfolding byte_says
size_known s i op h = sizes_of (table s i) op (omega arith)

-- the byte k, and that four bytes of what it says stand within the script
pub says_byte : (k : ℕ) (s : List ℕ) (i : ℕ) {op : ℕ} {x : Said} → op ≡ k → x ≡ (get_or (table s i) k (1, END)).1 → x ≡ (byte_says s i op).1
unfolding byte_says
says_byte k s i e f = rw e f

pub room : (k : ℕ) (s : List ℕ) (i j : ℕ) {op : ℕ} → op ≡ k → i + (byte_says s i op).0 ≤ length s → T (leb (j + 4) (get_or (table s i) k (1, END)).0)
    → i + j + 4 ≤ length s
unfolding byte_says
room k s i j e h t = omega (arith, rw e at h, leb→le (j + 4) (get_or (table s i) k (1, END)).0 t)

-- the whole of it, by the size that the code has
pub fits : (s : List ℕ) (i op : ℕ) {size : ℕ} → ((t : List ℕ) (j : ℕ) → size ≡ (byte_says t j op).0) → i < length s → size ≤ length s - i
    → i + (byte_says s i op).0 ≤ length s
fits s i op f h m = rw (← f s i) (omega arith)
