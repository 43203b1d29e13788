-- What the paper's formulas are: "For a in the k-bit range these are exact remainder, floor and sign; outside they are these formulas." Each is
-- said by arithmetic alone, of a secret a that a command reads and the secret z that it leaves; BITLT of what are not bits by the rule `less`.
-- Assumes nothing.
use Rattle.std.specs.Prelude.{◌≡◌, ◌↔◌, Bool, cond, List, ℕ, suc, ◌+◌, ◌-◌, ◌*◌, ◌/◌, ◌%◌, ◌^◌, ◌≤◌, ◌<◌, T, ltb, ℤ, pos, ◌+ℤ◌, ◌-ℤ◌, ◌*ℤ◌, length}
use Rattle.std.specs.Int.Signed.{lt_z}
use Rattle.algebra.specs.Ring.{add, sub}
use Rattle.algebra.specs.Lists.{all_below}
use Rattle.model.specs.Fields.{modulus, largest_k, InUse}
use Rattle.model.specs.Coding.{in_range, read_back}
use Rattle.model.specs.Sheet.{spell}
use Rattle.model.specs.Plain.{less, rem, quot, negative, exceeds, charged}

-- in ℤ: z divided by M is q with the remainder r. q is z / M rounded down: −3/2 is −2.
pub record Division (z : ℤ) (M : ℕ) (q : ℤ) (r : ℕ) : Type 0 where
  pub is : z ≡ q *ℤ pos M +ℤ pos r
  pub small : r < M

-- This fixes both.
abbrev pub OneDivision : Type 0
OneDivision = (z : ℤ) (M : ℕ) (q q' : ℤ) (r r' : ℕ) → Division z M q r → Division z M q' r' → (q ≡ q') × (r ≡ r')

-- 1 if the test passes, else 0
abbrev pub one : Bool → ℕ
one b = cond b 1 0

-- in ℤ: r is the remainder of x by M, and q is the floor of x by M
pub record RemainderOf (x : ℤ) (M r : ℕ) : Type 0 where
  pub floor : ℤ
  pub division : Division x M floor r

pub record FloorOf (x : ℤ) (M : ℕ) (q : ℤ) : Type 0 where
  pub remainder : ℕ
  pub division : Division x M q remainder

-- MOD leaves z of a: the exact remainder where a, read back, lies in the k-bit range. Everywhere: "With X = (a + 2^(k−1)) modulo p", "Its secret
-- is X mod 2^m for every a and r."
pub record Remains (p k m a z : ℕ) : Type 0 where
  pub exact : T (in_range k (read_back p a)) → RemainderOf (read_back p a) (2 ^ m) z
  pub formula : z ≡ (a + 2 ^ (k - 1)) % p % 2 ^ m

-- TRUNC leaves z of a: the exact floor in the range. Everywhere: "TRUNC is (a − MOD) times the inverse of 2^m", so z times 2^m and MOD are a,
-- modulo p. As 2^m has an inverse (`EveryField`), this fixes a z below p.
pub record Divides (p k m a z : ℕ) : Type 0 where
  pub exact : T (in_range k (read_back p a)) → FloorOf (read_back p a) (2 ^ m) (read_back p z)
  pub formula : (z * 2 ^ m + (a + 2 ^ (k - 1)) % p % 2 ^ m) % p ≡ a

-- LTZ leaves z of a: "1 if a < 0, else 0" in the range. Everywhere: "LTZ is minus TRUNC with m = k − 1", so z times 2^(k−1) and a are
-- MOD, modulo p.
pub record Signs (p k a z : ℕ) : Type 0 where
  pub exact : T (in_range k (read_back p a)) → z ≡ one (lt_z (read_back p a) (pos 0))
  pub formula : (z * 2 ^ (k - 1) + a) % p ≡ (a + 2 ^ (k - 1)) % p % 2 ^ (k - 1)

-- OVER leaves z of a: "LTZ of (v − a)". "For OVER the number that must lie in the range is v − a modulo p, read back." So it is 1 if v < a, else 0,
-- where the difference of the two numbers read back lies in the range.
pub record Exceeds (p k v a z : ℕ) : Type 0 where
  pub sign : Signs p k (sub p v a) z
  pub exact : T (in_range k (read_back p v -ℤ read_back p a)) → z ≡ one (lt_z (read_back p v) (read_back p a))

-- Request 2: "the carrier bills each begun block": z blocks of M seconds hold a seconds, and fewer do not.
pub record Begun (M a z : ℕ) : Type 0 where
  pub hold : a ≤ z * M
  pub least : (b : ℕ) → a ≤ b * M → z ≤ b

-- This fixes z.
abbrev pub OneBegun : Type 0
OneBegun = (M a z z' : ℕ) → Begun M a z → Begun M a z' → z ≡ z'

-- "a read back, plus 2^m − 1 and not reduced by p"
abbrev pub blocks_sum : ℕ → ℕ → ℕ → ℤ
blocks_sum p m a = read_back p a +ℤ pos (2 ^ m - 1)

-- BLOCKS leaves z of a: "TRUNC of a + 2^m − 1 with the same k and m", a sum modulo p. "Blocks are exact while" the sum in ℤ "lies in the k-bit range": z
-- read back is then its floor, and for a number of 0 or more z is how many blocks are begun. Where the sum in ℤ does not lie in the range, the sum modulo
-- p, read back, may: then z read back is the floor of that other number.
pub record Charges (p k m a z : ℕ) : Type 0 where
  pub divides : Divides p k m (add p a (2 ^ m - 1)) z
  pub exact : T (in_range k (blocks_sum p m a)) → FloorOf (blocks_sum p m a) (2 ^ m) (read_back p z)
  pub begun : (s : ℕ) → read_back p a ≡ pos s → T (in_range k (blocks_sum p m a)) → Begun (2 ^ m) s z

-- BITLT leaves z of the secrets bs: "1 if v < the number in bits b.." where they are bits. "If registers are not bits, this rule still says what
-- comes out": the rule is `less`.
pub record Compares (p v : ℕ) (bs : List ℕ) (z : ℕ) : Type 0 where
  pub exact : T (all_below 2 bs) → z ≡ one (ltb v (spell bs))
  pub rule : z ≡ less p v bs

-- The formulas of the plain interpreter, in a field p with largest k K and with operands in their ranges, are these; and which numbers have the sum of BLOCKS
-- in the k-bit range.
pub record Exact (p K : ℕ) : Type 0 where
  pub remains : (k m a : ℕ) → 2 ≤ k → k ≤ K → 1 ≤ m → m < k → a < p → Remains p k m a (rem p k m a)
  pub divides : (k m a : ℕ) → 2 ≤ k → k ≤ K → 1 ≤ m → m < k → a < p → Divides p k m a (quot p k m a)
  pub signs : (k a : ℕ) → 2 ≤ k → k ≤ K → a < p → Signs p k a (negative p k a)
  pub exceeds_by : (k v a : ℕ) → 2 ≤ k → k ≤ K → v < p → a < p → Exceeds p k v a (exceeds p k v a)
  pub charges : (k m a : ℕ) → 2 ≤ k → k ≤ K → 1 ≤ m → m < k → a < p → Charges p k m a (charged p k m a)
  -- from 0 on, those up to 2^(k−1) − 2^m; below 0, p − (n + 1) being −(n + 1), those down to −2^(k−1) − 2^m + 1
  pub charges_up : (k m a : ℕ) → a ≤ (p - 1) / 2 → T (in_range k (blocks_sum p m a)) ↔ (a + 2 ^ m ≤ 2 ^ (k - 1))
  pub charges_down : (k m n : ℕ) → m < k → n < (p - 1) / 2 → T (in_range k (blocks_sum p m (p - suc n))) ↔ (suc n < 2 ^ (k - 1) + 2 ^ m)
  pub compares : (v : ℕ) (bs : List ℕ) → 1 ≤ length bs → v < 2 ^ length bs → Compares p v bs (less p v bs)

-- for every field in use
abbrev pub EveryFormula : Type 0
EveryFormula = (f : ℕ) → InUse f → Exact (modulus f) (largest_k f)
