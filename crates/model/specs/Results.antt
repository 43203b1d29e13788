-- Demand 2, of one command: "After each command the shared secret equals the exact floor, remainder or comparison, as Catrina and de Hoogh define
-- them, wherever the number lies in its k-bit signed range, and the paper's formula elsewhere." The column "secret left in d" of the table of
-- commands, of the secrets that stood in the registers before: neither the steps nor `plainly` is named.
-- Assumes nothing.
use Rattle.std.specs.Prelude.{◌≡◌, true, false, ℕ, ◌+◌, ◌*◌, ◌%◌, ◌<◌, T, length, get_or}
use mathlib.Core.List.{List, [], ◌∷◌, ◌++◌, map, Memᴰ as In}
use Rattle.algebra.specs.Lists.{from}
use Rattle.algebra.specs.Rows.{row}
use Rattle.model.specs.Sharing.{secret}
use Rattle.model.specs.Deal.{Setting, Row, no_row}
use Rattle.model.specs.Script.{Command, LOAD, CONST, ADD, SUB, SCALE, MUL, MOD, TRUNC, LTZ, OVER, BLOCKS, REVEAL, BITLT, LTZS, in_ranges, outputs}
use Rattle.model.specs.Run.{State, register}
use Rattle.model.specs.Formulas.{Remains, Divides, Signs, Exceeds, Charges, Compares}

-- the secret in register r
abbrev pub secret_in : Setting → State → ℕ → ℕ
secret_in S s r = secret S.p S.t (register s r)

-- What a command leaves, s being the state before it and s' after it. "LOAD d: next input row", and there is one; "CONST d v: v, every share being
-- v"; ADD, SUB, SCALE and MUL modulo p. REVEAL opens its register, and the register's secret goes to the revealed list. LTZS leaves in register d + i,
-- for each i below h, what LTZ leaves of the secret that stood in register a + i before the command.
abbrev pub Leaves : Setting → List Row → Command → State → State → Type 0
Leaves S input (LOAD d) s s' = (s.spent.counts.inputs < length input) × (register s' d ≡ get_or input s.spent.counts.inputs no_row)
Leaves S input (CONST d v) s s' = (register s' d ≡ row S.n (λ _. v)) × (secret_in S s' d ≡ v)
Leaves S input (ADD d a b) s s' = secret_in S s' d ≡ (secret_in S s a + secret_in S s b) % S.p
Leaves S input (SUB d a b) s s' = (secret_in S s' d + secret_in S s b) % S.p ≡ secret_in S s a
Leaves S input (SCALE d a v) s s' = secret_in S s' d ≡ secret_in S s a * v % S.p
Leaves S input (MUL d a b) s s' = secret_in S s' d ≡ secret_in S s a * secret_in S s b % S.p
Leaves S input (MOD d a k m) s s' = Remains S.p k m (secret_in S s a) (secret_in S s' d)
Leaves S input (TRUNC d a k m) s s' = Divides S.p k m (secret_in S s a) (secret_in S s' d)
Leaves S input (LTZ d a k) s s' = Signs S.p k (secret_in S s a) (secret_in S s' d)
Leaves S input (OVER d a k v) s s' = Exceeds S.p k v (secret_in S s a) (secret_in S s' d)
Leaves S input (BLOCKS d a k m) s s' = Charges S.p k m (secret_in S s a) (secret_in S s' d)
Leaves S input (REVEAL a) s s' = (s'.opened ≡ s.opened ++ (register s a ∷ [])) × (s'.shown ≡ s.shown ++ (secret_in S s a ∷ []))
Leaves S input (BITLT d b w v) s s' = Compares S.p v (map (secret_in S s) (from b w)) (secret_in S s' d)
Leaves S input (LTZS d a h k) s s' = (i : ℕ) → i < h → Signs S.p k (secret_in S s (a + i)) (secret_in S s' (d + i))

-- the registers in which a command leaves something
abbrev pub target : Command → List ℕ
target c = (outputs c).target

-- A command that a run performs: its operands are in range, K being the field's largest k; it leaves what it should, as secrets below p; it sets its
-- target, and leaves every other register as it was.
pub record Does (S : Setting) (K : ℕ) (input : List Row) (c : Command) (s s' : State) : Type 0 where
  pub in_range_lem : T (in_ranges S.p K c)
  pub leaves : Leaves S input c s s'
  pub below : (r : ℕ) → secret_in S s' r < S.p
  pub sets : (r : ℕ) → In r (target c) → get_or s'.spent.marks r false ≡ true
  pub keeps : (r : ℕ) → (In r (target c) → ⊥)
      → (register s' r ≡ register s r) × (get_or s'.spent.marks r false ≡ get_or s.spent.marks r false)
