-- A command's cost and the ranges of its operands, against the registers that it writes and reveals.
-- Assumes nothing.
use mathlib.Core.Path.{◌≡◌, refl}
use mathlib.Core.List.Memᴰ.{head as here}
use mathlib.Core.List.Memᴰ.{tail as there}
use mathlib.Core.List.{[], ◌∷◌, Memᴰ as In}
use Prim.Native.Nat.{ℕ, ◌<◌}
use native.Mathlib.Omega.{arith}
use lib.Dec.{T}
use Rattle.algebra.proofs.Lists.{in_from}
use Rattle.model.specs.Deal.{Setting}
use Rattle.model.specs.Script.{Command, LOAD, CONST, ADD, SUB, SCALE, MUL, MOD, TRUNC, LTZ, OVER, BLOCKS, REVEAL, BITLT, LTZS, ranges, in_ranges, outputs}
use Rattle.model.specs.Costs.{Cost, cost_by, cost}
use Rattle.model.specs.Results.{target}
use Rattle.model.proofs.Operands.{AllSay, operands}

-- what a command reveals: nothing, or the register that it reads
pub data Shows (c : Cost) : Type 0 where
  hides : c.counts.revealed ≡ 0 → Shows c
  shows : (a : ℕ) → c.reads ≡ a ∷ [] → c.counts.revealed ≡ 1 → Shows c

-- its cost writes its target, which is one of the 64 registers
pub record Agrees (S : Setting) (c : Command) : Type 0 where
  pub writes : (cost S c).writes ≡ target c
  pub low : (p K : ℕ) → T (in_ranges p K c) → (r : ℕ) → In r (target c) → r < 64
  pub shown : Shows (cost S c)

-- a command that leaves something in d, which is in range
leaving : {S : Setting} {d : ℕ} (c : Command) → ((p K : ℕ) → AllSay (ranges p K c) → d < 64) → target c ≡ d ∷ [] → (cost S c).writes ≡ d ∷ []
    → (cost S c).counts.revealed ≡ 0 → Agrees S c
leaving c d_in t e f = record { writes = rw (e, t); low = λ p K ok r i. one r (d_in p K (operands p K c ok)) (rw t at i); shown = hides f }
  where
    one : {d : ℕ} (r : ℕ) → d < 64 → In r (d ∷ []) → r < 64
    one r h (here e) = rw e h
    one r h (there i) = elim i [ ]

pub agrees : (S : Setting) (c : Command) → Agrees S c
unfolding cost_by outputs
agrees S (LOAD d) = leaving (LOAD d) (λ p K h. h.0) refl refl refl
agrees S (CONST d v) = leaving (CONST d v) (λ p K h. h.0) refl refl refl
agrees S (ADD d a b) = leaving (ADD d a b) (λ p K h. h.0) refl refl refl
agrees S (SUB d a b) = leaving (SUB d a b) (λ p K h. h.0) refl refl refl
agrees S (SCALE d a v) = leaving (SCALE d a v) (λ p K h. h.0) refl refl refl
agrees S (MUL d a b) = leaving (MUL d a b) (λ p K h. h.0) refl refl refl
agrees S (MOD d a k m) = leaving (MOD d a k m) (λ p K h. h.0) refl refl refl
agrees S (TRUNC d a k m) = leaving (TRUNC d a k m) (λ p K h. h.0) refl refl refl
agrees S (LTZ d a k) = leaving (LTZ d a k) (λ p K h. h.0) refl refl refl
agrees S (OVER d a k v) = leaving (OVER d a k v) (λ p K h. h.0) refl refl refl
agrees S (BLOCKS d a k m) = leaving (BLOCKS d a k m) (λ p K h. h.0) refl refl refl
agrees S (REVEAL a) = record { writes = refl; low = λ p K ok r. elim [ ]; shown = shows a refl refl }
agrees S (BITLT d b w v) = leaving (BITLT d b w v) (λ p K h. h.0) refl refl refl
agrees S (LTZS d a h k) =
    record {
      writes = refl;
      low = λ p K ok r i. let R = operands p K (LTZS d a h k) ok in omega (arith, R.1.1.0, in_from d h i);
      shown = hides refl;
    }
