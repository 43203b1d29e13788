-- What the tests of a command's operands say.
-- Assumes nothing.
use mathlib.Core.Path.{◌≡◌, sym}
use mathlib.Core.Logic.{◌⊎◌, inl, inr}
use mathlib.Core.Bool.{true, false, ◌||◌}
use mathlib.Core.List.{List, [], ◌∷◌}
use Prim.Native.Nat.{ℕ, ◌+◌, ◌≤◌, ◌<◌}
use borrow.Author.Tests.{eqb-true, eq-eqb}
use lib.Dec.{T, eqb, leb, ltb→lt, leb→le, lt→ltb, le→leb}
use Rattle.algebra.proofs.Tests.{and_left, and_right, and_both, or_either, or_left, or_right, is_true, is_false}
use Rattle.model.specs.Script.{Command, Test, at_most, below, equal_or_apart, passes, all_pass, ranges, in_ranges}

-- stretches of h registers from d and from a on: equal, the one before the other, or after it
pub data Standing (d a h : ℕ) : Type 0 where
  equal : d ≡ a → Standing d a h
  before : d + h ≤ a → Standing d a h
  after : a + h ≤ d → Standing d a h

-- of one test, and of each of a list
abbrev pub Says : Test → Type 0
Says (at_most a b) = a ≤ b
Says (below a b) = a < b
Says (equal_or_apart d a h) = Standing d a h

abbrev pub AllSay : List Test → Type 0
AllSay [] = Unit {0}
AllSay (t ∷ ts) = Says t × AllSay ts

standing : (d a h : ℕ) → T (eqb d a) ⊎ T (leb (d + h) a || leb (a + h) d) → Standing d a h
standing d a h (inl e) = equal (eqb-true d a (is_true _ e))
standing d a h (inr e) = apart (or_either (leb (d + h) a) (leb (a + h) d) e)
  where
    apart : T (leb (d + h) a) ⊎ T (leb (a + h) d) → Standing d a h
    apart (inl e) = before (leb→le _ _ e)
    apart (inr e) = after (leb→le _ _ e)

pub said : (t : Test) → T (passes t) → Says t
said (at_most a b) h = leb→le a b h
said (below a b) h = ltb→lt a b h
said (equal_or_apart d a h) e = standing d a h (or_either (eqb d a) (leb (d + h) a || leb (a + h) d) e)

pub pass : (t : Test) → Says t → T (passes t)
pass (at_most a b) h = le→leb a b h
pass (below a b) h = lt→ltb a b h
pass (equal_or_apart d a h) (equal e) = or_left (eqb d a) _ (rw (eq-eqb d a e) tt)
pass (equal_or_apart d a h) (before e) = or_right (eqb d a) _ (or_left (leb (d + h) a) (leb (a + h) d) (le→leb _ _ e))
pass (equal_or_apart d a h) (after e) = or_right (eqb d a) _ (or_right (leb (d + h) a) _ (le→leb _ _ e))

all_said : (ts : List Test) → T (all_pass ts) → AllSay ts
unfolding all_pass
all_said [] h = tt
all_said (t ∷ []) h = (said t h, tt)
all_said (t ∷ u ∷ ts) h = (said t (and_left (passes t) _ h), all_said (u ∷ ts) (and_right (passes t) _ h))

all_pass_lem : (ts : List Test) → AllSay ts → T (all_pass ts)
unfolding all_pass
all_pass_lem [] h = tt
all_pass_lem (t ∷ []) h = pass t h.0
all_pass_lem (t ∷ u ∷ ts) h = and_both (passes t) _ (pass t h.0) (all_pass_lem (u ∷ ts) h.1)

-- so tests that are tried one by one give what they say
pub all_hold : (ts : List Test) → AllSay ts → true ≡ all_pass ts
all_hold ts h = sym (is_true _ (all_pass_lem ts h))

pub one_fails : (ts : List Test) → (AllSay ts → ⊥) → false ≡ all_pass ts
one_fails ts h = sym (is_false _ (λ t. h (all_said ts t)))

-- of a command whose operands are in range
pub operands : (p K : ℕ) (c : Command) → T (in_ranges p K c) → AllSay (ranges p K c)
operands p K c h = all_said (ranges p K c) h

pub in_ranges_lem : (p K : ℕ) (c : Command) → AllSay (ranges p K c) → T (in_ranges p K c)
in_ranges_lem p K c h = all_pass_lem (ranges p K c) h

-- the operands k and m in their ranges: of MOD, TRUNC and BLOCKS, and of LTZ and OVER with m = k − 1
pub record Ranges (K k m : ℕ) : Type 0 where
  pub k_most : k ≤ K
  pub m_least : 1 ≤ m
  pub m_most : m < k
