-- The paper, "Steps": BITLT, MOD, TRUNC, LTZ, OVER and BLOCKS, each written once, whatever an operand is.
--
-- A step is a tree of what it does with the deal, in order. Its nodes are MUL and the opening under a mask; REVEAL is one more, for scripts. Each node
-- hands what came of it to the rest of the tree: MUL the product, a masked opening the opened number and the bits of the mask; REVEAL hands on
-- nothing, so a tree cannot go on by a revealed value. Sums, differences and multiples need nothing of the deal and are no nodes. What an operand is
-- stays open, so that one text has several readings, each a function on trees that says what its nodes do: with rows of n shares it is the run of
-- the whole table (Steps.antt), with single shares it would be the work of one party, and with nothing for an operand it could only be counted.
-- Assumes nothing.
use Rattle.std.specs.Prelude.{Bool, true, false, cond, List, [], ◌∷◌, ℕ, ◌+◌, ◌-◌, ◌/◌, ◌%◌, ◌^◌, eqb, take}
use Rattle.algebra.specs.Ring.{sub, mul}
use Rattle.model.specs.Fields.{inverse_power_of_2}

-- What is done to operands without the deal: sum, difference, multiple by a public value, and a public value as an operand.
pub record Ops (Operand : Type 0) : Type 0 where
  pub plus : Operand → Operand → Operand
  pub minus : Operand → Operand → Operand
  pub times : ℕ → Operand → Operand
  pub constant : ℕ → Operand

-- The nodes: what is done, and with what the tree goes on. A is what it ends with.
pub data Tree (Operand A : Type 0) : Type 0 where
  -- nothing more
  done : A → Tree Operand A
  -- MUL of two operands, and what is done with their product
  multiply : Operand → Operand → (Operand → Tree Operand A) → Tree Operand A
  -- "takes the next mask r", "opens C = X + r modulo p" of an operand, and what is done with C and the bits of r
  mask : Operand → (ℕ → List Operand → Tree Operand A) → Tree Operand A
  -- REVEAL of an operand, and what is done after it
  reveal : Operand → Tree Operand A → Tree Operand A

-- The types of builders, which go on with what they leave: of BITLT of a public number against bits; of a step with k and m on an operand (MOD, TRUNC,
-- BLOCKS); and of MOD by a comparison that it is given.
abbrev pub Comparison : Type 0 → Type 0 → Type 0
Comparison Operand A = ℕ → List Operand → (Operand → Tree Operand A) → Tree Operand A

abbrev pub Remainder : Type 0 → Type 0 → Type 0
Remainder Operand A = ℕ → ℕ → Operand → (Operand → Tree Operand A) → Tree Operand A

abbrev pub RemainderBy : Type 0 → Type 0 → Type 0
RemainderBy Operand A = Comparison Operand A → Remainder Operand A

-- v's lowest bit is 1
abbrev pub odd : ℕ → Bool
odd v = eqb (v % 2) 1

-- MUL "leaves c + a1·b + b1·a + a1·b1"
abbrev pub beaver : ℕ → {Operand : Type 0} → Ops Operand → ℕ → ℕ → Operand → Operand → Operand → Operand
beaver p O a1 b1 a b c = O.plus (O.plus (O.plus c (O.times a1 b)) (O.times b1 a)) (O.constant (mul p a1 b1))

module _ {Operand : Type 0} (O : Ops Operand) where
  -- the number that bits spell, bit 0 first
  unfoldable pub spelled : List Operand → Operand
  spelled [] = O.constant 0
  spelled (bit ∷ bits) = O.plus bit (O.times 2 (spelled bits))

  -- "X + r": an operand under a mask whose bits these are
  abbrev pub under_mask : Operand → List Operand → Operand
  under_mask x r = O.plus x (spelled r)

  -- BITLT: "lt becomes bit i + lt − q where v's bit i is 0, else q"
  abbrev pub chosen : Bool → Operand → Operand → Operand → Operand
  chosen true bit lt q = q
  chosen false bit lt q = O.minus (O.plus bit lt) q

  module _ {A : Type 0} where
    -- "For i from 1 to w − 1, q = bit i times lt by MUL in that order": the bits from i on, v being shifted right by i. "The MUL is done either
    -- way."
    unfoldable pub comparison_from : ℕ → List Operand → Operand → (Operand → Tree Operand A) → Tree Operand A
    comparison_from v [] lt go = go lt
    comparison_from v (bit ∷ bits) lt go = multiply bit lt λ q. comparison_from (v / 2) bits (chosen (odd v) bit lt q) go

    -- "BITLT: lt is bit 0 if v's bit 0 is 0, else the zero sharing." Of no bits, which the ranges shut out, it leaves the zero sharing.
    unfoldable pub comparison : Comparison Operand A
    comparison v [] go = go (O.constant 0)
    comparison v (bit ∷ bits) go = comparison_from (v / 2) bits (cond (odd v) (O.constant 0) bit) go

module _ (p : ℕ) {Operand : Type 0} (O : Ops Operand) where
  -- MOD: "The result is C mod 2^m + f·((C + p) mod 2^m − C mod 2^m) − r mod 2^m + 2^m·u"
  abbrev pub unmasked : ℕ → ℕ → List Operand → Operand → Operand → Operand
  unmasked m C r f u =
      let c0 = C % 2 ^ m in
      let c1 = (C + p) % 2 ^ m in
      O.plus (O.minus (O.plus (O.constant c0) (O.times (sub p c1 c0) f)) (spelled O (take m r))) (O.times (2 ^ m) u)

  -- TRUNC: "(a − MOD) times the inverse of 2^m"
  abbrev pub quotient : ℕ → Operand → Operand → Operand
  quotient m a rem = O.times (inverse_power_of_2 p m) (O.minus a rem)

  module _ {A : Type 0} where
    -- "MOD takes the next mask r. With X = (a + 2^(k−1)) modulo p, it opens C = X + r modulo p. f is BITLT of C against all ℓ bits of r. u0 is
    -- BITLT of C mod 2^m, and u1 of (C + p) mod 2^m, each against the low m bits of r. g = f times (u1 − u0) by MUL; u = u0 + g."
    unfoldable pub remainder : RemainderBy Operand A
    remainder BITLT k m a go =
        mask (O.plus a (O.constant (2 ^ (k - 1)))) λ C r.
        BITLT C r λ f.
        BITLT (C % 2 ^ m) (take m r) λ u0.
        BITLT ((C + p) % 2 ^ m) (take m r) λ u1.
        multiply f (O.minus u1 u0) λ g.
        go (unmasked m C r f (O.plus u0 g))

    module _ (MOD : Remainder Operand A) where
      -- "TRUNC is (a − MOD) times the inverse of 2^m."
      unfoldable pub floor : Remainder Operand A
      floor k m a go = MOD k m a λ rem. go (quotient m a rem)

      -- "LTZ is minus TRUNC with m = k − 1."
      unfoldable pub sign : ℕ → Operand → (Operand → Tree Operand A) → Tree Operand A
      sign k a go = floor k (k - 1) a λ z. go (O.minus (O.constant 0) z)

      -- OVER: "LTZ of (v − a)"
      unfoldable pub over : ℕ → ℕ → Operand → (Operand → Tree Operand A) → Tree Operand A
      over k v a go = sign k (O.minus (O.constant v) a) go

      -- "BLOCKS is the tariff's own rule", which request 2, "Begun blocks are charged", gives: "BLOCKS becomes TRUNC of a + 2^m − 1 with the same k
      -- and m."
      unfoldable pub blocks : Remainder Operand A
      blocks k m a go = floor k m (O.plus a (O.constant (2 ^ m - 1))) go
