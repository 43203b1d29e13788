-- The paper, the table of commands: what the bytes of a script say, and the refusals 9 to 11 of a whole script with their places.
-- Assumes nothing.
use Rattle.std.specs.Prelude.{◌≡◌, Bool, true, ◌&&◌, ◌||◌, cond, List, [], ◌∷◌, ℕ, zero, suc, ◌+◌, ◌^◌, ltb, leb, eqb, length, get_or}
use Rattle.algebra.specs.Lists.{from}
use Rattle.model.specs.Bytes.{number}
use Rattle.model.specs.Refusing.{first_failed}

-- The commands of the table, 01 to 0D, each with its operands in order: "LOAD d", "CONST d v", "ADD d a b", "SUB d a b", "SCALE d a v",
-- "MUL d a b", "MOD d a k m", "TRUNC d a k m", "LTZ d a k", "OVER d a k v", "BLOCKS d a k m", "REVEAL a", "BITLT d b w v". Request 7: "Add byte 0E,
-- LTZS d a h k".
pub data Command : Type 0 where
  LOAD : ℕ → Command
  CONST : ℕ → ℕ → Command
  ADD SUB SCALE MUL : ℕ → ℕ → ℕ → Command
  MOD TRUNC : ℕ → ℕ → ℕ → ℕ → Command
  LTZ : ℕ → ℕ → ℕ → Command
  OVER BLOCKS : ℕ → ℕ → ℕ → ℕ → Command
  REVEAL : ℕ → Command
  BITLT : ℕ → ℕ → ℕ → ℕ → Command
  LTZS : ℕ → ℕ → ℕ → ℕ → Command

-- The registers in which a command leaves something, and those whose values go to the revealed list: d, where it has one, of LTZS "d to d + h − 1",
-- and REVEAL's a.
pub record Outputs : Type 0 where
  pub target : List ℕ
  pub shown : List ℕ

abbrev into : ℕ → Outputs
into d = record { target = d ∷ []; shown = [] }

unfoldable pub outputs : Command → Outputs
outputs (LOAD d) = into d
outputs (CONST d v) = into d
outputs (ADD d a b) = into d
outputs (SUB d a b) = into d
outputs (SCALE d a v) = into d
outputs (MUL d a b) = into d
outputs (MOD d a k m) = into d
outputs (TRUNC d a k m) = into d
outputs (LTZ d a k) = into d
outputs (OVER d a k v) = into d
outputs (BLOCKS d a k m) = into d
outputs (REVEAL a) = record { target = []; shown = a ∷ [] }
outputs (BITLT d b w v) = into d
outputs (LTZS d a h k) = record { target = from d h; shown = [] }

-- what a byte of the table says: 00 is END, the others are commands
pub data Said : Type 0 where
  END : Said
  does : Command → Said

-- a command, and how many bytes it takes
abbrev takes : ℕ → Command → ℕ × Said
takes size c = (size, does c)

-- "d, a, b are one-byte registers 0 to 63; k, m, w one byte; v four bytes", and of LTZS "h is a one-byte count": what the bytes 00 to 0E say, with the
-- operands that follow place i of a script, and before it how many bytes that takes: its own, one for each of d, a, b, k, m, w and h, and four for v
abbrev pub table : List ℕ → ℕ → List (ℕ × Said)
table s i =
    let o : ℕ → ℕ = λ j. get_or s (i + j) 0 in
    let v : ℕ → ℕ = λ j. number 4 s (i + j) in
    (1, END) ∷ takes 2 (LOAD (o 1)) ∷ takes 6 (CONST (o 1) (v 2)) ∷ takes 4 (ADD (o 1) (o 2) (o 3)) ∷ takes 4 (SUB (o 1) (o 2) (o 3))
    ∷ takes 7 (SCALE (o 1) (o 2) (v 3)) ∷ takes 4 (MUL (o 1) (o 2) (o 3)) ∷ takes 5 (MOD (o 1) (o 2) (o 3) (o 4))
    ∷ takes 5 (TRUNC (o 1) (o 2) (o 3) (o 4)) ∷ takes 4 (LTZ (o 1) (o 2) (o 3)) ∷ takes 8 (OVER (o 1) (o 2) (o 3) (v 4))
    ∷ takes 5 (BLOCKS (o 1) (o 2) (o 3) (o 4)) ∷ takes 2 (REVEAL (o 1)) ∷ takes 8 (BITLT (o 1) (o 2) (o 3) (v 4))
    ∷ takes 5 (LTZS (o 1) (o 2) (o 3) (o 4)) ∷ []

-- what the byte b says, and what the byte at place i says
unfoldable pub byte_says : List ℕ → ℕ → ℕ → ℕ × Said
byte_says s i b = get_or (table s i) b (1, END)

abbrev pub said_at : List ℕ → ℕ → ℕ × Said
said_at s i = byte_says s i (get_or s i 0)

abbrev pub size_at : List ℕ → ℕ → ℕ
size_at s i = (said_at s i).0

-- A test of operands: one number is at most another, or below it; or two stretches of h registers, from d and from a on, "must be equal or share no
-- register" (`InRange` in Stretches.antt states that it is this).
pub data Test : Type 0 where
  at_most below : ℕ → ℕ → Test
  equal_or_apart : ℕ → ℕ → ℕ → Test

abbrev pub passes : Test → Bool
passes (at_most a b) = leb a b
passes (below a b) = ltb a b
passes (equal_or_apart d a h) = eqb d a || (leb (d + h) a || leb (a + h) d)

unfoldable pub all_pass : List Test → Bool
all_pass [] = true
all_pass (t ∷ []) = passes t
all_pass (t ∷ u ∷ ts) = passes t && all_pass (u ∷ ts)

-- "d, a, b are one-byte registers 0 to 63"
abbrev pub register : ℕ → Test
register r = below r 64

-- "k from 2 to the field's largest", which is K
abbrev pub k_in : ℕ → ℕ → List Test → List Test
k_in K k more = at_most 2 k ∷ at_most k K ∷ more

-- "m from 1 to k − 1"
abbrev pub m_in : ℕ → ℕ → List Test
m_in k m = at_most 1 m ∷ below m k ∷ []

-- "Ranges: k from 2 to the field's largest; m from 1 to k − 1; v below p, except in BITLT, where w is 1 to 31, b + w at most 64 and v
-- below 2^w (bit i in register b + i)." LTZS: "h from 1 to 16, both stretches ending by register 63", and equal or apart.
abbrev pub ranges : ℕ → ℕ → Command → List Test
ranges p K (LOAD d) = register d ∷ []
ranges p K (CONST d v) = register d ∷ below v p ∷ []
ranges p K (ADD d a b) = register d ∷ register a ∷ register b ∷ []
ranges p K (SUB d a b) = register d ∷ register a ∷ register b ∷ []
ranges p K (SCALE d a v) = register d ∷ register a ∷ below v p ∷ []
ranges p K (MUL d a b) = register d ∷ register a ∷ register b ∷ []
ranges p K (MOD d a k m) = register d ∷ register a ∷ k_in K k (m_in k m)
ranges p K (TRUNC d a k m) = register d ∷ register a ∷ k_in K k (m_in k m)
ranges p K (LTZ d a k) = register d ∷ register a ∷ k_in K k []
ranges p K (OVER d a k v) = register d ∷ register a ∷ k_in K k (below v p ∷ [])
ranges p K (BLOCKS d a k m) = register d ∷ register a ∷ k_in K k (m_in k m)
ranges p K (REVEAL a) = register a ∷ []
ranges p K (BITLT d b w v) = register d ∷ register b ∷ at_most 1 w ∷ at_most w 31 ∷ at_most (b + w) 64 ∷ below v (2 ^ w) ∷ []
ranges p K (LTZS d a h k) = at_most 1 h ∷ at_most h 16 ∷ at_most (d + h) 64 ∷ at_most (a + h) 64 ∷ k_in K k (equal_or_apart d a h ∷ [])

-- a command's operands are in range; END has none
abbrev pub in_ranges : ℕ → ℕ → Command → Bool
in_ranges p K c = all_pass (ranges p K c)

abbrev pub operands_in : ℕ → ℕ → Said → Bool
operands_in p K END = true
operands_in p K (does c) = in_ranges p K c

-- the last command byte, 0E
abbrev pub last_byte : ℕ
last_byte = 14

-- What must hold at place i, in the order in which it is tried, each with the number of the refusal where it fails. The third case of 10, bytes
-- after END, is tried in script_step.
abbrev pub tests_at : ℕ → ℕ → List ℕ → ℕ → List (Bool × ℕ)
tests_at p K s i =
    -- "10: operands cut off, no END, or bytes after END (an empty script too)": the script ends here, and has no END
    (ltb i (length s), 10)
    -- "9: a command byte over 0D"; request 7: "9 now begins above 0E"
    ∷ (leb (get_or s i 0) last_byte, 9)
    -- operands cut off
    ∷ (leb (i + size_at s i) (length s), 10)
    -- "11: an operand out of range"; request 7: "11 covers its ranges and a partial overlap"
    ∷ (operands_in p K (said_at s i).1, 11)
    ∷ []

unfoldable pub number_at : ℕ → ℕ → List ℕ → ℕ → ℕ
number_at p K s i = first_failed (tests_at p K s i)

-- what stands at a place: END or a command, and the place after it, or the number of a refusal
pub data Reading : Type 0 where
  ends : ℕ → Reading
  says : Command → ℕ → Reading
  refusal : ℕ → Reading

abbrev pub reading : ℕ → Said → ℕ → Reading
reading zero END next = ends next
reading zero (does c) next = says c next
reading (suc number) said next = refusal (suc number)

unfoldable pub reading_at : ℕ → ℕ → List ℕ → ℕ → Reading
reading_at p K s i = reading (number_at p K s i) (said_at s i).1 (i + size_at s i)

-- a command of a script, and its offset
pub record Line : Type 0 where
  pub place : ℕ
  pub command : Command

-- "9 to 11 are tried command by command from the script's start": the script's lines without END and END's offset, or the first refusal's
-- number and place
pub data Script : Type 0 where
  accepted : List Line → ℕ → Script
  refused : ℕ → ℕ → Script

-- a line, and the script after it
abbrev pub with_line : Line → Script → Script
with_line x (accepted xs end) = accepted (x ∷ xs) end
with_line x (refused number place) = refused number place

-- "for 9 to 11 the command's offset in the script, the script length if END is missing, or the offset just after END": by what stands at
-- place i of a script of length n
abbrev pub script_step : Reading → ℕ → ℕ → Script → Script
script_step (ends next) n i rest = cond (eqb next n) (accepted [] i) (refused 10 next)
script_step (says c next) n i rest = with_line (record { place = i; command = c }) rest
script_step (refusal number) n i rest = refused number i

-- from place i on, at most so many commands; each takes a byte at least
unfoldable pub script_from : ℕ → ℕ → ℕ → List ℕ → ℕ → Script
script_from zero p K s i = refused 10 i
script_from (suc most) p K s i = script_step (reading_at p K s i) (length s) i (script_from most p K s (i + size_at s i))

-- from the script's start
unfoldable pub script_of : ℕ → ℕ → List ℕ → Script
script_of p K s = script_from (suc (length s)) p K s 0

-- so many commands are enough for every script: more would be read alike
abbrev pub WholeScript : Type 0
WholeScript = (p K more : ℕ) (s : List ℕ) → script_from (more + suc (length s)) p K s 0 ≡ script_of p K s
