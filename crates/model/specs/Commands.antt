-- The paper, the table of commands, "Refused because of the state" and "The words of demand 3": a command, and the lines of a script, as trees,
-- whatever an operand is.
-- Assumes nothing.
use Rattle.std.specs.Prelude.{List, [], ◌∷◌, ℕ, zero, suc, get_or, set}
use Rattle.model.specs.Script.{Command, LOAD, CONST, ADD, SUB, SCALE, MUL, MOD, TRUNC, LTZ, OVER, BLOCKS, REVEAL, BITLT, LTZS, Line}
use Rattle.model.specs.Trees.{Ops, Tree, done, multiply, reveal, Remainder, RemainderBy, comparison, floor, sign, over, blocks}
use Rattle.model.specs.Refusing.{given}
use Rattle.model.specs.Costs.{cost_by}
use Rattle.model.specs.Checks.{Spent, Supply, check, pay}

-- How the lines of a script end: number and place, what was spent, and the registers that are left.
pub record Ended (Operand : Type 0) : Type 0 where
  pub number : ℕ
  pub place : ℕ
  pub spent : Spent
  pub registers : List Operand

-- "Each command gets exactly what the one before it left; a refused one ends the run." "Earlier commands stand. The refused command changes no
-- cell, count or buffer, and its offset is the place. Otherwise the answer is 0 at END's offset." The lines xs, from what was spent (s) and the registers
-- (g); u is what there is, and `end` END's offset. `stop` says what an end gives, and `act` what a command gives, from what a refusal of it gives by its
-- number, the number of input rows loaded before it, the command, the registers, and what is given for those that it leaves. `triples` is how many triples
-- MOD takes for m.
unfoldable pub through_lines : {Operand R : Type 0} → (Ended Operand → R) → ((ℕ → R) → ℕ → Command → List Operand → (List Operand → R) → R) → (ℕ → ℕ)
    → Supply → ℕ → List Line → Spent → List Operand → R
through_lines stop act triples u end [] s g = stop (record { number = 0; place = end; spent = s; registers = g })
through_lines {R = R} stop act triples u end (x ∷ xs) s g =
    let c = cost_by triples x.command in
    let number = check u c s in
    let refusal : ℕ → R = λ k. stop (record { number = k; place = x.place; spent = s; registers = g }) in
    given number (act refusal s.counts.inputs x.command g (through_lines stop act triples u end xs (pay c s))) (refusal number)

-- Registers b to b + w - 1 of g. `unset` is the operand of an unset register: "the cells of an unset register are 0". It also stands in where there is no
-- such register or input row, which ranges and checks shut out.
unfoldable pub registers_from : {Operand : Type 0} → Operand → List Operand → ℕ → ℕ → List Operand
registers_from unset g b zero = []
registers_from unset g b (suc w) = get_or g b unset ∷ registers_from unset g (suc b) w

-- a command, and the lines of a script, as trees; `remainder` is MOD by whichever comparison
module _ (p : ℕ) {Operand : Type 0} (O : Ops Operand) (unset : Operand) where
  module _ {A : Type 0} (remainder : RemainderBy Operand A) where
    -- MOD by BITLT
    abbrev bitwise : Remainder Operand A
    bitwise = remainder (comparison O)

    -- LTZS: "registers a to a + h − 1 into d to d + h − 1", "in rising order": LTZ of each of the operands, with the next mask and triples, into register d
    -- and those after it
    unfoldable pub signs : ℕ → List Operand → ℕ → List Operand → (List Operand → Tree Operand A) → Tree Operand A
    signs k [] d g go = go g
    signs k (x ∷ xs) d g go = sign p O bitwise k x λ z. signs k xs (suc d) (set g d z) go

    -- A command on the registers g, where j input rows were loaded before it, goes on with the registers that it leaves. "All operands are read before
    -- d is written, so d may be one of them."
    unfoldable pub command : List Operand → ℕ → Command → List Operand → (List Operand → Tree Operand A) → Tree Operand A
    command input j (LOAD d) g go = go (set g d (get_or input j unset))
    command input j (CONST d v) g go = go (set g d (O.constant v))
    command input j (ADD d a b) g go = go (set g d (O.plus (get_or g a unset) (get_or g b unset)))
    command input j (SUB d a b) g go = go (set g d (O.minus (get_or g a unset) (get_or g b unset)))
    command input j (SCALE d a v) g go = go (set g d (O.times v (get_or g a unset)))
    command input j (MUL d a b) g go = multiply (get_or g a unset) (get_or g b unset) λ z. go (set g d z)
    command input j (MOD d a k m) g go = bitwise k m (get_or g a unset) λ z. go (set g d z)
    command input j (TRUNC d a k m) g go = floor p O bitwise k m (get_or g a unset) λ z. go (set g d z)
    command input j (LTZ d a k) g go = sign p O bitwise k (get_or g a unset) λ z. go (set g d z)
    command input j (OVER d a k v) g go = over p O bitwise k v (get_or g a unset) λ z. go (set g d z)
    command input j (BLOCKS d a k m) g go = blocks p O bitwise k m (get_or g a unset) λ z. go (set g d z)
    command input j (REVEAL a) g go = reveal (get_or g a unset) (go g)
    command input j (BITLT d b w v) g go = comparison O v (registers_from unset g b w) λ z. go (set g d z)
    command input j (LTZS d a h k) g go = signs k (registers_from unset g a h) d g go

  abbrev pub lines : RemainderBy Operand (Ended Operand) → (ℕ → ℕ) → Supply → List Operand → ℕ → List Line → Spent → List Operand
      → Tree Operand (Ended Operand)
  lines remainder triples u input end xs s g = through_lines done (λ refusal. command remainder input) triples u end xs s g
