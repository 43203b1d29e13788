-- Request 6, "Will this deal last?": whether a run would come to END, "From header and script alone". No row and no share is looked at.
-- Assumes nothing.
use Rattle.std.specs.Prelude.{Bool, List, [], ◌∷◌, ◌++◌, ℕ, eqb, length, take}
use Rattle.model.specs.Refusing.{first_failed, given}
use Rattle.model.specs.Script.{Line, Script, accepted, refused}
use Rattle.model.specs.Costs.{mod_triples}
use Rattle.model.specs.Checks.{Supply}
use Rattle.model.specs.Commands.{Ended, through_lines}
use Rattle.model.specs.Sheet.{Header, header_of, mask_bits, inputs_at, header_tests, limit_tests}
use Rattle.model.specs.Run.{nothing_spent, supply_of, sheet_script}
use Rattle.model.specs.Buffers.{record_length, revealed_length}

-- "header and script alone": a sheet's first bytes, which are called its head
unfoldable pub head_in : List ℕ → List ℕ
head_in s = take (inputs_at (header_of s)) s

-- "for length 4 asks only that the counts keep their limits and that the input is exactly the header and the script length that it names": the second of
-- these; the first is the paper's own test, `limit_tests`
unfoldable pub head_length_tests : Header → List ℕ → List (Bool × ℕ)
head_length_tests h s = (eqb (length s) (inputs_at h), 4) ∷ []

-- "1 to 4"
unfoldable pub head_tests : List ℕ → List (Bool × ℕ)
head_tests s = let h = header_of s in header_tests s ++ (limit_tests h ++ head_length_tests h s)

-- How a forecast ends: its number and place, and what the commands before that place spend. It works on no operands, so there are no registers.
abbrev pub Foreseen : Type 0
Foreseen = Ended ⊥

-- no command finished
abbrev pub nothing_foreseen : ℕ → ℕ → Foreseen
nothing_foreseen number place = record { number = number; place = place; spent = nothing_spent; registers = [] }

-- The lines of a script from the start, gone over as a run goes over them, by the same checks and payments; the commands do nothing. l is the bits of a
-- mask, u what there is, and `end` END's offset.
unfoldable pub lines_foreseen : ℕ → Supply → ℕ → List Line → Foreseen
lines_foreseen l u end xs = through_lines (λ e. e) (λ refusal j c g go. go g) (mod_triples l) u end xs nothing_spent []

unfoldable pub script_foreseen : ℕ → Supply → Script → Foreseen
script_foreseen l u (refused number place) = nothing_foreseen number place
script_foreseen l u (accepted xs end) = lines_foreseen l u end xs

-- "given large enough buffers": what the header says that there is, and the buffers of program table, by which 25 and 26 never come (`Forecasts`)
abbrev pub ample_supply : Header → Supply
ample_supply h = supply_of h record_length revealed_length

-- "1 to 4, then 9 to 11, then 21 to 24, as in the paper"
unfoldable pub foreseen : List ℕ → Foreseen
foreseen s =
    let h = header_of s in
    let number = first_failed (head_tests s) in
    given number (script_foreseen (mask_bits h) (ample_supply h) (sheet_script s)) (nothing_foreseen number 0)

-- "It gives number and place."
pub record Forecast : Type 0 where
  pub number : ℕ
  pub place : ℕ

unfoldable pub forecast : List ℕ → Forecast
forecast s = let e = foreseen s in record { number = e.number; place = e.place }
