-- The paper's command, what stands at a place, number and place for the code's.
-- Assumes nothing.
use Rattle.std.specs.Prelude.{cond, ℕ, eqb, Option, Some, None, Result, Ok, Err}
use Rattle.refusals.specs.declared.Refused.{Refused}
use Rattle.refusals.specs.Numbers.{number_of}
use Rattle.model.specs.Script as Paper
use Rattle.script.specs.declared.command.Command.{Command}
use Rattle.script.specs.declared.command.Command.TheVariants.{Load, Const, Add, Sub, Scale, Mul, Mod, Trunc, Ltz, Over, Blocks, Reveal, Bitlt, Ltzs}
use Rattle.script.specs.declared.command.Line.{Line}

abbrev pub meant : Command → Paper.Command
meant (Load d) = Paper.LOAD d
meant (Const d v) = Paper.CONST d v
meant (Add d a b) = Paper.ADD d a b
meant (Sub d a b) = Paper.SUB d a b
meant (Scale d a v) = Paper.SCALE d a v
meant (Mul d a b) = Paper.MUL d a b
meant (Mod d a k m) = Paper.MOD d a k m
meant (Trunc d a k m) = Paper.TRUNC d a k m
meant (Ltz d a k) = Paper.LTZ d a k
meant (Over d a k v) = Paper.OVER d a k v
meant (Blocks d a k m) = Paper.BLOCKS d a k m
meant (Reveal a) = Paper.REVEAL a
meant (Bitlt d b w v) = Paper.BITLT d b w v
meant (Ltzs d a h k) = Paper.LTZS d a h k

-- what stands at a place, as a script goes on: a command and the place after it, or the script's number and place where it ends there
pub data Standing : Type 0 where
  goes : Paper.Command → ℕ → Standing
  stops : ℕ → ℕ → Standing

-- of a script of length n, by the reading at place i: after END nothing may stand
abbrev pub standing : Paper.Reading → ℕ → ℕ → Standing
standing (Paper.says c next) n i = goes c next
standing (Paper.ends next) n i = cond (eqb next n) (stops 0 i) (stops 10 next)
standing (Paper.refusal number) n i = stops number i

-- of what the decoder answers at a place: a command, END at that place, or a refusal
abbrev pub standing_of : ℕ → Result (Option Line) Refused → Standing
standing_of at (Ok (Some line)) = goes (meant line.command) line.next
standing_of at (Ok None) = stops 0 at
standing_of at (Err refused) = stops (number_of refused.refusal) refused.place

-- number and place of an answer: 0 and the place that it gives, or the refusal's
abbrev pub number_told : {A : Type 0} → Result A Refused → ℕ
number_told (Ok answer) = 0
number_told (Err refused) = number_of refused.refusal

abbrev pub place_told : Result ℕ Refused → ℕ
place_told (Ok place) = place
place_told (Err refused) = refused.place

-- number and place of a script that was read: 0 and END's offset, or the refusal's
abbrev pub script_number : Paper.Script → ℕ
script_number (Paper.accepted xs end) = 0
script_number (Paper.refused number place) = number

abbrev pub script_place : Paper.Script → ℕ
script_place (Paper.accepted xs end) = end
script_place (Paper.refused number place) = place
