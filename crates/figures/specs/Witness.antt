-- The claims about accepted sheets are not empty: a sheet that is accepted, and whose run finishes each of the fourteen kinds of command and comes to END.
-- Assumes nothing.
use Rattle.std.specs.Prelude.{◌≡◌, List, [], ◌∷◌, map, ℕ, take, replicate}
use Rattle.model.specs.Presence.{everyone}
use Rattle.model.specs.Script.{Command, LOAD, CONST, ADD, SUB, SCALE, MUL, MOD, TRUNC, LTZ, OVER, BLOCKS, REVEAL, BITLT, LTZS, Line}
use Rattle.model.specs.Sheet.{secrets, sheet_of}
use Rattle.model.specs.Counts.{listed}
use Rattle.model.specs.Run.{Stop, stop_of}
use Rattle.model.specs.Exactness.{Accepted}
use Rattle.figures.specs.Figures.{small, of, five}

-- field 0; register 0 is −1, and the others are worked from it with k = 3
abbrev pub script : List ℕ
script =
    1 ∷ 0 ∷ 2 ∷ 1 ∷ 2 ∷ 0 ∷ 0 ∷ 0 ∷ 3 ∷ 2 ∷ 0 ∷ 1 ∷ 4 ∷ 3 ∷ 0 ∷ 1 ∷ 5 ∷ 4 ∷ 0 ∷ 3 ∷ 0 ∷ 0 ∷ 0 ∷ 6 ∷ 5 ∷ 0 ∷ 1 ∷ 7 ∷ 6 ∷ 0 ∷ 3 ∷ 1 ∷ 8 ∷ 7 ∷ 0 ∷ 3 ∷ 1 ∷ 9 ∷ 8 ∷ 0 ∷ 3
    ∷ 10 ∷ 9 ∷ 0 ∷ 3 ∷ 1 ∷ 0 ∷ 0 ∷ 0 ∷ 11 ∷ 10 ∷ 2 ∷ 3 ∷ 1 ∷ 13 ∷ 11 ∷ 8 ∷ 2 ∷ 1 ∷ 0 ∷ 0 ∷ 0 ∷ 12 ∷ 11 ∷ 14 ∷ 12 ∷ 0 ∷ 2 ∷ 3 ∷ 0 ∷ []

abbrev pub line : ℕ → Command → Line
line place c = record { place = place; command = c }

unfoldable pub lines : List Line
lines =
    line 0 (LOAD 0) ∷ line 2 (CONST 1 2) ∷ line 8 (ADD 2 0 1) ∷ line 12 (SUB 3 0 1) ∷ line 16 (SCALE 4 0 3) ∷ line 23 (MUL 5 0 1) ∷ line 27 (MOD 6 0 3 1)
    ∷ line 32 (TRUNC 7 0 3 1) ∷ line 37 (LTZ 8 0 3) ∷ line 41 (OVER 9 0 3 1) ∷ line 49 (BLOCKS 10 2 3 1) ∷ line 54 (BITLT 11 8 2 1) ∷ line 62 (REVEAL 11) ∷ line 64 (LTZS 12 0 2 3) ∷ []

unfoldable pub sheet : List ℕ
sheet =
    sheet_of (record { field = 0; n = 3; t = 1; inputs = 1; masks = 7; triples = 38; script = 70 }) script (of small 12 ∷ [])
    (record { masks = replicate 7 (map (of small) five); triples = replicate 38 (record { a = of small 2; b = of small 3; c = of small 6 }) })

-- number, place and counts of a stop, the values revealed, and the secrets of the first fourteen registers
unfoldable pub seen : Stop → List (List ℕ)
seen x =
    let s = x.state in
    (x.number ∷ x.place ∷ listed s.spent.counts) ∷ s.shown ∷ secrets small (take 14 s.registers) ∷ []

-- With everyone present it is accepted, and with buffers that are just large enough it stops with 0 at END: 1 input, 7 masks, 38 triples and 84 openings are
-- spent, one value, 0, is revealed, and the first fourteen registers have these secrets.
pub record Witness : Type 0 where
  pub is_accepted : Accepted (everyone 3) sheet
  pub has_lines : is_accepted.lines ≡ lines
  pub has_end : is_accepted.end ≡ 69
  pub stops : seen (stop_of (everyone 3) sheet 252 1)
      ≡ (0 ∷ 69 ∷ 1 ∷ 7 ∷ 38 ∷ 84 ∷ 1 ∷ []) ∷ (0 ∷ []) ∷ (12 ∷ 2 ∷ 1 ∷ 10 ∷ 10 ∷ 11 ∷ 1 ∷ 12 ∷ 1 ∷ 0 ∷ 1 ∷ 0 ∷ 1 ∷ 0 ∷ []) ∷ []
