-- The paper, "Figures to check", and for BLOCKS request 2: the P rows once more, each as a command that is run between LOAD and REVEAL. Those of field 0
-- are run from the bytes of a sheet. Those of field 2 are run line by line on their rows: to read the 1,700 bytes of their sheets takes the checker too
-- long.
-- Assumes nothing.
use Rattle.std.specs.Prelude.{List, [], ◌∷◌, ◌++◌, ℕ, zero, suc, length, replicate}
use Rattle.model.specs.Presence.{everyone}
use Rattle.model.specs.Steps.{Row}
use Rattle.model.specs.Script.{Command, LOAD, LTZ, OVER, BLOCKS, REVEAL}
use Rattle.model.specs.Sheet.{share_bytes}
use Rattle.model.specs.Run.{Outcome, Stop, start, run_lines, run}
use Rattle.figures.specs.Figures.{large, of, wide, Figure, figure, Computes}
use Rattle.figures.specs.Witness.{line}

-- Field 0, three parties, threshold 1: masks of 5 and 12, bit 0 first, and six triples of 2, 3 and 6. Each row is v + 4x for its secret v.
abbrev pub five_shares : List ℕ
five_shares = 5 ∷ 9 ∷ 0 ∷ 4 ∷ 8 ∷ 12 ∷ 5 ∷ 9 ∷ 0 ∷ 4 ∷ 8 ∷ 12 ∷ []

abbrev pub twelve_shares : List ℕ
twelve_shares = 4 ∷ 8 ∷ 12 ∷ 4 ∷ 8 ∷ 12 ∷ 5 ∷ 9 ∷ 0 ∷ 5 ∷ 9 ∷ 0 ∷ []

abbrev pub triples : ℕ → List ℕ
triples zero = []
triples (suc n) = 6 ∷ 10 ∷ 1 ∷ 7 ∷ 11 ∷ 2 ∷ 10 ∷ 1 ∷ 5 ∷ triples n

-- the run of a sheet with so many input rows: number, masks, triples, openings and the value revealed
unfoldable pub shown_by : Outcome → List ℕ
shown_by x = x.number ∷ x.counts.masks ∷ x.counts.triples ∷ x.counts.openings ∷ x.revealed

abbrev pub ran_with : ℕ → List ℕ → List ℕ → List ℕ → List ℕ
ran_with inputs script input mask =
    shown_by
    (run (everyone 3) (0 ∷ 3 ∷ 1 ∷ inputs ∷ 0 ∷ 1 ∷ 0 ∷ 6 ∷ 0 ∷ length script ∷ 0 ∷ (script ++ share_bytes (input ++ (mask ++ triples 6))))
    (replicate 42 99) (replicate 1 99))

-- LOAD 0; the bytes of a command that leaves its secret in register 1; REVEAL 1; END
abbrev pub commanded : List ℕ → List ℕ → List ℕ → List ℕ
commanded command input mask = ran_with 1 (1 ∷ 0 ∷ (command ++ (12 ∷ 1 ∷ 0 ∷ []))) input mask

-- LOAD 0, LOAD 1, LOAD 2; BITLT 3 0 3 5; REVEAL 3; END
abbrev pub ran_bitlt : List ℕ → List ℕ
ran_bitlt bits = ran_with 3 (1 ∷ 0 ∷ 1 ∷ 1 ∷ 1 ∷ 2 ∷ 13 ∷ 3 ∷ 0 ∷ 3 ∷ 5 ∷ 0 ∷ 0 ∷ 0 ∷ 12 ∷ 3 ∷ 0 ∷ []) bits five_shares

-- number, masks, triples, openings and the value revealed: MOD, TRUNC and BITLT
unfoldable pub remainders : List Figure
remainders =
    -- MOD m=1, −3, r = 12: 1
    figure (commanded (7 ∷ 1 ∷ 0 ∷ 3 ∷ 1 ∷ []) (1 ∷ 5 ∷ 9 ∷ []) twelve_shares) (0 ∷ 1 ∷ 4 ∷ 10 ∷ 1 ∷ [])
    -- TRUNC m=1, −3: 11; and 3: 1
    ∷ figure (commanded (8 ∷ 1 ∷ 0 ∷ 3 ∷ 1 ∷ []) (1 ∷ 5 ∷ 9 ∷ []) five_shares) (0 ∷ 1 ∷ 4 ∷ 10 ∷ 11 ∷ [])
    ∷ figure (commanded (8 ∷ 1 ∷ 0 ∷ 3 ∷ 1 ∷ []) (7 ∷ 11 ∷ 2 ∷ []) five_shares) (0 ∷ 1 ∷ 4 ∷ 10 ∷ 1 ∷ [])
    -- MOD m=2, −1: 3
    ∷ figure (commanded (7 ∷ 1 ∷ 0 ∷ 3 ∷ 2 ∷ []) (3 ∷ 7 ∷ 11 ∷ []) five_shares) (0 ∷ 1 ∷ 6 ∷ 14 ∷ 3 ∷ [])
    -- BITLT w=3, v=5, bits of 6, of 5: 1, 0; BITLT w=1, v=0, bit 1: 1, no triple
    ∷ figure (ran_bitlt (4 ∷ 8 ∷ 12 ∷ 5 ∷ 9 ∷ 0 ∷ 5 ∷ 9 ∷ 0 ∷ [])) (0 ∷ 0 ∷ 2 ∷ 5 ∷ 1 ∷ [])
    ∷ figure (ran_bitlt (5 ∷ 9 ∷ 0 ∷ 4 ∷ 8 ∷ 12 ∷ 5 ∷ 9 ∷ 0 ∷ [])) (0 ∷ 0 ∷ 2 ∷ 5 ∷ 0 ∷ [])
    ∷ figure (commanded (13 ∷ 1 ∷ 0 ∷ 1 ∷ 0 ∷ 0 ∷ 0 ∷ 0 ∷ []) (5 ∷ 9 ∷ 0 ∷ []) five_shares) (0 ∷ 0 ∷ 0 ∷ 1 ∷ 1 ∷ [])
    ∷ []

-- the same of LTZ
unfoldable pub signs : List Figure
signs =
    -- LTZ −4, −1: 1, 1; LTZ 0, 3: 0, 0; LTZ of 4, out of range: 12
    figure (commanded (9 ∷ 1 ∷ 0 ∷ 3 ∷ []) (0 ∷ 4 ∷ 8 ∷ []) five_shares) (0 ∷ 1 ∷ 6 ∷ 14 ∷ 1 ∷ [])
    ∷ figure (commanded (9 ∷ 1 ∷ 0 ∷ 3 ∷ []) (3 ∷ 7 ∷ 11 ∷ []) five_shares) (0 ∷ 1 ∷ 6 ∷ 14 ∷ 1 ∷ [])
    ∷ figure (commanded (9 ∷ 1 ∷ 0 ∷ 3 ∷ []) (4 ∷ 8 ∷ 12 ∷ []) five_shares) (0 ∷ 1 ∷ 6 ∷ 14 ∷ 0 ∷ [])
    ∷ figure (commanded (9 ∷ 1 ∷ 0 ∷ 3 ∷ []) (7 ∷ 11 ∷ 2 ∷ []) five_shares) (0 ∷ 1 ∷ 6 ∷ 14 ∷ 0 ∷ [])
    ∷ figure (commanded (9 ∷ 1 ∷ 0 ∷ 3 ∷ []) (8 ∷ 12 ∷ 3 ∷ []) five_shares) (0 ∷ 1 ∷ 6 ∷ 14 ∷ 12 ∷ [])
    ∷ []

-- field 2: LOAD 0, the command, REVEAL 1 on the deal `wide`, with room for 86 openings of three shares. The places are those of OVER, and none is
-- compared.
unfoldable pub stop_shown : Stop → List ℕ
stop_shown x = let s = x.state.spent.counts in x.number ∷ s.masks ∷ s.triples ∷ s.openings ∷ x.state.shown

abbrev pub performed : Command → Row → List ℕ
performed c x =
    stop_shown
    (run_lines large (record { inputs = 1; masks = 1; triples = 42; parties = 3; log = 258; shown = 1 }) (x ∷ []) 0
    (line 0 (LOAD 0) ∷ line 2 c ∷ line 10 (REVEAL 1) ∷ []) (start wide))

-- the rows of field 2
unfoldable pub larges : List Figure
larges =
    -- field 2, OVER k=15 v=170 of 170, 171: 0, 1
    figure (performed (OVER 1 0 15 170) (of large 170)) (0 ∷ 1 ∷ 42 ∷ 86 ∷ 0 ∷ [])
    ∷ figure (performed (OVER 1 0 15 170) (of large 171)) (0 ∷ 1 ∷ 42 ∷ 86 ∷ 1 ∷ [])
    -- BLOCKS k=15 m=6 in field 2, of 179, 128, 0: 3, 2, 0
    ∷ figure (performed (BLOCKS 1 0 15 6) (of large 179)) (0 ∷ 1 ∷ 26 ∷ 54 ∷ 3 ∷ [])
    ∷ figure (performed (BLOCKS 1 0 15 6) (of large 128)) (0 ∷ 1 ∷ 26 ∷ 54 ∷ 2 ∷ [])
    ∷ figure (performed (BLOCKS 1 0 15 6) (of large 0)) (0 ∷ 1 ∷ 26 ∷ 54 ∷ 0 ∷ [])
    -- LTZ k=15 in field 2: 42 triples, 85 openings, and REVEAL's one
    ∷ figure (performed (LTZ 1 0 15) (of large 1)) (0 ∷ 1 ∷ 42 ∷ 86 ∷ 0 ∷ [])
    ∷ []

-- The P rows as commands: what each run gives is what is printed, with its counts.
pub record Commanded : Type 0 where
  pub remainders_compute : Computes remainders
  pub signs_compute : Computes signs
  pub large_compute : Computes larges
