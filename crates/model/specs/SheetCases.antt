-- The paper, "Refused because of the input": sheets that 1 to 8 refuse, and the last that they let through.
-- The reference writes this table (reference model-cases).
-- Assumes nothing.
use Rattle.std.specs.Prelude.{List, [], ◌∷◌, ◌++◌, replicate}
use Rattle.model.specs.CaseForms.{Case, stopped, scripted}

unfoldable pub sheet_cases : List Case
sheet_cases =
    -- 1: no byte
    stopped [] [] [] 1 0
    -- 1: ten bytes
    ∷ stopped (0 ∷ 3 ∷ 1 ∷ 0 ∷ 0 ∷ 0 ∷ 0 ∷ 0 ∷ 0 ∷ 0 ∷ []) [] [] 1 0
    -- 1 before 2
    ∷ stopped (4 ∷ 3 ∷ 1 ∷ 0 ∷ 0 ∷ 0 ∷ 0 ∷ 0 ∷ 0 ∷ 0 ∷ []) [] [] 1 0
    -- 10: eleven bytes, an empty script
    ∷ scripted 0 [] 10 0
    -- 2: field 4
    ∷ stopped (4 ∷ 3 ∷ 1 ∷ 0 ∷ 0 ∷ 0 ∷ 0 ∷ 0 ∷ 0 ∷ 1 ∷ 0 ∷ 0 ∷ []) [] [] 2 0
    -- 2 before 3
    ∷ stopped (4 ∷ 8 ∷ 1 ∷ 0 ∷ 0 ∷ 0 ∷ 0 ∷ 0 ∷ 0 ∷ 1 ∷ 0 ∷ 0 ∷ []) [] [] 2 0
    -- 2 before 4
    ∷ stopped (255 ∷ 3 ∷ 1 ∷ 65 ∷ 0 ∷ 0 ∷ 0 ∷ 0 ∷ 0 ∷ 1 ∷ 0 ∷ 0 ∷ []) [] [] 2 0
    -- 3: two parties
    ∷ stopped (0 ∷ 2 ∷ 1 ∷ 0 ∷ 0 ∷ 0 ∷ 0 ∷ 0 ∷ 0 ∷ 1 ∷ 0 ∷ []) (0 ∷ []) [] 3 0
    -- 3: two parties, threshold 0
    ∷ stopped (0 ∷ 2 ∷ 0 ∷ 0 ∷ 0 ∷ 0 ∷ 0 ∷ 0 ∷ 0 ∷ 1 ∷ 0 ∷ []) (0 ∷ []) [] 3 0
    -- 3: eight parties
    ∷ stopped (0 ∷ 8 ∷ 3 ∷ 0 ∷ 0 ∷ 0 ∷ 0 ∷ 0 ∷ 0 ∷ 1 ∷ 0 ∷ []) (0 ∷ []) [] 3 0
    -- 3: threshold 0
    ∷ stopped (0 ∷ 3 ∷ 0 ∷ 0 ∷ 0 ∷ 0 ∷ 0 ∷ 0 ∷ 0 ∷ 1 ∷ 0 ∷ []) (0 ∷ []) [] 3 0
    -- 2t + 1 is at most n
    ∷ scripted 0 (0 ∷ []) 0 0
    ∷ stopped (0 ∷ 4 ∷ 1 ∷ 0 ∷ 0 ∷ 0 ∷ 0 ∷ 0 ∷ 0 ∷ 1 ∷ 0 ∷ []) (0 ∷ []) [] 0 0
    ∷ stopped (0 ∷ 5 ∷ 2 ∷ 0 ∷ 0 ∷ 0 ∷ 0 ∷ 0 ∷ 0 ∷ 1 ∷ 0 ∷ []) (0 ∷ []) [] 0 0
    ∷ stopped (0 ∷ 6 ∷ 2 ∷ 0 ∷ 0 ∷ 0 ∷ 0 ∷ 0 ∷ 0 ∷ 1 ∷ 0 ∷ []) (0 ∷ []) [] 0 0
    ∷ stopped (0 ∷ 7 ∷ 3 ∷ 0 ∷ 0 ∷ 0 ∷ 0 ∷ 0 ∷ 0 ∷ 1 ∷ 0 ∷ []) (0 ∷ []) [] 0 0
    ∷ stopped (0 ∷ 7 ∷ 1 ∷ 0 ∷ 0 ∷ 0 ∷ 0 ∷ 0 ∷ 0 ∷ 1 ∷ 0 ∷ []) (0 ∷ []) [] 0 0
    -- 3: 2t + 1 is more than n
    ∷ stopped (0 ∷ 3 ∷ 2 ∷ 0 ∷ 0 ∷ 0 ∷ 0 ∷ 0 ∷ 0 ∷ 1 ∷ 0 ∷ []) (0 ∷ []) [] 3 0
    ∷ stopped (0 ∷ 4 ∷ 2 ∷ 0 ∷ 0 ∷ 0 ∷ 0 ∷ 0 ∷ 0 ∷ 1 ∷ 0 ∷ []) (0 ∷ []) [] 3 0
    ∷ stopped (0 ∷ 5 ∷ 3 ∷ 0 ∷ 0 ∷ 0 ∷ 0 ∷ 0 ∷ 0 ∷ 1 ∷ 0 ∷ []) (0 ∷ []) [] 3 0
    ∷ stopped (0 ∷ 6 ∷ 3 ∷ 0 ∷ 0 ∷ 0 ∷ 0 ∷ 0 ∷ 0 ∷ 1 ∷ 0 ∷ []) (0 ∷ []) [] 3 0
    ∷ stopped (0 ∷ 7 ∷ 4 ∷ 0 ∷ 0 ∷ 0 ∷ 0 ∷ 0 ∷ 0 ∷ 1 ∷ 0 ∷ []) (0 ∷ []) [] 3 0
    -- 3 before 4
    ∷ stopped (0 ∷ 8 ∷ 3 ∷ 65 ∷ 0 ∷ 0 ∷ 0 ∷ 0 ∷ 0 ∷ 1 ∷ 0 ∷ []) (0 ∷ []) [] 3 0
    -- 3 before 4: the threshold
    ∷ stopped (0 ∷ 3 ∷ 0 ∷ 0 ∷ 0 ∷ 0 ∷ 0 ∷ 0 ∷ 0 ∷ 2 ∷ 0 ∷ []) (0 ∷ []) [] 3 0
    -- 4: a byte is missing
    ∷ stopped (0 ∷ 3 ∷ 1 ∷ 0 ∷ 0 ∷ 0 ∷ 0 ∷ 0 ∷ 0 ∷ 2 ∷ 0 ∷ []) (0 ∷ []) [] 4 0
    -- 4: a byte more
    ∷ stopped (0 ∷ 3 ∷ 1 ∷ 0 ∷ 0 ∷ 0 ∷ 0 ∷ 0 ∷ 0 ∷ 0 ∷ 0 ∷ []) (0 ∷ []) [] 4 0
    -- 4: 256 input rows
    ∷ stopped (0 ∷ 3 ∷ 1 ∷ 0 ∷ 1 ∷ 0 ∷ 0 ∷ 0 ∷ 0 ∷ 1 ∷ 0 ∷ []) (0 ∷ []) [] 4 0
    -- 4: 256 masks
    ∷ stopped (0 ∷ 3 ∷ 1 ∷ 0 ∷ 0 ∷ 0 ∷ 1 ∷ 0 ∷ 0 ∷ 1 ∷ 0 ∷ []) (0 ∷ []) [] 4 0
    -- 4: 256 triples are missing
    ∷ stopped (0 ∷ 3 ∷ 1 ∷ 0 ∷ 0 ∷ 0 ∷ 0 ∷ 0 ∷ 1 ∷ 1 ∷ 0 ∷ []) (0 ∷ []) [] 4 0
    -- 4: 256 bytes of script are missing
    ∷ stopped (0 ∷ 3 ∷ 1 ∷ 0 ∷ 0 ∷ 0 ∷ 0 ∷ 0 ∷ 0 ∷ 1 ∷ 1 ∷ []) (0 ∷ []) [] 4 0
    -- a row, a mask of four rows and a triple of three
    ∷ stopped (0 ∷ 3 ∷ 1 ∷ 1 ∷ 0 ∷ 1 ∷ 0 ∷ 1 ∷ 0 ∷ 1 ∷ 0 ∷ []) (0 ∷ []) (replicate 24 0) 0 0
    -- 4: a row is missing
    ∷ stopped (0 ∷ 3 ∷ 1 ∷ 1 ∷ 0 ∷ 1 ∷ 0 ∷ 1 ∷ 0 ∷ 1 ∷ 0 ∷ []) (0 ∷ []) (replicate 21 0) 4 0
    -- 4: a row more
    ∷ stopped (0 ∷ 3 ∷ 1 ∷ 1 ∷ 0 ∷ 1 ∷ 0 ∷ 1 ∷ 0 ∷ 1 ∷ 0 ∷ []) (0 ∷ []) (replicate 27 0) 4 0
    -- a row is n shares
    ∷ stopped (0 ∷ 4 ∷ 1 ∷ 1 ∷ 0 ∷ 0 ∷ 0 ∷ 1 ∷ 0 ∷ 1 ∷ 0 ∷ []) (0 ∷ []) (replicate 16 0) 0 0
    -- a mask is 8 rows in field 1
    ∷ stopped (1 ∷ 3 ∷ 1 ∷ 0 ∷ 0 ∷ 1 ∷ 0 ∷ 0 ∷ 0 ∷ 1 ∷ 0 ∷ []) (0 ∷ []) (replicate 24 0) 0 0
    -- a mask is 16 rows in field 2
    ∷ stopped (2 ∷ 3 ∷ 1 ∷ 0 ∷ 0 ∷ 1 ∷ 0 ∷ 0 ∷ 0 ∷ 1 ∷ 0 ∷ []) (0 ∷ []) (replicate 48 0) 0 0
    -- a mask is 31 rows in field 3
    ∷ stopped (3 ∷ 3 ∷ 1 ∷ 0 ∷ 0 ∷ 1 ∷ 0 ∷ 0 ∷ 0 ∷ 1 ∷ 0 ∷ []) (0 ∷ []) (replicate 93 0) 0 0
    -- 4 before 5
    ∷ stopped (0 ∷ 3 ∷ 1 ∷ 1 ∷ 0 ∷ 1 ∷ 0 ∷ 0 ∷ 0 ∷ 1 ∷ 0 ∷ []) (0 ∷ []) (13 ∷ 13 ∷ 13 ∷ []) 4 0
    -- 12 is a share in field 0
    ∷ stopped (0 ∷ 3 ∷ 1 ∷ 1 ∷ 0 ∷ 0 ∷ 0 ∷ 0 ∷ 0 ∷ 1 ∷ 0 ∷ []) (0 ∷ []) (12 ∷ 12 ∷ 12 ∷ []) 0 0
    -- 5: 13 is none
    ∷ stopped (0 ∷ 3 ∷ 1 ∷ 1 ∷ 0 ∷ 0 ∷ 0 ∷ 0 ∷ 0 ∷ 1 ∷ 0 ∷ []) (0 ∷ []) (13 ∷ 13 ∷ 13 ∷ []) 5 0
    -- 5: the first share of an input row
    ∷ stopped (0 ∷ 3 ∷ 1 ∷ 1 ∷ 0 ∷ 1 ∷ 0 ∷ 1 ∷ 0 ∷ 1 ∷ 0 ∷ []) (0 ∷ []) (13 ∷ (replicate 23 0)) 5 0
    -- 5: the last share of an input row
    ∷ stopped (0 ∷ 3 ∷ 1 ∷ 1 ∷ 0 ∷ 1 ∷ 0 ∷ 1 ∷ 0 ∷ 1 ∷ 0 ∷ []) (0 ∷ []) (0 ∷ 0 ∷ 13 ∷ (replicate 21 0)) 5 0
    -- 5: a share of a mask
    ∷ stopped (0 ∷ 3 ∷ 1 ∷ 1 ∷ 0 ∷ 1 ∷ 0 ∷ 1 ∷ 0 ∷ 1 ∷ 0 ∷ []) (0 ∷ []) (replicate 14 0 ++ 13 ∷ 0 ∷ 0 ∷ 0 ∷ 0 ∷ 0 ∷ 0 ∷ 0 ∷ 0 ∷ 0 ∷ []) 5 0
    -- 5: the last share of a triple
    ∷ stopped (0 ∷ 3 ∷ 1 ∷ 1 ∷ 0 ∷ 1 ∷ 0 ∷ 1 ∷ 0 ∷ 1 ∷ 0 ∷ []) (0 ∷ []) (replicate 23 0 ++ 13 ∷ []) 5 0
    -- 5: a share is four bytes
    ∷ stopped (0 ∷ 3 ∷ 1 ∷ 1 ∷ 0 ∷ 1 ∷ 0 ∷ 1 ∷ 0 ∷ 1 ∷ 0 ∷ []) (0 ∷ []) (0 ∷ 16777216 ∷ (replicate 22 0)) 5 0
    -- 5: party 7, field 1
    ∷ stopped (1 ∷ 7 ∷ 3 ∷ 1 ∷ 0 ∷ 0 ∷ 0 ∷ 0 ∷ 0 ∷ 1 ∷ 0 ∷ []) (0 ∷ []) (250 ∷ 250 ∷ 250 ∷ 250 ∷ 250 ∷ 250 ∷ 251 ∷ []) 5 0
    -- 250 is a share in field 1
    ∷ stopped (1 ∷ 7 ∷ 3 ∷ 1 ∷ 0 ∷ 0 ∷ 0 ∷ 0 ∷ 0 ∷ 1 ∷ 0 ∷ []) (0 ∷ []) (250 ∷ 250 ∷ 250 ∷ 250 ∷ 250 ∷ 250 ∷ 250 ∷ []) 0 0
    -- 65520 is a share in field 2
    ∷ stopped (2 ∷ 3 ∷ 1 ∷ 1 ∷ 0 ∷ 0 ∷ 0 ∷ 0 ∷ 0 ∷ 1 ∷ 0 ∷ []) (0 ∷ []) (65520 ∷ 65520 ∷ 65520 ∷ []) 0 0
    -- 5: 65521 is none
    ∷ stopped (2 ∷ 3 ∷ 1 ∷ 1 ∷ 0 ∷ 0 ∷ 0 ∷ 0 ∷ 0 ∷ 1 ∷ 0 ∷ []) (0 ∷ []) (65521 ∷ 65521 ∷ 65521 ∷ []) 5 0
    -- 2147483646 is a share in field 3
    ∷ stopped (3 ∷ 3 ∷ 1 ∷ 1 ∷ 0 ∷ 0 ∷ 0 ∷ 0 ∷ 0 ∷ 1 ∷ 0 ∷ []) (0 ∷ []) (2147483646 ∷ 2147483646 ∷ 2147483646 ∷ []) 0 0
    -- 5: 2147483647 is none
    ∷ stopped (3 ∷ 3 ∷ 1 ∷ 1 ∷ 0 ∷ 0 ∷ 0 ∷ 0 ∷ 0 ∷ 1 ∷ 0 ∷ []) (0 ∷ []) (2147483647 ∷ 2147483647 ∷ 2147483647 ∷ []) 5 0
    -- 5 before 6, over the whole sheet: the first row is no sharing, a share of the second is 13
    ∷ stopped (0 ∷ 3 ∷ 1 ∷ 2 ∷ 0 ∷ 0 ∷ 0 ∷ 0 ∷ 0 ∷ 1 ∷ 0 ∷ []) (0 ∷ []) (0 ∷ 0 ∷ 1 ∷ 0 ∷ 0 ∷ 13 ∷ []) 5 0
    -- 5 before 6: an input row that is no sharing, the last share of a triple
    ∷ stopped (0 ∷ 3 ∷ 1 ∷ 1 ∷ 0 ∷ 0 ∷ 0 ∷ 1 ∷ 0 ∷ 1 ∷ 0 ∷ []) (0 ∷ []) (0 ∷ 0 ∷ 1 ∷ 0 ∷ 0 ∷ 0 ∷ 0 ∷ 0 ∷ 0 ∷ 0 ∷ 0 ∷ 13 ∷ []) 5 0
    -- a line, threshold 1
    ∷ stopped (0 ∷ 3 ∷ 1 ∷ 1 ∷ 0 ∷ 0 ∷ 0 ∷ 0 ∷ 0 ∷ 1 ∷ 0 ∷ []) (0 ∷ []) (1 ∷ 2 ∷ 3 ∷ []) 0 0
    -- 6: a parabola, threshold 1
    ∷ stopped (0 ∷ 3 ∷ 1 ∷ 1 ∷ 0 ∷ 0 ∷ 0 ∷ 0 ∷ 0 ∷ 1 ∷ 0 ∷ []) (0 ∷ []) (1 ∷ 4 ∷ 9 ∷ []) 6 0
    -- a parabola, threshold 2
    ∷ stopped (0 ∷ 5 ∷ 2 ∷ 1 ∷ 0 ∷ 0 ∷ 0 ∷ 0 ∷ 0 ∷ 1 ∷ 0 ∷ []) (0 ∷ []) (1 ∷ 4 ∷ 9 ∷ 3 ∷ 12 ∷ []) 0 0
    -- 6: a cubic, threshold 2
    ∷ stopped (1 ∷ 5 ∷ 2 ∷ 1 ∷ 0 ∷ 0 ∷ 0 ∷ 0 ∷ 0 ∷ 1 ∷ 0 ∷ []) (0 ∷ []) (1 ∷ 8 ∷ 27 ∷ 64 ∷ 125 ∷ []) 6 0
    -- a cubic, threshold 3
    ∷ stopped (1 ∷ 7 ∷ 3 ∷ 1 ∷ 0 ∷ 0 ∷ 0 ∷ 0 ∷ 0 ∷ 1 ∷ 0 ∷ []) (0 ∷ []) (1 ∷ 8 ∷ 27 ∷ 64 ∷ 125 ∷ 216 ∷ 92 ∷ []) 0 0
    -- 6: a fourth power, threshold 3
    ∷ stopped (1 ∷ 7 ∷ 3 ∷ 1 ∷ 0 ∷ 0 ∷ 0 ∷ 0 ∷ 0 ∷ 1 ∷ 0 ∷ []) (0 ∷ []) (1 ∷ 16 ∷ 81 ∷ 5 ∷ 123 ∷ 41 ∷ 142 ∷ []) 6 0
    -- 6: the first share of an input row
    ∷ stopped (0 ∷ 3 ∷ 1 ∷ 1 ∷ 0 ∷ 1 ∷ 0 ∷ 1 ∷ 0 ∷ 1 ∷ 0 ∷ []) (0 ∷ []) (1 ∷ (replicate 23 0)) 6 0
    -- 6: the last share of an input row
    ∷ stopped (0 ∷ 3 ∷ 1 ∷ 1 ∷ 0 ∷ 1 ∷ 0 ∷ 1 ∷ 0 ∷ 1 ∷ 0 ∷ []) (0 ∷ []) (0 ∷ 0 ∷ 1 ∷ (replicate 21 0)) 6 0
    -- 6: a row of a mask
    ∷ stopped (0 ∷ 3 ∷ 1 ∷ 1 ∷ 0 ∷ 1 ∷ 0 ∷ 1 ∷ 0 ∷ 1 ∷ 0 ∷ []) (0 ∷ []) (replicate 13 0 ++ 1 ∷ (replicate 10 0)) 6 0
    -- 6: a triple's row a
    ∷ stopped (0 ∷ 3 ∷ 1 ∷ 1 ∷ 0 ∷ 1 ∷ 0 ∷ 1 ∷ 0 ∷ 1 ∷ 0 ∷ []) (0 ∷ []) (replicate 15 0 ++ 1 ∷ 0 ∷ 0 ∷ 0 ∷ 0 ∷ 0 ∷ 0 ∷ 0 ∷ 0 ∷ []) 6 0
    -- 6: a triple's row b
    ∷ stopped (0 ∷ 3 ∷ 1 ∷ 1 ∷ 0 ∷ 1 ∷ 0 ∷ 1 ∷ 0 ∷ 1 ∷ 0 ∷ []) (0 ∷ []) (replicate 20 0 ++ 1 ∷ 0 ∷ 0 ∷ 0 ∷ []) 6 0
    -- 6: a triple's row c
    ∷ stopped (0 ∷ 3 ∷ 1 ∷ 1 ∷ 0 ∷ 1 ∷ 0 ∷ 1 ∷ 0 ∷ 1 ∷ 0 ∷ []) (0 ∷ []) (replicate 23 0 ++ 1 ∷ []) 6 0
    -- 6 before 7, over the whole sheet: bit 0 of the mask is 2, the triple's row c is no sharing
    ∷ stopped (0 ∷ 3 ∷ 1 ∷ 0 ∷ 0 ∷ 1 ∷ 0 ∷ 1 ∷ 0 ∷ 1 ∷ 0 ∷ []) (0 ∷ []) (2 ∷ 2 ∷ 2 ∷ (replicate 17 0 ++ 1 ∷ [])) 6 0
    -- 6 before 8
    ∷ stopped (0 ∷ 3 ∷ 1 ∷ 0 ∷ 0 ∷ 0 ∷ 0 ∷ 2 ∷ 0 ∷ 1 ∷ 0 ∷ []) (0 ∷ [])
    (1 ∷ 1 ∷ 1 ∷ 1 ∷ 1 ∷ 1 ∷ 2 ∷ 2 ∷ 2 ∷ 0 ∷ 0 ∷ 1 ∷ 0 ∷ 0 ∷ 0 ∷ 0 ∷ 0 ∷ 0 ∷ []) 6 0
    -- a mask of 12, below p
    ∷ stopped (0 ∷ 3 ∷ 1 ∷ 0 ∷ 0 ∷ 1 ∷ 0 ∷ 0 ∷ 0 ∷ 1 ∷ 0 ∷ []) (0 ∷ []) (0 ∷ 0 ∷ 0 ∷ 0 ∷ 0 ∷ 0 ∷ 1 ∷ 1 ∷ 1 ∷ 1 ∷ 1 ∷ 1 ∷ []) 0 0
    -- 7: a mask of 13
    ∷ stopped (0 ∷ 3 ∷ 1 ∷ 0 ∷ 0 ∷ 1 ∷ 0 ∷ 0 ∷ 0 ∷ 1 ∷ 0 ∷ []) (0 ∷ []) (1 ∷ 1 ∷ 1 ∷ 0 ∷ 0 ∷ 0 ∷ 1 ∷ 1 ∷ 1 ∷ 1 ∷ 1 ∷ 1 ∷ []) 7 0
    -- 7: bit 0 is 2
    ∷ stopped (0 ∷ 3 ∷ 1 ∷ 0 ∷ 0 ∷ 1 ∷ 0 ∷ 0 ∷ 0 ∷ 1 ∷ 0 ∷ []) (0 ∷ []) (2 ∷ 2 ∷ 2 ∷ 0 ∷ 0 ∷ 0 ∷ 0 ∷ 0 ∷ 0 ∷ 0 ∷ 0 ∷ 0 ∷ []) 7 0
    -- 7: bit 3 is 12, that is -1
    ∷ stopped (0 ∷ 3 ∷ 1 ∷ 0 ∷ 0 ∷ 1 ∷ 0 ∷ 0 ∷ 0 ∷ 1 ∷ 0 ∷ []) (0 ∷ []) (0 ∷ 0 ∷ 0 ∷ 0 ∷ 0 ∷ 0 ∷ 0 ∷ 0 ∷ 0 ∷ 12 ∷ 12 ∷ 12 ∷ []) 7 0
    -- 7: the second mask
    ∷ stopped (0 ∷ 3 ∷ 1 ∷ 0 ∷ 0 ∷ 2 ∷ 0 ∷ 0 ∷ 0 ∷ 1 ∷ 0 ∷ []) (0 ∷ [])
    (0 ∷ 0 ∷ 0 ∷ 0 ∷ 0 ∷ 0 ∷ 1 ∷ 1 ∷ 1 ∷ 1 ∷ 1 ∷ 1 ∷ 0 ∷ 0 ∷ 0 ∷ 2 ∷ 2 ∷ 2 ∷ 0 ∷ 0 ∷ 0 ∷ 0 ∷ 0 ∷ 0 ∷ []) 7 0
    -- 7: a bit is a secret, not a share: 1, 3, 5 is a sharing of 12
    ∷ stopped (0 ∷ 3 ∷ 1 ∷ 0 ∷ 0 ∷ 1 ∷ 0 ∷ 0 ∷ 0 ∷ 1 ∷ 0 ∷ []) (0 ∷ []) (1 ∷ 3 ∷ 5 ∷ 0 ∷ 0 ∷ 0 ∷ 0 ∷ 0 ∷ 0 ∷ 0 ∷ 0 ∷ 0 ∷ []) 7 0
    -- 0, 12, 11 is a sharing of 1
    ∷ stopped (0 ∷ 3 ∷ 1 ∷ 0 ∷ 0 ∷ 1 ∷ 0 ∷ 0 ∷ 0 ∷ 1 ∷ 0 ∷ []) (0 ∷ []) (0 ∷ 12 ∷ 11 ∷ 0 ∷ 0 ∷ 0 ∷ 0 ∷ 0 ∷ 0 ∷ 0 ∷ 0 ∷ 0 ∷ []) 0 0
    -- 7 before 8
    ∷ stopped (0 ∷ 3 ∷ 1 ∷ 0 ∷ 0 ∷ 1 ∷ 0 ∷ 1 ∷ 0 ∷ 1 ∷ 0 ∷ []) (0 ∷ []) (1 ∷ 1 ∷ 1 ∷ 0 ∷ 0 ∷ 0 ∷ (replicate 12 1 ++ 2 ∷ 2 ∷ 2 ∷ [])) 7 0
    -- 2 times 3 is 6
    ∷ stopped (0 ∷ 3 ∷ 1 ∷ 0 ∷ 0 ∷ 0 ∷ 0 ∷ 1 ∷ 0 ∷ 1 ∷ 0 ∷ []) (0 ∷ []) (2 ∷ 2 ∷ 2 ∷ 3 ∷ 3 ∷ 3 ∷ 6 ∷ 6 ∷ 6 ∷ []) 0 0
    -- 8: 2 times 3 is not 5
    ∷ stopped (0 ∷ 3 ∷ 1 ∷ 0 ∷ 0 ∷ 0 ∷ 0 ∷ 1 ∷ 0 ∷ 1 ∷ 0 ∷ []) (0 ∷ []) (2 ∷ 2 ∷ 2 ∷ 3 ∷ 3 ∷ 3 ∷ 5 ∷ 5 ∷ 5 ∷ []) 8 0
    -- 5 times 8 is 1 modulo 13
    ∷ stopped (0 ∷ 3 ∷ 1 ∷ 0 ∷ 0 ∷ 0 ∷ 0 ∷ 1 ∷ 0 ∷ 1 ∷ 0 ∷ []) (0 ∷ []) (5 ∷ 5 ∷ 5 ∷ 8 ∷ 8 ∷ 8 ∷ 1 ∷ 1 ∷ 1 ∷ []) 0 0
    -- 8: 40 is 1 modulo 13, not 2
    ∷ stopped (0 ∷ 3 ∷ 1 ∷ 0 ∷ 0 ∷ 0 ∷ 0 ∷ 1 ∷ 0 ∷ 1 ∷ 0 ∷ []) (0 ∷ []) (5 ∷ 5 ∷ 5 ∷ 8 ∷ 8 ∷ 8 ∷ 2 ∷ 2 ∷ 2 ∷ []) 8 0
    -- 8: the second triple
    ∷ stopped (0 ∷ 3 ∷ 1 ∷ 0 ∷ 0 ∷ 0 ∷ 0 ∷ 2 ∷ 0 ∷ 1 ∷ 0 ∷ []) (0 ∷ [])
    (2 ∷ 2 ∷ 2 ∷ 3 ∷ 3 ∷ 3 ∷ 6 ∷ 6 ∷ 6 ∷ 1 ∷ 1 ∷ 1 ∷ 1 ∷ 1 ∷ 1 ∷ 2 ∷ 2 ∷ 2 ∷ []) 8 0
    -- 8: the secrets 0, 2 and 2, though 1 times 2 is 2 for party 1
    ∷ stopped (0 ∷ 3 ∷ 1 ∷ 0 ∷ 0 ∷ 0 ∷ 0 ∷ 1 ∷ 0 ∷ 1 ∷ 0 ∷ []) (0 ∷ []) (1 ∷ 2 ∷ 3 ∷ 2 ∷ 2 ∷ 2 ∷ 2 ∷ 2 ∷ 2 ∷ []) 8 0
    -- a triple of sharings: 2, 3 and 6
    ∷ stopped (0 ∷ 3 ∷ 1 ∷ 0 ∷ 0 ∷ 0 ∷ 0 ∷ 1 ∷ 0 ∷ 1 ∷ 0 ∷ []) (0 ∷ []) (3 ∷ 4 ∷ 5 ∷ 5 ∷ 7 ∷ 9 ∷ 9 ∷ 12 ∷ 2 ∷ []) 0 0
    -- 8 before 9
    ∷ stopped (0 ∷ 3 ∷ 1 ∷ 0 ∷ 0 ∷ 0 ∷ 0 ∷ 1 ∷ 0 ∷ 1 ∷ 0 ∷ []) (15 ∷ []) (1 ∷ 1 ∷ 1 ∷ 1 ∷ 1 ∷ 1 ∷ 2 ∷ 2 ∷ 2 ∷ []) 8 0
    -- 8 before 10
    ∷ stopped (0 ∷ 3 ∷ 1 ∷ 0 ∷ 0 ∷ 0 ∷ 0 ∷ 1 ∷ 0 ∷ 0 ∷ 0 ∷ []) [] (1 ∷ 1 ∷ 1 ∷ 1 ∷ 1 ∷ 1 ∷ 2 ∷ 2 ∷ 2 ∷ []) 8 0
    -- 8 before 11
    ∷ stopped (0 ∷ 3 ∷ 1 ∷ 0 ∷ 0 ∷ 0 ∷ 0 ∷ 1 ∷ 0 ∷ 3 ∷ 0 ∷ []) (1 ∷ 64 ∷ 0 ∷ []) (1 ∷ 1 ∷ 1 ∷ 1 ∷ 1 ∷ 1 ∷ 2 ∷ 2 ∷ 2 ∷ []) 8 0
    -- 64 input rows
    ∷ stopped (0 ∷ 3 ∷ 1 ∷ 64 ∷ 0 ∷ 0 ∷ 0 ∷ 0 ∷ 0 ∷ 1 ∷ 0 ∷ []) (0 ∷ []) (replicate 192 0) 0 0
    -- 4: 65 input rows
    ∷ stopped (0 ∷ 3 ∷ 1 ∷ 65 ∷ 0 ∷ 0 ∷ 0 ∷ 0 ∷ 0 ∷ 1 ∷ 0 ∷ []) (0 ∷ []) (replicate 195 0) 4 0
    -- 16 masks
    ∷ stopped (0 ∷ 3 ∷ 1 ∷ 0 ∷ 0 ∷ 16 ∷ 0 ∷ 0 ∷ 0 ∷ 1 ∷ 0 ∷ []) (0 ∷ []) (replicate 192 0) 0 0
    -- 4: 17 masks
    ∷ stopped (0 ∷ 3 ∷ 1 ∷ 0 ∷ 0 ∷ 17 ∷ 0 ∷ 0 ∷ 0 ∷ 1 ∷ 0 ∷ []) (0 ∷ []) (replicate 204 0) 4 0
    -- 5: 512 triples, the first share is 13
    ∷ stopped (0 ∷ 3 ∷ 1 ∷ 0 ∷ 0 ∷ 0 ∷ 0 ∷ 0 ∷ 2 ∷ 1 ∷ 0 ∷ []) (0 ∷ []) (13 ∷ (replicate 4607 0)) 5 0
    -- 4: 513 triples
    ∷ stopped (0 ∷ 3 ∷ 1 ∷ 0 ∷ 0 ∷ 0 ∷ 0 ∷ 1 ∷ 2 ∷ 1 ∷ 0 ∷ []) (0 ∷ []) (13 ∷ (replicate 4616 0)) 4 0
    -- 9: 1,024 bytes of script, the first is 0F
    ∷ stopped (0 ∷ 3 ∷ 1 ∷ 0 ∷ 0 ∷ 0 ∷ 0 ∷ 0 ∷ 0 ∷ 0 ∷ 4 ∷ []) (15 ∷ (replicate 1023 0)) [] 9 0
    -- 4: 1,025 bytes of script
    ∷ stopped (0 ∷ 3 ∷ 1 ∷ 0 ∷ 0 ∷ 0 ∷ 0 ∷ 0 ∷ 0 ∷ 1 ∷ 4 ∷ []) (15 ∷ (replicate 1024 0)) [] 4 0
    ∷ []
