-- The paper, "Refused because of the input": scripts that 9 to 11 refuse, and the last that they let through.
-- The reference writes this table (reference model-cases).
-- Assumes nothing.
use Rattle.std.specs.Prelude.{List, [], ◌∷◌, ◌++◌, replicate}
use Rattle.model.specs.CaseForms.{Case, scripted}

unfoldable pub script_cases : List Case
script_cases =
    -- 9: byte 0F
    scripted 0 (15 ∷ 0 ∷ []) 9 0
    -- 9: its place is the command's offset
    ∷ scripted 0 (1 ∷ 0 ∷ 15 ∷ 0 ∷ []) 9 2
    -- 9: byte FF
    ∷ scripted 0 (1 ∷ 0 ∷ 255 ∷ 0 ∷ []) 9 2
    -- 9 before 10: no END either
    ∷ scripted 0 (1 ∷ 0 ∷ 15 ∷ []) 9 2
    -- 10: an empty script
    ∷ scripted 0 [] 10 0
    -- 10: no END: the place is the script length
    ∷ scripted 0 (1 ∷ 0 ∷ []) 10 2
    -- 10: bytes after END: the place is the offset just after END
    ∷ scripted 0 (1 ∷ 0 ∷ 0 ∷ 0 ∷ []) 10 3
    -- 10: END twice
    ∷ scripted 0 (0 ∷ 0 ∷ []) 10 1
    -- 10: what follows END is not read
    ∷ scripted 0 (1 ∷ 0 ∷ 0 ∷ 15 ∷ []) 10 3
    -- 10: nor is it tried for 11
    ∷ scripted 0 (1 ∷ 0 ∷ 0 ∷ 1 ∷ 64 ∷ 0 ∷ []) 10 3
    -- 22: 100 times LOAD 1, and END: a longer script is read whole
    ∷ scripted 0 (replicate 200 1 ++ 0 ∷ []) 22 0
    -- 10: operands cut off: the place is the command's offset
    ∷ scripted 0 (1 ∷ 0 ∷ 1 ∷ []) 10 2
    ∷ scripted 0 (1 ∷ 0 ∷ 2 ∷ 1 ∷ 4 ∷ 0 ∷ 0 ∷ []) 10 2
    ∷ scripted 0 (1 ∷ 0 ∷ 3 ∷ 1 ∷ 2 ∷ []) 10 2
    ∷ scripted 0 (1 ∷ 0 ∷ 4 ∷ 1 ∷ 2 ∷ []) 10 2
    ∷ scripted 0 (1 ∷ 0 ∷ 5 ∷ 1 ∷ 2 ∷ 4 ∷ 0 ∷ 0 ∷ []) 10 2
    ∷ scripted 0 (1 ∷ 0 ∷ 6 ∷ 1 ∷ 2 ∷ []) 10 2
    ∷ scripted 0 (1 ∷ 0 ∷ 7 ∷ 1 ∷ 2 ∷ 3 ∷ []) 10 2
    ∷ scripted 0 (1 ∷ 0 ∷ 8 ∷ 1 ∷ 2 ∷ 3 ∷ []) 10 2
    ∷ scripted 0 (1 ∷ 0 ∷ 9 ∷ 1 ∷ 2 ∷ []) 10 2
    ∷ scripted 0 (1 ∷ 0 ∷ 10 ∷ 1 ∷ 2 ∷ 3 ∷ 4 ∷ 0 ∷ 0 ∷ []) 10 2
    ∷ scripted 0 (1 ∷ 0 ∷ 11 ∷ 1 ∷ 2 ∷ 3 ∷ []) 10 2
    ∷ scripted 0 (1 ∷ 0 ∷ 12 ∷ []) 10 2
    ∷ scripted 0 (1 ∷ 0 ∷ 13 ∷ 1 ∷ 3 ∷ 3 ∷ 4 ∷ 0 ∷ 0 ∷ []) 10 2
    ∷ scripted 0 (1 ∷ 0 ∷ 14 ∷ 1 ∷ 2 ∷ 1 ∷ []) 10 2
    -- 10: no END after the command
    ∷ scripted 0 (1 ∷ 0 ∷ 1 ∷ 1 ∷ []) 10 4
    ∷ scripted 0 (1 ∷ 0 ∷ 2 ∷ 1 ∷ 4 ∷ 0 ∷ 0 ∷ 0 ∷ []) 10 8
    ∷ scripted 0 (1 ∷ 0 ∷ 3 ∷ 1 ∷ 2 ∷ 3 ∷ []) 10 6
    ∷ scripted 0 (1 ∷ 0 ∷ 4 ∷ 1 ∷ 2 ∷ 3 ∷ []) 10 6
    ∷ scripted 0 (1 ∷ 0 ∷ 5 ∷ 1 ∷ 2 ∷ 4 ∷ 0 ∷ 0 ∷ 0 ∷ []) 10 9
    ∷ scripted 0 (1 ∷ 0 ∷ 6 ∷ 1 ∷ 2 ∷ 3 ∷ []) 10 6
    ∷ scripted 0 (1 ∷ 0 ∷ 7 ∷ 1 ∷ 2 ∷ 3 ∷ 1 ∷ []) 10 7
    ∷ scripted 0 (1 ∷ 0 ∷ 8 ∷ 1 ∷ 2 ∷ 3 ∷ 1 ∷ []) 10 7
    ∷ scripted 0 (1 ∷ 0 ∷ 9 ∷ 1 ∷ 2 ∷ 3 ∷ []) 10 6
    ∷ scripted 0 (1 ∷ 0 ∷ 10 ∷ 1 ∷ 2 ∷ 3 ∷ 4 ∷ 0 ∷ 0 ∷ 0 ∷ []) 10 10
    ∷ scripted 0 (1 ∷ 0 ∷ 11 ∷ 1 ∷ 2 ∷ 3 ∷ 1 ∷ []) 10 7
    ∷ scripted 0 (1 ∷ 0 ∷ 12 ∷ 2 ∷ []) 10 4
    ∷ scripted 0 (1 ∷ 0 ∷ 13 ∷ 1 ∷ 3 ∷ 3 ∷ 4 ∷ 0 ∷ 0 ∷ 0 ∷ []) 10 10
    ∷ scripted 0 (1 ∷ 0 ∷ 14 ∷ 1 ∷ 2 ∷ 1 ∷ 3 ∷ []) 10 7
    -- 10 before 11: ADD 64 0, cut off
    ∷ scripted 0 (1 ∷ 0 ∷ 3 ∷ 64 ∷ 0 ∷ []) 10 2
    -- 11 before 9, command by command
    ∷ scripted 0 (1 ∷ 0 ∷ 1 ∷ 64 ∷ 15 ∷ 0 ∷ []) 11 2
    -- 9 before 11, command by command
    ∷ scripted 0 (1 ∷ 0 ∷ 15 ∷ 1 ∷ 64 ∷ 0 ∷ []) 9 2
    -- 11 before a missing END
    ∷ scripted 0 (1 ∷ 0 ∷ 1 ∷ 64 ∷ []) 11 2
    -- 11 before bytes after END
    ∷ scripted 0 (1 ∷ 0 ∷ 1 ∷ 64 ∷ 0 ∷ 0 ∷ []) 11 2
    -- 11 before operands cut off
    ∷ scripted 0 (1 ∷ 0 ∷ 1 ∷ 64 ∷ 6 ∷ 0 ∷ []) 11 2
    -- 22: register 63 is let through
    ∷ scripted 0 (1 ∷ 63 ∷ 0 ∷ []) 22 0
    -- 21: register 63 is let through
    ∷ scripted 0 (12 ∷ 63 ∷ 0 ∷ []) 21 0
    ∷ scripted 0 (5 ∷ 63 ∷ 63 ∷ 4 ∷ 0 ∷ 0 ∷ 0 ∷ 0 ∷ []) 21 0
    ∷ scripted 0 (7 ∷ 63 ∷ 63 ∷ 3 ∷ 1 ∷ 0 ∷ []) 21 0
    ∷ scripted 0 (8 ∷ 63 ∷ 63 ∷ 3 ∷ 1 ∷ 0 ∷ []) 21 0
    ∷ scripted 0 (9 ∷ 63 ∷ 63 ∷ 3 ∷ 0 ∷ []) 21 0
    ∷ scripted 0 (10 ∷ 63 ∷ 63 ∷ 3 ∷ 4 ∷ 0 ∷ 0 ∷ 0 ∷ 0 ∷ []) 21 0
    ∷ scripted 0 (11 ∷ 63 ∷ 63 ∷ 3 ∷ 1 ∷ 0 ∷ []) 21 0
    ∷ scripted 0 (3 ∷ 63 ∷ 63 ∷ 63 ∷ 0 ∷ []) 21 0
    ∷ scripted 0 (4 ∷ 63 ∷ 63 ∷ 63 ∷ 0 ∷ []) 21 0
    ∷ scripted 0 (6 ∷ 63 ∷ 63 ∷ 63 ∷ 0 ∷ []) 21 0
    -- 11: register 64
    ∷ scripted 0 (1 ∷ 0 ∷ 1 ∷ 64 ∷ 0 ∷ []) 11 2
    ∷ scripted 0 (1 ∷ 0 ∷ 2 ∷ 64 ∷ 4 ∷ 0 ∷ 0 ∷ 0 ∷ 0 ∷ []) 11 2
    ∷ scripted 0 (1 ∷ 0 ∷ 12 ∷ 64 ∷ 0 ∷ []) 11 2
    ∷ scripted 0 (1 ∷ 0 ∷ 5 ∷ 64 ∷ 0 ∷ 4 ∷ 0 ∷ 0 ∷ 0 ∷ 0 ∷ []) 11 2
    ∷ scripted 0 (1 ∷ 0 ∷ 7 ∷ 64 ∷ 0 ∷ 3 ∷ 1 ∷ 0 ∷ []) 11 2
    ∷ scripted 0 (1 ∷ 0 ∷ 8 ∷ 64 ∷ 0 ∷ 3 ∷ 1 ∷ 0 ∷ []) 11 2
    ∷ scripted 0 (1 ∷ 0 ∷ 9 ∷ 64 ∷ 0 ∷ 3 ∷ 0 ∷ []) 11 2
    ∷ scripted 0 (1 ∷ 0 ∷ 10 ∷ 64 ∷ 0 ∷ 3 ∷ 4 ∷ 0 ∷ 0 ∷ 0 ∷ 0 ∷ []) 11 2
    ∷ scripted 0 (1 ∷ 0 ∷ 11 ∷ 64 ∷ 0 ∷ 3 ∷ 1 ∷ 0 ∷ []) 11 2
    ∷ scripted 0 (1 ∷ 0 ∷ 5 ∷ 0 ∷ 64 ∷ 4 ∷ 0 ∷ 0 ∷ 0 ∷ 0 ∷ []) 11 2
    ∷ scripted 0 (1 ∷ 0 ∷ 7 ∷ 0 ∷ 64 ∷ 3 ∷ 1 ∷ 0 ∷ []) 11 2
    ∷ scripted 0 (1 ∷ 0 ∷ 8 ∷ 0 ∷ 64 ∷ 3 ∷ 1 ∷ 0 ∷ []) 11 2
    ∷ scripted 0 (1 ∷ 0 ∷ 9 ∷ 0 ∷ 64 ∷ 3 ∷ 0 ∷ []) 11 2
    ∷ scripted 0 (1 ∷ 0 ∷ 10 ∷ 0 ∷ 64 ∷ 3 ∷ 4 ∷ 0 ∷ 0 ∷ 0 ∷ 0 ∷ []) 11 2
    ∷ scripted 0 (1 ∷ 0 ∷ 11 ∷ 0 ∷ 64 ∷ 3 ∷ 1 ∷ 0 ∷ []) 11 2
    ∷ scripted 0 (1 ∷ 0 ∷ 3 ∷ 64 ∷ 0 ∷ 0 ∷ 0 ∷ []) 11 2
    ∷ scripted 0 (1 ∷ 0 ∷ 4 ∷ 64 ∷ 0 ∷ 0 ∷ 0 ∷ []) 11 2
    ∷ scripted 0 (1 ∷ 0 ∷ 6 ∷ 64 ∷ 0 ∷ 0 ∷ 0 ∷ []) 11 2
    ∷ scripted 0 (1 ∷ 0 ∷ 3 ∷ 0 ∷ 64 ∷ 0 ∷ 0 ∷ []) 11 2
    ∷ scripted 0 (1 ∷ 0 ∷ 4 ∷ 0 ∷ 64 ∷ 0 ∷ 0 ∷ []) 11 2
    ∷ scripted 0 (1 ∷ 0 ∷ 6 ∷ 0 ∷ 64 ∷ 0 ∷ 0 ∷ []) 11 2
    ∷ scripted 0 (1 ∷ 0 ∷ 3 ∷ 0 ∷ 0 ∷ 64 ∷ 0 ∷ []) 11 2
    ∷ scripted 0 (1 ∷ 0 ∷ 4 ∷ 0 ∷ 0 ∷ 64 ∷ 0 ∷ []) 11 2
    ∷ scripted 0 (1 ∷ 0 ∷ 6 ∷ 0 ∷ 0 ∷ 64 ∷ 0 ∷ []) 11 2
    -- 21: k from 2 to 3, m from 1 to k - 1 are let through
    ∷ scripted 0 (9 ∷ 0 ∷ 0 ∷ 2 ∷ 0 ∷ []) 21 0
    ∷ scripted 0 (10 ∷ 0 ∷ 0 ∷ 2 ∷ 4 ∷ 0 ∷ 0 ∷ 0 ∷ 0 ∷ []) 21 0
    ∷ scripted 0 (9 ∷ 0 ∷ 0 ∷ 3 ∷ 0 ∷ []) 21 0
    ∷ scripted 0 (10 ∷ 0 ∷ 0 ∷ 3 ∷ 4 ∷ 0 ∷ 0 ∷ 0 ∷ 0 ∷ []) 21 0
    ∷ scripted 0 (7 ∷ 0 ∷ 0 ∷ 2 ∷ 1 ∷ 0 ∷ []) 21 0
    ∷ scripted 0 (8 ∷ 0 ∷ 0 ∷ 2 ∷ 1 ∷ 0 ∷ []) 21 0
    ∷ scripted 0 (11 ∷ 0 ∷ 0 ∷ 2 ∷ 1 ∷ 0 ∷ []) 21 0
    ∷ scripted 0 (7 ∷ 0 ∷ 0 ∷ 3 ∷ 2 ∷ 0 ∷ []) 21 0
    ∷ scripted 0 (8 ∷ 0 ∷ 0 ∷ 3 ∷ 2 ∷ 0 ∷ []) 21 0
    ∷ scripted 0 (11 ∷ 0 ∷ 0 ∷ 3 ∷ 2 ∷ 0 ∷ []) 21 0
    -- 11: k is not from 2 to 3
    ∷ scripted 0 (1 ∷ 0 ∷ 9 ∷ 0 ∷ 0 ∷ 1 ∷ 0 ∷ []) 11 2
    ∷ scripted 0 (1 ∷ 0 ∷ 10 ∷ 0 ∷ 0 ∷ 1 ∷ 4 ∷ 0 ∷ 0 ∷ 0 ∷ 0 ∷ []) 11 2
    ∷ scripted 0 (1 ∷ 0 ∷ 9 ∷ 0 ∷ 0 ∷ 4 ∷ 0 ∷ []) 11 2
    ∷ scripted 0 (1 ∷ 0 ∷ 10 ∷ 0 ∷ 0 ∷ 4 ∷ 4 ∷ 0 ∷ 0 ∷ 0 ∷ 0 ∷ []) 11 2
    ∷ scripted 0 (1 ∷ 0 ∷ 7 ∷ 0 ∷ 0 ∷ 1 ∷ 1 ∷ 0 ∷ []) 11 2
    ∷ scripted 0 (1 ∷ 0 ∷ 8 ∷ 0 ∷ 0 ∷ 1 ∷ 1 ∷ 0 ∷ []) 11 2
    ∷ scripted 0 (1 ∷ 0 ∷ 11 ∷ 0 ∷ 0 ∷ 1 ∷ 1 ∷ 0 ∷ []) 11 2
    ∷ scripted 0 (1 ∷ 0 ∷ 7 ∷ 0 ∷ 0 ∷ 4 ∷ 1 ∷ 0 ∷ []) 11 2
    ∷ scripted 0 (1 ∷ 0 ∷ 8 ∷ 0 ∷ 0 ∷ 4 ∷ 1 ∷ 0 ∷ []) 11 2
    ∷ scripted 0 (1 ∷ 0 ∷ 11 ∷ 0 ∷ 0 ∷ 4 ∷ 1 ∷ 0 ∷ []) 11 2
    -- 11: m is not from 1 to k - 1
    ∷ scripted 0 (1 ∷ 0 ∷ 7 ∷ 0 ∷ 0 ∷ 2 ∷ 0 ∷ 0 ∷ []) 11 2
    ∷ scripted 0 (1 ∷ 0 ∷ 8 ∷ 0 ∷ 0 ∷ 2 ∷ 0 ∷ 0 ∷ []) 11 2
    ∷ scripted 0 (1 ∷ 0 ∷ 11 ∷ 0 ∷ 0 ∷ 2 ∷ 0 ∷ 0 ∷ []) 11 2
    ∷ scripted 0 (1 ∷ 0 ∷ 7 ∷ 0 ∷ 0 ∷ 3 ∷ 3 ∷ 0 ∷ []) 11 2
    ∷ scripted 0 (1 ∷ 0 ∷ 8 ∷ 0 ∷ 0 ∷ 3 ∷ 3 ∷ 0 ∷ []) 11 2
    ∷ scripted 0 (1 ∷ 0 ∷ 11 ∷ 0 ∷ 0 ∷ 3 ∷ 3 ∷ 0 ∷ []) 11 2
    -- 21: the field's largest k
    ∷ scripted 1 (7 ∷ 0 ∷ 0 ∷ 7 ∷ 6 ∷ 0 ∷ []) 21 0
    -- 11: one more
    ∷ scripted 1 (1 ∷ 0 ∷ 7 ∷ 0 ∷ 0 ∷ 8 ∷ 1 ∷ 0 ∷ []) 11 2
    -- 21: the field's largest k
    ∷ scripted 2 (7 ∷ 0 ∷ 0 ∷ 15 ∷ 14 ∷ 0 ∷ []) 21 0
    -- 11: one more
    ∷ scripted 2 (1 ∷ 0 ∷ 7 ∷ 0 ∷ 0 ∷ 16 ∷ 1 ∷ 0 ∷ []) 11 2
    -- 21: the field's largest k
    ∷ scripted 3 (7 ∷ 0 ∷ 0 ∷ 30 ∷ 29 ∷ 0 ∷ []) 21 0
    -- 11: one more
    ∷ scripted 3 (1 ∷ 0 ∷ 7 ∷ 0 ∷ 0 ∷ 31 ∷ 1 ∷ 0 ∷ []) 11 2
    -- 21: v to p - 1
    ∷ scripted 0 (5 ∷ 0 ∷ 0 ∷ 12 ∷ 0 ∷ 0 ∷ 0 ∷ 0 ∷ []) 21 0
    ∷ scripted 0 (10 ∷ 0 ∷ 0 ∷ 2 ∷ 12 ∷ 0 ∷ 0 ∷ 0 ∷ 0 ∷ []) 21 0
    -- 11: v is p
    ∷ scripted 0 (1 ∷ 0 ∷ 2 ∷ 0 ∷ 13 ∷ 0 ∷ 0 ∷ 0 ∷ 0 ∷ []) 11 2
    ∷ scripted 0 (1 ∷ 0 ∷ 5 ∷ 0 ∷ 0 ∷ 13 ∷ 0 ∷ 0 ∷ 0 ∷ 0 ∷ []) 11 2
    ∷ scripted 0 (1 ∷ 0 ∷ 10 ∷ 0 ∷ 0 ∷ 2 ∷ 13 ∷ 0 ∷ 0 ∷ 0 ∷ 0 ∷ []) 11 2
    -- 11: v has four bytes
    ∷ scripted 0 (1 ∷ 0 ∷ 2 ∷ 0 ∷ 0 ∷ 0 ∷ 0 ∷ 1 ∷ 0 ∷ []) 11 2
    ∷ scripted 0 (1 ∷ 0 ∷ 5 ∷ 0 ∷ 0 ∷ 0 ∷ 0 ∷ 0 ∷ 1 ∷ 0 ∷ []) 11 2
    ∷ scripted 0 (1 ∷ 0 ∷ 10 ∷ 0 ∷ 0 ∷ 2 ∷ 0 ∷ 0 ∷ 0 ∷ 1 ∷ 0 ∷ []) 11 2
    -- 21: v to p - 1
    ∷ scripted 1 (5 ∷ 0 ∷ 0 ∷ 250 ∷ 0 ∷ 0 ∷ 0 ∷ 0 ∷ []) 21 0
    -- 11: v is p
    ∷ scripted 1 (1 ∷ 0 ∷ 5 ∷ 0 ∷ 0 ∷ 251 ∷ 0 ∷ 0 ∷ 0 ∷ 0 ∷ []) 11 2
    -- 21: v to p - 1
    ∷ scripted 2 (5 ∷ 0 ∷ 0 ∷ 240 ∷ 255 ∷ 0 ∷ 0 ∷ 0 ∷ []) 21 0
    -- 11: v is p
    ∷ scripted 2 (1 ∷ 0 ∷ 5 ∷ 0 ∷ 0 ∷ 241 ∷ 255 ∷ 0 ∷ 0 ∷ 0 ∷ []) 11 2
    -- 21: v to p - 1
    ∷ scripted 3 (5 ∷ 0 ∷ 0 ∷ 254 ∷ 255 ∷ 255 ∷ 127 ∷ 0 ∷ []) 21 0
    -- 11: v is p
    ∷ scripted 3 (1 ∷ 0 ∷ 5 ∷ 0 ∷ 0 ∷ 255 ∷ 255 ∷ 255 ∷ 127 ∷ 0 ∷ []) 11 2
    -- 21: w from 1 to 31, b + w to 64, v to 2^w - 1
    ∷ scripted 0 (13 ∷ 63 ∷ 63 ∷ 1 ∷ 0 ∷ 0 ∷ 0 ∷ 0 ∷ 0 ∷ []) 21 0
    ∷ scripted 0 (13 ∷ 0 ∷ 63 ∷ 1 ∷ 1 ∷ 0 ∷ 0 ∷ 0 ∷ 0 ∷ []) 21 0
    ∷ scripted 0 (13 ∷ 0 ∷ 33 ∷ 31 ∷ 255 ∷ 255 ∷ 255 ∷ 127 ∷ 0 ∷ []) 21 0
    ∷ scripted 0 (13 ∷ 0 ∷ 62 ∷ 2 ∷ 3 ∷ 0 ∷ 0 ∷ 0 ∷ 0 ∷ []) 21 0
    -- 11: register 64
    ∷ scripted 0 (1 ∷ 0 ∷ 13 ∷ 64 ∷ 0 ∷ 1 ∷ 0 ∷ 0 ∷ 0 ∷ 0 ∷ 0 ∷ []) 11 2
    ∷ scripted 0 (1 ∷ 0 ∷ 13 ∷ 0 ∷ 64 ∷ 1 ∷ 0 ∷ 0 ∷ 0 ∷ 0 ∷ 0 ∷ []) 11 2
    -- 11: w is 0
    ∷ scripted 0 (1 ∷ 0 ∷ 13 ∷ 0 ∷ 0 ∷ 0 ∷ 0 ∷ 0 ∷ 0 ∷ 0 ∷ 0 ∷ []) 11 2
    -- 11: w is 32
    ∷ scripted 0 (1 ∷ 0 ∷ 13 ∷ 0 ∷ 0 ∷ 32 ∷ 0 ∷ 0 ∷ 0 ∷ 0 ∷ 0 ∷ []) 11 2
    -- 11: b + w is 65
    ∷ scripted 0 (1 ∷ 0 ∷ 13 ∷ 0 ∷ 63 ∷ 2 ∷ 0 ∷ 0 ∷ 0 ∷ 0 ∷ 0 ∷ []) 11 2
    ∷ scripted 0 (1 ∷ 0 ∷ 13 ∷ 0 ∷ 34 ∷ 31 ∷ 0 ∷ 0 ∷ 0 ∷ 0 ∷ 0 ∷ []) 11 2
    -- 11: v is 2^w
    ∷ scripted 0 (1 ∷ 0 ∷ 13 ∷ 0 ∷ 0 ∷ 1 ∷ 2 ∷ 0 ∷ 0 ∷ 0 ∷ 0 ∷ []) 11 2
    ∷ scripted 0 (1 ∷ 0 ∷ 13 ∷ 0 ∷ 0 ∷ 31 ∷ 0 ∷ 0 ∷ 0 ∷ 128 ∷ 0 ∷ []) 11 2
    ∷ scripted 0 (1 ∷ 0 ∷ 13 ∷ 0 ∷ 0 ∷ 2 ∷ 4 ∷ 0 ∷ 0 ∷ 0 ∷ 0 ∷ []) 11 2
    -- 21: v is not held to p
    ∷ scripted 0 (13 ∷ 0 ∷ 0 ∷ 4 ∷ 15 ∷ 0 ∷ 0 ∷ 0 ∷ 0 ∷ []) 21 0
    -- 21: LTZS h = 1, d = a
    ∷ scripted 0 (14 ∷ 63 ∷ 63 ∷ 1 ∷ 2 ∷ 0 ∷ []) 21 0
    -- 21: LTZS h = 2, d = a
    ∷ scripted 0 (14 ∷ 5 ∷ 5 ∷ 2 ∷ 3 ∷ 0 ∷ []) 21 0
    -- 21: LTZS h = 16, the registers read to 63
    ∷ scripted 0 (14 ∷ 0 ∷ 48 ∷ 16 ∷ 2 ∷ 0 ∷ []) 21 0
    -- 21: LTZS h = 16, the registers left to 63
    ∷ scripted 0 (14 ∷ 48 ∷ 0 ∷ 16 ∷ 3 ∷ 0 ∷ []) 21 0
    -- 21: LTZS h = 2, d + h is a
    ∷ scripted 0 (14 ∷ 0 ∷ 2 ∷ 2 ∷ 2 ∷ 0 ∷ []) 21 0
    -- 21: LTZS h = 2, a + h is d
    ∷ scripted 0 (14 ∷ 2 ∷ 0 ∷ 2 ∷ 2 ∷ 0 ∷ []) 21 0
    -- 21: LTZS h = 16, d + h is a
    ∷ scripted 0 (14 ∷ 0 ∷ 16 ∷ 16 ∷ 2 ∷ 0 ∷ []) 21 0
    -- 21: LTZS h = 16, a + h is d
    ∷ scripted 0 (14 ∷ 16 ∷ 0 ∷ 16 ∷ 2 ∷ 0 ∷ []) 21 0
    -- 21: LTZS k = 7 in field 1
    ∷ scripted 1 (14 ∷ 0 ∷ 5 ∷ 5 ∷ 7 ∷ 0 ∷ []) 21 0
    -- 21: LTZS k = 15 in field 2
    ∷ scripted 2 (14 ∷ 32 ∷ 16 ∷ 12 ∷ 15 ∷ 0 ∷ []) 21 0
    -- 21: LTZS k = 30 in field 3
    ∷ scripted 3 (14 ∷ 9 ∷ 0 ∷ 9 ∷ 30 ∷ 0 ∷ []) 21 0
    -- 11: LTZS, h is 0
    ∷ scripted 0 (1 ∷ 0 ∷ 14 ∷ 0 ∷ 0 ∷ 0 ∷ 2 ∷ 0 ∷ []) 11 2
    -- 11: LTZS, h is 17
    ∷ scripted 0 (1 ∷ 0 ∷ 14 ∷ 0 ∷ 32 ∷ 17 ∷ 2 ∷ 0 ∷ []) 11 2
    -- 11: LTZS, a + h is 65
    ∷ scripted 0 (1 ∷ 0 ∷ 14 ∷ 0 ∷ 49 ∷ 16 ∷ 2 ∷ 0 ∷ []) 11 2
    -- 11: LTZS, d + h is 65
    ∷ scripted 0 (1 ∷ 0 ∷ 14 ∷ 49 ∷ 0 ∷ 16 ∷ 2 ∷ 0 ∷ []) 11 2
    -- 11: LTZS h = 2, d + h is a + 1
    ∷ scripted 0 (1 ∷ 0 ∷ 14 ∷ 0 ∷ 1 ∷ 2 ∷ 2 ∷ 0 ∷ []) 11 2
    -- 11: LTZS h = 2, a + h is d + 1
    ∷ scripted 0 (1 ∷ 0 ∷ 14 ∷ 1 ∷ 0 ∷ 2 ∷ 2 ∷ 0 ∷ []) 11 2
    -- 11: LTZS h = 3, one register is in both
    ∷ scripted 0 (1 ∷ 0 ∷ 14 ∷ 0 ∷ 2 ∷ 3 ∷ 2 ∷ 0 ∷ []) 11 2
    -- 11: LTZS h = 3, two registers are in both
    ∷ scripted 0 (1 ∷ 0 ∷ 14 ∷ 0 ∷ 1 ∷ 3 ∷ 2 ∷ 0 ∷ []) 11 2
    -- 11: LTZS h = 16, d + h is a + 1
    ∷ scripted 0 (1 ∷ 0 ∷ 14 ∷ 0 ∷ 15 ∷ 16 ∷ 2 ∷ 0 ∷ []) 11 2
    -- 11: LTZS h = 16, a + h is d + 1
    ∷ scripted 0 (1 ∷ 0 ∷ 14 ∷ 15 ∷ 0 ∷ 16 ∷ 2 ∷ 0 ∷ []) 11 2
    -- 11: LTZS, k is 1
    ∷ scripted 0 (1 ∷ 0 ∷ 14 ∷ 0 ∷ 0 ∷ 2 ∷ 1 ∷ 0 ∷ []) 11 2
    -- 11: LTZS, k is 4
    ∷ scripted 0 (1 ∷ 0 ∷ 14 ∷ 0 ∷ 0 ∷ 2 ∷ 4 ∷ 0 ∷ []) 11 2
    -- 11: LTZS, k is 8 in field 1
    ∷ scripted 1 (1 ∷ 0 ∷ 14 ∷ 0 ∷ 5 ∷ 5 ∷ 8 ∷ 0 ∷ []) 11 2
    -- 11: LTZS, k is 16 in field 2
    ∷ scripted 2 (1 ∷ 0 ∷ 14 ∷ 32 ∷ 16 ∷ 12 ∷ 16 ∷ 0 ∷ []) 11 2
    -- 11: LTZS, k is 31 in field 3
    ∷ scripted 3 (1 ∷ 0 ∷ 14 ∷ 9 ∷ 0 ∷ 9 ∷ 31 ∷ 0 ∷ []) 11 2
    ∷ []
