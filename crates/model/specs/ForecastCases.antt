-- Request 6, "Will this deal last?": short headers with their scripts, and the number and the place that are forecast.
-- The reference writes this table (reference model-cases).
-- Assumes nothing.
use Rattle.std.specs.Prelude.{List, [], ◌∷◌, ◌++◌, replicate}
use Rattle.model.specs.CaseForms.{ForecastCase, forecast_of}

unfoldable pub forecast_cases : List ForecastCase
forecast_cases =
    -- END alone
    forecast_of (0 ∷ 3 ∷ 1 ∷ 0 ∷ 0 ∷ 0 ∷ 0 ∷ 0 ∷ 0 ∷ 1 ∷ 0 ∷ 0 ∷ []) 0 0
    -- 1: no byte
    ∷ forecast_of [] 1 0
    -- 1: ten bytes
    ∷ forecast_of (0 ∷ 3 ∷ 1 ∷ 0 ∷ 0 ∷ 0 ∷ 0 ∷ 0 ∷ 0 ∷ 1 ∷ []) 1 0
    -- 2: field 4
    ∷ forecast_of (4 ∷ 3 ∷ 1 ∷ 0 ∷ 0 ∷ 0 ∷ 0 ∷ 0 ∷ 0 ∷ 1 ∷ 0 ∷ 0 ∷ []) 2 0
    -- 3: eight parties
    ∷ forecast_of (0 ∷ 8 ∷ 1 ∷ 0 ∷ 0 ∷ 0 ∷ 0 ∷ 0 ∷ 0 ∷ 1 ∷ 0 ∷ 0 ∷ []) 3 0
    -- 64 inputs, 16 masks and 512 triples of seven parties in field 3
    ∷ forecast_of (3 ∷ 7 ∷ 3 ∷ 64 ∷ 0 ∷ 16 ∷ 0 ∷ 0 ∷ 2 ∷ 1 ∷ 0 ∷ 0 ∷ []) 0 0
    -- 4: 65 inputs
    ∷ forecast_of (0 ∷ 3 ∷ 1 ∷ 65 ∷ 0 ∷ 0 ∷ 0 ∷ 0 ∷ 0 ∷ 1 ∷ 0 ∷ 0 ∷ []) 4 0
    -- 4: 17 masks
    ∷ forecast_of (0 ∷ 3 ∷ 1 ∷ 0 ∷ 0 ∷ 17 ∷ 0 ∷ 0 ∷ 0 ∷ 1 ∷ 0 ∷ 0 ∷ []) 4 0
    -- 4: 513 triples
    ∷ forecast_of (0 ∷ 3 ∷ 1 ∷ 0 ∷ 0 ∷ 0 ∷ 0 ∷ 1 ∷ 2 ∷ 1 ∷ 0 ∷ 0 ∷ []) 4 0
    -- 9: a script of 1,024 bytes, which are no commands
    ∷ forecast_of (0 ∷ 3 ∷ 1 ∷ 0 ∷ 0 ∷ 0 ∷ 0 ∷ 0 ∷ 0 ∷ 0 ∷ 4 ∷ (replicate 1024 255)) 9 0
    -- 4: a script of 1,025 bytes
    ∷ forecast_of (0 ∷ 3 ∷ 1 ∷ 0 ∷ 0 ∷ 0 ∷ 0 ∷ 0 ∷ 0 ∷ 1 ∷ 4 ∷ (replicate 1025 255)) 4 0
    -- header and script of a sheet with a row
    ∷ forecast_of (0 ∷ 3 ∷ 1 ∷ 1 ∷ 0 ∷ 0 ∷ 0 ∷ 0 ∷ 0 ∷ 3 ∷ 0 ∷ 1 ∷ 0 ∷ 0 ∷ []) 0 2
    -- 4: the whole sheet with its row
    ∷ forecast_of (0 ∷ 3 ∷ 1 ∷ 1 ∷ 0 ∷ 0 ∷ 0 ∷ 0 ∷ 0 ∷ 3 ∷ 0 ∷ 1 ∷ 0 ∷ 0 ∷ 5 ∷ 0 ∷ 0 ∷ 0 ∷ 5 ∷ 0 ∷ 0 ∷ 0 ∷ 5 ∷ 0 ∷ 0 ∷ 0 ∷ []) 4 0
    -- 4: a byte too many
    ∷ forecast_of (0 ∷ 3 ∷ 1 ∷ 1 ∷ 0 ∷ 0 ∷ 0 ∷ 0 ∷ 0 ∷ 3 ∷ 0 ∷ 1 ∷ 0 ∷ 0 ∷ 0 ∷ []) 4 0
    -- 4: a byte too few
    ∷ forecast_of (0 ∷ 3 ∷ 1 ∷ 1 ∷ 0 ∷ 0 ∷ 0 ∷ 0 ∷ 0 ∷ 3 ∷ 0 ∷ 1 ∷ 0 ∷ []) 4 0
    -- 1 before the rest
    ∷ forecast_of (4 ∷ 8 ∷ 1 ∷ 65 ∷ 0 ∷ 0 ∷ 0 ∷ 0 ∷ 0 ∷ 1 ∷ []) 1 0
    -- 2 before the rest
    ∷ forecast_of (4 ∷ 8 ∷ 1 ∷ 65 ∷ 0 ∷ 0 ∷ 0 ∷ 0 ∷ 0 ∷ 1 ∷ 0 ∷ 15 ∷ []) 2 0
    -- 3 before the rest
    ∷ forecast_of (0 ∷ 8 ∷ 1 ∷ 65 ∷ 0 ∷ 0 ∷ 0 ∷ 0 ∷ 0 ∷ 1 ∷ 0 ∷ 15 ∷ []) 3 0
    -- 4 before 9
    ∷ forecast_of (0 ∷ 3 ∷ 1 ∷ 65 ∷ 0 ∷ 0 ∷ 0 ∷ 0 ∷ 0 ∷ 1 ∷ 0 ∷ 15 ∷ []) 4 0
    -- 2 before 4: a byte too many in field 4
    ∷ forecast_of (4 ∷ 3 ∷ 1 ∷ 0 ∷ 0 ∷ 0 ∷ 0 ∷ 0 ∷ 0 ∷ 1 ∷ 0 ∷ 0 ∷ 0 ∷ []) 2 0
    -- 3 before 4: a byte too many for eight parties
    ∷ forecast_of (0 ∷ 8 ∷ 1 ∷ 0 ∷ 0 ∷ 0 ∷ 0 ∷ 0 ∷ 0 ∷ 1 ∷ 0 ∷ 0 ∷ 0 ∷ []) 3 0
    -- 4 before 9: 65 inputs, and a byte too many after no command
    ∷ forecast_of (0 ∷ 3 ∷ 1 ∷ 65 ∷ 0 ∷ 0 ∷ 0 ∷ 0 ∷ 0 ∷ 1 ∷ 0 ∷ 15 ∷ 0 ∷ []) 4 0
    -- 10: an empty script
    ∷ forecast_of (0 ∷ 3 ∷ 1 ∷ 0 ∷ 0 ∷ 0 ∷ 0 ∷ 0 ∷ 0 ∷ 0 ∷ 0 ∷ []) 10 0
    -- 9 before 21: a byte that is no command
    ∷ forecast_of (0 ∷ 3 ∷ 1 ∷ 0 ∷ 0 ∷ 0 ∷ 0 ∷ 0 ∷ 0 ∷ 4 ∷ 0 ∷ 12 ∷ 0 ∷ 15 ∷ 0 ∷ []) 9 2
    -- 10 before 21: operands cut off
    ∷ forecast_of (0 ∷ 3 ∷ 1 ∷ 0 ∷ 0 ∷ 0 ∷ 0 ∷ 0 ∷ 0 ∷ 5 ∷ 0 ∷ 12 ∷ 0 ∷ 6 ∷ 0 ∷ 0 ∷ []) 10 2
    -- 10 before 21: no END, the place is the script length
    ∷ forecast_of (0 ∷ 3 ∷ 1 ∷ 0 ∷ 0 ∷ 0 ∷ 0 ∷ 0 ∷ 0 ∷ 2 ∷ 0 ∷ 12 ∷ 0 ∷ []) 10 2
    -- 10 before 21: a byte after END, which has the place
    ∷ forecast_of (0 ∷ 3 ∷ 1 ∷ 0 ∷ 0 ∷ 0 ∷ 0 ∷ 0 ∷ 0 ∷ 4 ∷ 0 ∷ 12 ∷ 0 ∷ 0 ∷ 0 ∷ []) 10 3
    -- 11 before 21: register 64 in a later command
    ∷ forecast_of (0 ∷ 3 ∷ 1 ∷ 0 ∷ 0 ∷ 0 ∷ 0 ∷ 0 ∷ 0 ∷ 5 ∷ 0 ∷ 12 ∷ 0 ∷ 1 ∷ 64 ∷ 0 ∷ []) 11 2
    -- 11 before 21: LTZ with k = 4 in field 0
    ∷ forecast_of (0 ∷ 3 ∷ 1 ∷ 0 ∷ 0 ∷ 0 ∷ 0 ∷ 0 ∷ 0 ∷ 5 ∷ 0 ∷ 9 ∷ 0 ∷ 0 ∷ 4 ∷ 0 ∷ []) 11 0
    -- 11 before 21: LTZS, register 1 is in both stretches
    ∷ forecast_of (0 ∷ 3 ∷ 1 ∷ 0 ∷ 0 ∷ 0 ∷ 0 ∷ 0 ∷ 0 ∷ 6 ∷ 0 ∷ 14 ∷ 0 ∷ 1 ∷ 2 ∷ 2 ∷ 0 ∷ []) 11 0
    -- 11 before 22: MOD with m = k
    ∷ forecast_of (0 ∷ 3 ∷ 1 ∷ 0 ∷ 0 ∷ 0 ∷ 0 ∷ 0 ∷ 0 ∷ 8 ∷ 0 ∷ 1 ∷ 0 ∷ 7 ∷ 0 ∷ 0 ∷ 2 ∷ 2 ∷ 0 ∷ []) 11 2
    -- a constant is set, and REVEAL takes nothing
    ∷ forecast_of (0 ∷ 3 ∷ 1 ∷ 0 ∷ 0 ∷ 0 ∷ 0 ∷ 0 ∷ 0 ∷ 11 ∷ 0 ∷ 2 ∷ 63 ∷ 1 ∷ 0 ∷ 0 ∷ 0 ∷ 12 ∷ 63 ∷ 12 ∷ 63 ∷ 0 ∷ []) 0 10
    -- 21: d = a is not set before
    ∷ forecast_of (0 ∷ 3 ∷ 1 ∷ 0 ∷ 0 ∷ 0 ∷ 0 ∷ 0 ∷ 0 ∷ 5 ∷ 0 ∷ 3 ∷ 0 ∷ 0 ∷ 0 ∷ 0 ∷ []) 21 0
    -- 21: a is unset and b is set
    ∷ forecast_of (0 ∷ 3 ∷ 1 ∷ 1 ∷ 0 ∷ 0 ∷ 0 ∷ 0 ∷ 0 ∷ 7 ∷ 0 ∷ 1 ∷ 0 ∷ 4 ∷ 0 ∷ 1 ∷ 0 ∷ 0 ∷ []) 21 2
    -- 21: b is unset and a is set
    ∷ forecast_of (0 ∷ 3 ∷ 1 ∷ 1 ∷ 0 ∷ 0 ∷ 0 ∷ 1 ∷ 0 ∷ 7 ∷ 0 ∷ 1 ∷ 0 ∷ 6 ∷ 0 ∷ 0 ∷ 1 ∷ 0 ∷ []) 21 2
    -- 21: the second bit of BITLT is unset
    ∷ forecast_of (0 ∷ 3 ∷ 1 ∷ 1 ∷ 0 ∷ 0 ∷ 0 ∷ 1 ∷ 0 ∷ 11 ∷ 0 ∷ 1 ∷ 0 ∷ 13 ∷ 0 ∷ 0 ∷ 2 ∷ 1 ∷ 0 ∷ 0 ∷ 0 ∷ 0 ∷ []) 21 2
    -- 21 before 22: the first of two commands
    ∷ forecast_of (0 ∷ 3 ∷ 1 ∷ 0 ∷ 0 ∷ 0 ∷ 0 ∷ 0 ∷ 0 ∷ 5 ∷ 0 ∷ 12 ∷ 0 ∷ 1 ∷ 0 ∷ 0 ∷ []) 21 0
    -- 22 before 21: the first of two commands
    ∷ forecast_of (0 ∷ 3 ∷ 1 ∷ 0 ∷ 0 ∷ 0 ∷ 0 ∷ 0 ∷ 0 ∷ 5 ∷ 0 ∷ 1 ∷ 0 ∷ 12 ∷ 1 ∷ 0 ∷ []) 22 0
    -- 22: two LOADs on one input row
    ∷ forecast_of (0 ∷ 3 ∷ 1 ∷ 1 ∷ 0 ∷ 0 ∷ 0 ∷ 0 ∷ 0 ∷ 5 ∷ 0 ∷ 1 ∷ 0 ∷ 1 ∷ 0 ∷ 0 ∷ []) 22 2
    -- two LOADs on two input rows
    ∷ forecast_of (0 ∷ 3 ∷ 1 ∷ 2 ∷ 0 ∷ 0 ∷ 0 ∷ 0 ∷ 0 ∷ 5 ∷ 0 ∷ 1 ∷ 0 ∷ 1 ∷ 0 ∷ 0 ∷ []) 0 4
    -- 21 before 23 and 24: MOD of an unset register
    ∷ forecast_of (0 ∷ 3 ∷ 1 ∷ 0 ∷ 0 ∷ 0 ∷ 0 ∷ 0 ∷ 0 ∷ 6 ∷ 0 ∷ 7 ∷ 0 ∷ 0 ∷ 2 ∷ 1 ∷ 0 ∷ []) 21 0
    -- 23 before 24: MOD without a mask and a triple
    ∷ forecast_of (0 ∷ 3 ∷ 1 ∷ 1 ∷ 0 ∷ 0 ∷ 0 ∷ 0 ∷ 0 ∷ 8 ∷ 0 ∷ 1 ∷ 0 ∷ 7 ∷ 0 ∷ 0 ∷ 2 ∷ 1 ∷ 0 ∷ []) 23 2
    -- 23: two LTZs on one mask
    ∷ forecast_of (0 ∷ 3 ∷ 1 ∷ 1 ∷ 0 ∷ 1 ∷ 0 ∷ 8 ∷ 0 ∷ 11 ∷ 0 ∷ 1 ∷ 0 ∷ 9 ∷ 0 ∷ 0 ∷ 2 ∷ 9 ∷ 0 ∷ 0 ∷ 2 ∷ 0 ∷ []) 23 6
    -- two LTZs on two masks and 8 triples
    ∷ forecast_of (0 ∷ 3 ∷ 1 ∷ 1 ∷ 0 ∷ 2 ∷ 0 ∷ 8 ∷ 0 ∷ 11 ∷ 0 ∷ 1 ∷ 0 ∷ 9 ∷ 0 ∷ 0 ∷ 2 ∷ 9 ∷ 0 ∷ 0 ∷ 2 ∷ 0 ∷ []) 0 10
    -- 24: two LTZs on two masks and 7 triples
    ∷ forecast_of (0 ∷ 3 ∷ 1 ∷ 1 ∷ 0 ∷ 2 ∷ 0 ∷ 7 ∷ 0 ∷ 11 ∷ 0 ∷ 1 ∷ 0 ∷ 9 ∷ 0 ∷ 0 ∷ 2 ∷ 9 ∷ 0 ∷ 0 ∷ 2 ∷ 0 ∷ []) 24 6
    -- 24: the second of two products on one triple
    ∷ forecast_of (0 ∷ 3 ∷ 1 ∷ 1 ∷ 0 ∷ 0 ∷ 0 ∷ 1 ∷ 0 ∷ 11 ∷ 0 ∷ 1 ∷ 0 ∷ 6 ∷ 0 ∷ 0 ∷ 0 ∷ 6 ∷ 0 ∷ 0 ∷ 0 ∷ 0 ∷ []) 24 6
    -- two products on two triples
    ∷ forecast_of (0 ∷ 3 ∷ 1 ∷ 1 ∷ 0 ∷ 0 ∷ 0 ∷ 2 ∷ 0 ∷ 11 ∷ 0 ∷ 1 ∷ 0 ∷ 6 ∷ 0 ∷ 0 ∷ 0 ∷ 6 ∷ 0 ∷ 0 ∷ 0 ∷ 0 ∷ []) 0 10
    -- BITLT with w = 1 takes no triple
    ∷ forecast_of (0 ∷ 3 ∷ 1 ∷ 1 ∷ 0 ∷ 0 ∷ 0 ∷ 0 ∷ 0 ∷ 11 ∷ 0 ∷ 1 ∷ 0 ∷ 13 ∷ 0 ∷ 0 ∷ 1 ∷ 1 ∷ 0 ∷ 0 ∷ 0 ∷ 0 ∷ []) 0 10
    -- 21 before 23: the middle register of LTZS is unset
    ∷ forecast_of (0 ∷ 3 ∷ 1 ∷ 2 ∷ 0 ∷ 0 ∷ 0 ∷ 0 ∷ 0 ∷ 10 ∷ 0 ∷ 1 ∷ 0 ∷ 1 ∷ 2 ∷ 14 ∷ 5 ∷ 0 ∷ 3 ∷ 2 ∷ 0 ∷ []) 21 4
    -- 23: LTZS of two registers on one mask
    ∷ forecast_of (0 ∷ 3 ∷ 1 ∷ 2 ∷ 0 ∷ 1 ∷ 0 ∷ 8 ∷ 0 ∷ 10 ∷ 0 ∷ 1 ∷ 0 ∷ 1 ∷ 1 ∷ 14 ∷ 5 ∷ 0 ∷ 2 ∷ 2 ∷ 0 ∷ []) 23 4
    -- 23 before 24: LTZS on a mask and 7 triples
    ∷ forecast_of (0 ∷ 3 ∷ 1 ∷ 2 ∷ 0 ∷ 1 ∷ 0 ∷ 7 ∷ 0 ∷ 10 ∷ 0 ∷ 1 ∷ 0 ∷ 1 ∷ 1 ∷ 14 ∷ 5 ∷ 0 ∷ 2 ∷ 2 ∷ 0 ∷ []) 23 4
    -- LTZS sets its last register
    ∷ forecast_of (0 ∷ 3 ∷ 1 ∷ 2 ∷ 0 ∷ 2 ∷ 0 ∷ 8 ∷ 0 ∷ 12 ∷ 0 ∷ 1 ∷ 0 ∷ 1 ∷ 1 ∷ 14 ∷ 5 ∷ 0 ∷ 2 ∷ 2 ∷ 12 ∷ 6 ∷ 0 ∷ []) 0 11
    -- 21: LTZS sets no more
    ∷ forecast_of (0 ∷ 3 ∷ 1 ∷ 2 ∷ 0 ∷ 2 ∷ 0 ∷ 8 ∷ 0 ∷ 12 ∷ 0 ∷ 1 ∷ 0 ∷ 1 ∷ 1 ∷ 14 ∷ 5 ∷ 0 ∷ 2 ∷ 2 ∷ 12 ∷ 7 ∷ 0 ∷ []) 21 9
    -- 64 additions, and END after 255
    ∷ forecast_of (0 ∷ 3 ∷ 1 ∷ 1 ∷ 0 ∷ 0 ∷ 0 ∷ 0 ∷ 0 ∷ 3 ∷ 1 ∷ 1 ∷ (replicate 257 3 ++ 0 ∷ [])) 0 258
    -- 24: a product after 255 without a triple
    ∷ forecast_of (0 ∷ 3 ∷ 1 ∷ 1 ∷ 0 ∷ 0 ∷ 0 ∷ 0 ∷ 0 ∷ 7 ∷ 1 ∷ 1 ∷ (replicate 257 3 ++ 6 ∷ 3 ∷ 3 ∷ 3 ∷ 0 ∷ [])) 24 258
    -- BITLT w=3 takes 2 triples
    ∷ forecast_of (0 ∷ 3 ∷ 1 ∷ 3 ∷ 0 ∷ 0 ∷ 0 ∷ 2 ∷ 0 ∷ 15 ∷ 0 ∷ 1 ∷ 0 ∷ 1 ∷ 1 ∷ 1 ∷ 2 ∷ 13 ∷ 0 ∷ 0 ∷ 3 ∷ 1 ∷ 0 ∷ 0 ∷ 0 ∷ 0 ∷ []) 0 14
    -- 24: BITLT w=3 with a triple less
    ∷ forecast_of (0 ∷ 3 ∷ 1 ∷ 3 ∷ 0 ∷ 0 ∷ 0 ∷ 1 ∷ 0 ∷ 15 ∷ 0 ∷ 1 ∷ 0 ∷ 1 ∷ 1 ∷ 1 ∷ 2 ∷ 13 ∷ 0 ∷ 0 ∷ 3 ∷ 1 ∷ 0 ∷ 0 ∷ 0 ∷ 0 ∷ []) 24 6
    -- MOD m=1 takes 4 triples
    ∷ forecast_of (0 ∷ 3 ∷ 1 ∷ 1 ∷ 0 ∷ 1 ∷ 0 ∷ 4 ∷ 0 ∷ 8 ∷ 0 ∷ 1 ∷ 0 ∷ 7 ∷ 0 ∷ 0 ∷ 3 ∷ 1 ∷ 0 ∷ []) 0 7
    -- 24: MOD m=1 with a triple less
    ∷ forecast_of (0 ∷ 3 ∷ 1 ∷ 1 ∷ 0 ∷ 1 ∷ 0 ∷ 3 ∷ 0 ∷ 8 ∷ 0 ∷ 1 ∷ 0 ∷ 7 ∷ 0 ∷ 0 ∷ 3 ∷ 1 ∷ 0 ∷ []) 24 2
    -- TRUNC m=2 takes 6 triples
    ∷ forecast_of (0 ∷ 3 ∷ 1 ∷ 1 ∷ 0 ∷ 1 ∷ 0 ∷ 6 ∷ 0 ∷ 8 ∷ 0 ∷ 1 ∷ 0 ∷ 8 ∷ 0 ∷ 0 ∷ 3 ∷ 2 ∷ 0 ∷ []) 0 7
    -- 24: TRUNC m=2 with a triple less
    ∷ forecast_of (0 ∷ 3 ∷ 1 ∷ 1 ∷ 0 ∷ 1 ∷ 0 ∷ 5 ∷ 0 ∷ 8 ∷ 0 ∷ 1 ∷ 0 ∷ 8 ∷ 0 ∷ 0 ∷ 3 ∷ 2 ∷ 0 ∷ []) 24 2
    -- LTZ k=3 takes 6 triples, since m is 2
    ∷ forecast_of (0 ∷ 3 ∷ 1 ∷ 1 ∷ 0 ∷ 1 ∷ 0 ∷ 6 ∷ 0 ∷ 7 ∷ 0 ∷ 1 ∷ 0 ∷ 9 ∷ 0 ∷ 0 ∷ 3 ∷ 0 ∷ []) 0 6
    -- 24: LTZ k=3 with a triple less
    ∷ forecast_of (0 ∷ 3 ∷ 1 ∷ 1 ∷ 0 ∷ 1 ∷ 0 ∷ 5 ∷ 0 ∷ 7 ∷ 0 ∷ 1 ∷ 0 ∷ 9 ∷ 0 ∷ 0 ∷ 3 ∷ 0 ∷ []) 24 2
    -- OVER k=2 takes 4 triples, since m is 1
    ∷ forecast_of (0 ∷ 3 ∷ 1 ∷ 1 ∷ 0 ∷ 1 ∷ 0 ∷ 4 ∷ 0 ∷ 11 ∷ 0 ∷ 1 ∷ 0 ∷ 10 ∷ 0 ∷ 0 ∷ 2 ∷ 1 ∷ 0 ∷ 0 ∷ 0 ∷ 0 ∷ []) 0 10
    -- 24: OVER k=2 with a triple less
    ∷ forecast_of (0 ∷ 3 ∷ 1 ∷ 1 ∷ 0 ∷ 1 ∷ 0 ∷ 3 ∷ 0 ∷ 11 ∷ 0 ∷ 1 ∷ 0 ∷ 10 ∷ 0 ∷ 0 ∷ 2 ∷ 1 ∷ 0 ∷ 0 ∷ 0 ∷ 0 ∷ []) 24 2
    -- BLOCKS m=1 takes 4 triples
    ∷ forecast_of (0 ∷ 3 ∷ 1 ∷ 1 ∷ 0 ∷ 1 ∷ 0 ∷ 4 ∷ 0 ∷ 8 ∷ 0 ∷ 1 ∷ 0 ∷ 11 ∷ 0 ∷ 0 ∷ 3 ∷ 1 ∷ 0 ∷ []) 0 7
    -- 24: BLOCKS m=1 with a triple less
    ∷ forecast_of (0 ∷ 3 ∷ 1 ∷ 1 ∷ 0 ∷ 1 ∷ 0 ∷ 3 ∷ 0 ∷ 8 ∷ 0 ∷ 1 ∷ 0 ∷ 11 ∷ 0 ∷ 0 ∷ 3 ∷ 1 ∷ 0 ∷ []) 24 2
    -- LTZS h=2 k=3 takes 12 triples
    ∷ forecast_of (0 ∷ 3 ∷ 1 ∷ 2 ∷ 0 ∷ 2 ∷ 0 ∷ 12 ∷ 0 ∷ 10 ∷ 0 ∷ 1 ∷ 0 ∷ 1 ∷ 1 ∷ 14 ∷ 0 ∷ 0 ∷ 2 ∷ 3 ∷ 0 ∷ []) 0 9
    -- 24: LTZS h=2 k=3 with a triple less
    ∷ forecast_of (0 ∷ 3 ∷ 1 ∷ 2 ∷ 0 ∷ 2 ∷ 0 ∷ 11 ∷ 0 ∷ 10 ∷ 0 ∷ 1 ∷ 0 ∷ 1 ∷ 1 ∷ 14 ∷ 0 ∷ 0 ∷ 2 ∷ 3 ∷ 0 ∷ []) 24 4
    -- TRUNC m=3 in field 1 takes 12 triples
    ∷ forecast_of (1 ∷ 3 ∷ 1 ∷ 1 ∷ 0 ∷ 1 ∷ 0 ∷ 12 ∷ 0 ∷ 8 ∷ 0 ∷ 1 ∷ 0 ∷ 8 ∷ 0 ∷ 0 ∷ 7 ∷ 3 ∷ 0 ∷ []) 0 7
    -- 24: TRUNC m=3 in field 1 with a triple less
    ∷ forecast_of (1 ∷ 3 ∷ 1 ∷ 1 ∷ 0 ∷ 1 ∷ 0 ∷ 11 ∷ 0 ∷ 8 ∷ 0 ∷ 1 ∷ 0 ∷ 8 ∷ 0 ∷ 0 ∷ 7 ∷ 3 ∷ 0 ∷ []) 24 2
    -- OVER k=15 in field 2 takes 42 triples
    ∷ forecast_of (2 ∷ 3 ∷ 1 ∷ 1 ∷ 0 ∷ 1 ∷ 0 ∷ 42 ∷ 0 ∷ 11 ∷ 0 ∷ 1 ∷ 0 ∷ 10 ∷ 0 ∷ 0 ∷ 15 ∷ 170 ∷ 0 ∷ 0 ∷ 0 ∷ 0 ∷ []) 0 10
    -- 24: OVER k=15 in field 2 with a triple less
    ∷ forecast_of (2 ∷ 3 ∷ 1 ∷ 1 ∷ 0 ∷ 1 ∷ 0 ∷ 41 ∷ 0 ∷ 11 ∷ 0 ∷ 1 ∷ 0 ∷ 10 ∷ 0 ∷ 0 ∷ 15 ∷ 170 ∷ 0 ∷ 0 ∷ 0 ∷ 0 ∷ []) 24 2
    -- LTZ k=30 in field 3 takes 87 triples
    ∷ forecast_of (3 ∷ 3 ∷ 1 ∷ 1 ∷ 0 ∷ 1 ∷ 0 ∷ 87 ∷ 0 ∷ 7 ∷ 0 ∷ 1 ∷ 0 ∷ 9 ∷ 0 ∷ 0 ∷ 30 ∷ 0 ∷ []) 0 6
    -- 24: LTZ k=30 in field 3 with a triple less
    ∷ forecast_of (3 ∷ 3 ∷ 1 ∷ 1 ∷ 0 ∷ 1 ∷ 0 ∷ 86 ∷ 0 ∷ 7 ∷ 0 ∷ 1 ∷ 0 ∷ 9 ∷ 0 ∷ 0 ∷ 30 ∷ 0 ∷ []) 24 2
    ∷ []
