-- The request "Calls from the exchange's own list": short lists, and what their import leaves.
-- The reference writes this table (reference model-cases).
-- Assumes nothing.
use Rattle.std.specs.Prelude.{List, [], ◌∷◌}
use Rattle.model.specs.CaseForms.{CallCase, took}

unfoldable pub call_cases : List CallCase
call_cases =
    -- an empty list, and no buffer
    took [] 0 0 0 []
    -- an empty list leaves the buffer
    ∷ took [] 2 0 0 (99 ∷ 99 ∷ [])
    -- the last line break is missing: a,1,2,5
    ∷ took (97 ∷ 44 ∷ 49 ∷ 44 ∷ 50 ∷ 44 ∷ 53 ∷ []) 2 0 1 (3 ∷ 99 ∷ [])
    -- one line break at the end begins no line: a,1,2,5<CR><LF>
    ∷ took (97 ∷ 44 ∷ 49 ∷ 44 ∷ 50 ∷ 44 ∷ 53 ∷ 13 ∷ 10 ∷ []) 1 0 1 (3 ∷ [])
    -- two lines: a,1,2,5<CR><LF>b,3,,4<CR><LF>
    ∷ took (97 ∷ 44 ∷ 49 ∷ 44 ∷ 50 ∷ 44 ∷ 53 ∷ 13 ∷ 10 ∷ 98 ∷ 44 ∷ 51 ∷ 44 ∷ 44 ∷ 52 ∷ 13 ∷ 10 ∷ []) 3 0 2 (3 ∷ 0 ∷ 99 ∷ [])
    -- a name may be empty: ,1,2,5
    ∷ took (44 ∷ 49 ∷ 44 ∷ 50 ∷ 44 ∷ 53 ∷ []) 1 0 1 (3 ∷ [])
    -- 20 and 7E, the ends of text: ~ ,1,2,5
    ∷ took (126 ∷ 32 ∷ 44 ∷ 49 ∷ 44 ∷ 50 ∷ 44 ∷ 53 ∷ []) 1 0 1 (3 ∷ [])
    -- 21, 23, 2B and 2D, next to quote and comma: !#+-,1,2,5
    ∷ took (33 ∷ 35 ∷ 43 ∷ 45 ∷ 44 ∷ 49 ∷ 44 ∷ 50 ∷ 44 ∷ 53 ∷ []) 1 0 1 (3 ∷ [])
    -- every field quoted: "a","1","2","5"<CR><LF>
    ∷ took (34 ∷ 97 ∷ 34 ∷ 44 ∷ 34 ∷ 49 ∷ 34 ∷ 44 ∷ 34 ∷ 50 ∷ 34 ∷ 44 ∷ 34 ∷ 53 ∷ 34 ∷ 13 ∷ 10 ∷ []) 1 0 1 (3 ∷ [])
    -- a comma between quotes: "a,",1,2,5
    ∷ took (34 ∷ 97 ∷ 44 ∷ 34 ∷ 44 ∷ 49 ∷ 44 ∷ 50 ∷ 44 ∷ 53 ∷ []) 1 0 1 (3 ∷ [])
    -- two quotes between quotes are one: """",1,2,5
    ∷ took (34 ∷ 34 ∷ 34 ∷ 34 ∷ 44 ∷ 49 ∷ 44 ∷ 50 ∷ 44 ∷ 53 ∷ []) 1 0 1 (3 ∷ [])
    -- a line break between quotes: "<CR><LF>",1,2,5
    ∷ took (34 ∷ 13 ∷ 10 ∷ 34 ∷ 44 ∷ 49 ∷ 44 ∷ 50 ∷ 44 ∷ 53 ∷ []) 1 0 1 (3 ∷ [])
    -- CR alone between quotes: "<CR>",1,2,5
    ∷ took (34 ∷ 13 ∷ 34 ∷ 44 ∷ 49 ∷ 44 ∷ 50 ∷ 44 ∷ 53 ∷ []) 1 0 1 (3 ∷ [])
    -- LF alone between quotes: "<LF>",1,2,5
    ∷ took (34 ∷ 10 ∷ 34 ∷ 44 ∷ 49 ∷ 44 ∷ 50 ∷ 44 ∷ 53 ∷ []) 1 0 1 (3 ∷ [])
    -- 31: a quote in the middle of a plain field: a"b,1,2,5
    ∷ took (97 ∷ 34 ∷ 98 ∷ 44 ∷ 49 ∷ 44 ∷ 50 ∷ 44 ∷ 53 ∷ []) 1 31 0 (99 ∷ [])
    -- 31: a quote and LF after a plain field: a,1,2,5"<LF>
    ∷ took (97 ∷ 44 ∷ 49 ∷ 44 ∷ 50 ∷ 44 ∷ 53 ∷ 34 ∷ 10 ∷ []) 1 31 0 (99 ∷ [])
    -- 31: a space before a quote:  "a",1,2,5
    ∷ took (32 ∷ 34 ∷ 97 ∷ 34 ∷ 44 ∷ 49 ∷ 44 ∷ 50 ∷ 44 ∷ 53 ∷ []) 1 31 0 (99 ∷ [])
    -- 31: text after a closing quote: "a"b,1,2,5
    ∷ took (34 ∷ 97 ∷ 34 ∷ 98 ∷ 44 ∷ 49 ∷ 44 ∷ 50 ∷ 44 ∷ 53 ∷ []) 1 31 0 (99 ∷ [])
    -- 31: a space after a closing quote: "a" ,1,2,5
    ∷ took (34 ∷ 97 ∷ 34 ∷ 32 ∷ 44 ∷ 49 ∷ 44 ∷ 50 ∷ 44 ∷ 53 ∷ []) 1 31 0 (99 ∷ [])
    -- 31: a quote that is not closed: a,1,2,"5
    ∷ took (97 ∷ 44 ∷ 49 ∷ 44 ∷ 50 ∷ 44 ∷ 34 ∷ 53 ∷ []) 1 31 0 (99 ∷ [])
    -- 31: the last of three quotes opens again: a,1,2,"""
    ∷ took (97 ∷ 44 ∷ 49 ∷ 44 ∷ 50 ∷ 44 ∷ 34 ∷ 34 ∷ 34 ∷ []) 1 31 0 (99 ∷ [])
    -- 31: CR at the very end: a,1,2,5<CR>
    ∷ took (97 ∷ 44 ∷ 49 ∷ 44 ∷ 50 ∷ 44 ∷ 53 ∷ 13 ∷ []) 1 31 0 (99 ∷ [])
    -- 31: LF ends no line: a,1,2,5<LF>
    ∷ took (97 ∷ 44 ∷ 49 ∷ 44 ∷ 50 ∷ 44 ∷ 53 ∷ 10 ∷ []) 1 31 0 (99 ∷ [])
    -- 31: two LF: a,1,2,5<LF><LF>
    ∷ took (97 ∷ 44 ∷ 49 ∷ 44 ∷ 50 ∷ 44 ∷ 53 ∷ 10 ∷ 10 ∷ []) 1 31 0 (99 ∷ [])
    -- 31: LF before a line break: a,1,2,5<LF><CR><LF>
    ∷ took (97 ∷ 44 ∷ 49 ∷ 44 ∷ 50 ∷ 44 ∷ 53 ∷ 10 ∷ 13 ∷ 10 ∷ []) 1 31 0 (99 ∷ [])
    -- 31: CR before a line break: a,1,2,5<CR><CR><LF>
    ∷ took (97 ∷ 44 ∷ 49 ∷ 44 ∷ 50 ∷ 44 ∷ 53 ∷ 13 ∷ 13 ∷ 10 ∷ []) 1 31 0 (99 ∷ [])
    -- 31: CR and text: a,1,2,5<CR>b,1,2,5
    ∷ took (97 ∷ 44 ∷ 49 ∷ 44 ∷ 50 ∷ 44 ∷ 53 ∷ 13 ∷ 98 ∷ 44 ∷ 49 ∷ 44 ∷ 50 ∷ 44 ∷ 53 ∷ []) 2 31 0 (99 ∷ 99 ∷ [])
    -- 31: a tab: <09>,1,2,5
    ∷ took (9 ∷ 44 ∷ 49 ∷ 44 ∷ 50 ∷ 44 ∷ 53 ∷ []) 1 31 0 (99 ∷ [])
    -- 31: 1A at the very end: a,1,2,5<1A>
    ∷ took (97 ∷ 44 ∷ 49 ∷ 44 ∷ 50 ∷ 44 ∷ 53 ∷ 26 ∷ []) 1 31 0 (99 ∷ [])
    -- 31: 1F between quotes: "<1F>",1,2,5
    ∷ took (34 ∷ 31 ∷ 34 ∷ 44 ∷ 49 ∷ 44 ∷ 50 ∷ 44 ∷ 53 ∷ []) 1 31 0 (99 ∷ [])
    -- 31: 7F: <7F>,1,2,5
    ∷ took (127 ∷ 44 ∷ 49 ∷ 44 ∷ 50 ∷ 44 ∷ 53 ∷ []) 1 31 0 (99 ∷ [])
    -- 31: 80 between quotes: "<80>",1,2,5
    ∷ took (34 ∷ 128 ∷ 34 ∷ 44 ∷ 49 ∷ 44 ∷ 50 ∷ 44 ∷ 53 ∷ []) 1 31 0 (99 ∷ [])
    -- 31: a byte order mark: <EF><BB><BF>a,1,2,5
    ∷ took (239 ∷ 187 ∷ 191 ∷ 97 ∷ 44 ∷ 49 ∷ 44 ∷ 50 ∷ 44 ∷ 53 ∷ []) 1 31 0 (99 ∷ [])
    -- 31: three fields: a,1,2
    ∷ took (97 ∷ 44 ∷ 49 ∷ 44 ∷ 50 ∷ []) 1 31 0 (99 ∷ [])
    -- 31: five fields: a,1,2,5,
    ∷ took (97 ∷ 44 ∷ 49 ∷ 44 ∷ 50 ∷ 44 ∷ 53 ∷ 44 ∷ []) 1 31 0 (99 ∷ [])
    -- 31: six fields: a,1,2,5,6,7
    ∷ took (97 ∷ 44 ∷ 49 ∷ 44 ∷ 50 ∷ 44 ∷ 53 ∷ 44 ∷ 54 ∷ 44 ∷ 55 ∷ []) 1 31 0 (99 ∷ [])
    -- 31: a line break alone is an empty line: <CR><LF>
    ∷ took (13 ∷ 10 ∷ []) 1 31 0 (99 ∷ [])
    -- 31: a second line break; the call stands: a,1,2,5<CR><LF><CR><LF>
    ∷ took (97 ∷ 44 ∷ 49 ∷ 44 ∷ 50 ∷ 44 ∷ 53 ∷ 13 ∷ 10 ∷ 13 ∷ 10 ∷ []) 2 31 1 (3 ∷ 99 ∷ [])
    -- seven digits, and from the answer to the end: a,0,1,9999999
    ∷ took (97 ∷ 44 ∷ 48 ∷ 44 ∷ 49 ∷ 44 ∷ 57 ∷ 57 ∷ 57 ∷ 57 ∷ 57 ∷ 57 ∷ 57 ∷ []) 1 0 1 (9999998 ∷ [])
    -- leading zeros are digits: a,0000001,02,05
    ∷ took (97 ∷ 44 ∷ 48 ∷ 48 ∷ 48 ∷ 48 ∷ 48 ∷ 48 ∷ 49 ∷ 44 ∷ 48 ∷ 50 ∷ 44 ∷ 48 ∷ 53 ∷ []) 1 0 1 (3 ∷ [])
    -- leading zeros, and ten: a,0,0,010
    ∷ took (97 ∷ 44 ∷ 48 ∷ 44 ∷ 48 ∷ 44 ∷ 48 ∷ 49 ∷ 48 ∷ []) 1 0 1 (10 ∷ [])
    -- an answer at 0 is an answer: a,0,0,5
    ∷ took (97 ∷ 44 ∷ 48 ∷ 44 ∷ 48 ∷ 44 ∷ 53 ∷ []) 1 0 1 (5 ∷ [])
    -- nobody picked up: a,1,,5
    ∷ took (97 ∷ 44 ∷ 49 ∷ 44 ∷ 44 ∷ 53 ∷ []) 1 0 1 (0 ∷ [])
    -- quotes around nothing are nothing: a,1,"",5
    ∷ took (97 ∷ 44 ∷ 49 ∷ 44 ∷ 34 ∷ 34 ∷ 44 ∷ 53 ∷ []) 1 0 1 (0 ∷ [])
    -- equal times are in order: a,5,5,5
    ∷ took (97 ∷ 44 ∷ 53 ∷ 44 ∷ 53 ∷ 44 ∷ 53 ∷ []) 1 0 1 (0 ∷ [])
    -- equal times, and nobody picked up: a,5,,5
    ∷ took (97 ∷ 44 ∷ 53 ∷ 44 ∷ 44 ∷ 53 ∷ []) 1 0 1 (0 ∷ [])
    -- 9 is before 10: a,9,10,11
    ∷ took (97 ∷ 44 ∷ 57 ∷ 44 ∷ 49 ∷ 48 ∷ 44 ∷ 49 ∷ 49 ∷ []) 1 0 1 (1 ∷ [])
    -- 32: eight digits: a,00000001,2,5
    ∷ took (97 ∷ 44 ∷ 48 ∷ 48 ∷ 48 ∷ 48 ∷ 48 ∷ 48 ∷ 48 ∷ 49 ∷ 44 ∷ 50 ∷ 44 ∷ 53 ∷ []) 1 32 0 (99 ∷ [])
    -- 32: dialled is empty: a,,2,5
    ∷ took (97 ∷ 44 ∷ 44 ∷ 50 ∷ 44 ∷ 53 ∷ []) 1 32 0 (99 ∷ [])
    -- 32: ended is empty: a,0,,
    ∷ took (97 ∷ 44 ∷ 48 ∷ 44 ∷ 44 ∷ []) 1 32 0 (99 ∷ [])
    -- 32: all times are empty: a,,,
    ∷ took (97 ∷ 44 ∷ 44 ∷ 44 ∷ []) 1 32 0 (99 ∷ [])
    -- 32: a first line is no header: line,dialled,answered,ended
    ∷ took (108 ∷ 105 ∷ 110 ∷ 101 ∷ 44 ∷ 100 ∷ 105 ∷ 97 ∷ 108 ∷ 108 ∷ 101 ∷ 100 ∷ 44 ∷ 97 ∷ 110 ∷ 115 ∷ 119 ∷ 101 ∷ 114 ∷ 101 ∷ 100 ∷ 44
    ∷ 101 ∷ 110 ∷ 100 ∷ 101 ∷ 100 ∷ [])
    1 32 0 (99 ∷ [])
    -- 32: a sign: a,+1,2,5
    ∷ took (97 ∷ 44 ∷ 43 ∷ 49 ∷ 44 ∷ 50 ∷ 44 ∷ 53 ∷ []) 1 32 0 (99 ∷ [])
    -- 32: 2F, before the digits: a,0,/,5
    ∷ took (97 ∷ 44 ∷ 48 ∷ 44 ∷ 47 ∷ 44 ∷ 53 ∷ []) 1 32 0 (99 ∷ [])
    -- 32: 3A, after the digits: a,1,2,:
    ∷ took (97 ∷ 44 ∷ 49 ∷ 44 ∷ 50 ∷ 44 ∷ 58 ∷ []) 1 32 0 (99 ∷ [])
    -- 32: a quote in a quoted time: a,1,"2""",5
    ∷ took (97 ∷ 44 ∷ 49 ∷ 44 ∷ 34 ∷ 50 ∷ 34 ∷ 34 ∷ 34 ∷ 44 ∷ 53 ∷ []) 1 32 0 (99 ∷ [])
    -- 32: a comma in a quoted time: a,1,"2,",5
    ∷ took (97 ∷ 44 ∷ 49 ∷ 44 ∷ 34 ∷ 50 ∷ 44 ∷ 34 ∷ 44 ∷ 53 ∷ []) 1 32 0 (99 ∷ [])
    -- 32: CR in a quoted time: a,1,"2<CR>",5
    ∷ took (97 ∷ 44 ∷ 49 ∷ 44 ∷ 34 ∷ 50 ∷ 13 ∷ 34 ∷ 44 ∷ 53 ∷ []) 1 32 0 (99 ∷ [])
    -- 32: LF in a quoted time: a,1,"2<LF>",5
    ∷ took (97 ∷ 44 ∷ 49 ∷ 44 ∷ 34 ∷ 50 ∷ 10 ∷ 34 ∷ 44 ∷ 53 ∷ []) 1 32 0 (99 ∷ [])
    -- 32: a space in a quoted time: a,0,"2 ",5
    ∷ took (97 ∷ 44 ∷ 48 ∷ 44 ∷ 34 ∷ 50 ∷ 32 ∷ 34 ∷ 44 ∷ 53 ∷ []) 1 32 0 (99 ∷ [])
    -- 32: answered before dialled: a,3,2,5
    ∷ took (97 ∷ 44 ∷ 51 ∷ 44 ∷ 50 ∷ 44 ∷ 53 ∷ []) 1 32 0 (99 ∷ [])
    -- 32: ended before answered: a,1,6,5
    ∷ took (97 ∷ 44 ∷ 49 ∷ 44 ∷ 54 ∷ 44 ∷ 53 ∷ []) 1 32 0 (99 ∷ [])
    -- 32: not answered, ended before dialled: a,6,,5
    ∷ took (97 ∷ 44 ∷ 54 ∷ 44 ∷ 44 ∷ 53 ∷ []) 1 32 0 (99 ∷ [])
    -- 31 before 32 in one line: a,x,2
    ∷ took (97 ∷ 44 ∷ 120 ∷ 44 ∷ 50 ∷ []) 1 31 0 (99 ∷ [])
    -- 31 before 32: the line is read whole: a,x,2,5"
    ∷ took (97 ∷ 44 ∷ 120 ∷ 44 ∷ 50 ∷ 44 ∷ 53 ∷ 34 ∷ []) 1 31 0 (99 ∷ [])
    -- 32: the line before decides: a,x,2,5<CR><LF>a
    ∷ took (97 ∷ 44 ∷ 120 ∷ 44 ∷ 50 ∷ 44 ∷ 53 ∷ 13 ∷ 10 ∷ 97 ∷ []) 1 32 0 (99 ∷ [])
    -- 32: the call of the line before stands: a,1,2,5<CR><LF>b,1,2,1
    ∷ took (97 ∷ 44 ∷ 49 ∷ 44 ∷ 50 ∷ 44 ∷ 53 ∷ 13 ∷ 10 ∷ 98 ∷ 44 ∷ 49 ∷ 44 ∷ 50 ∷ 44 ∷ 49 ∷ []) 3 32 1 (3 ∷ 99 ∷ 99 ∷ [])
    -- 31 before 33: a bad line in a full buffer: a,1,2,5<CR><LF>b
    ∷ took (97 ∷ 44 ∷ 49 ∷ 44 ∷ 50 ∷ 44 ∷ 53 ∷ 13 ∷ 10 ∷ 98 ∷ []) 1 31 1 (3 ∷ [])
    -- 32 before 33: a bad line in a full buffer: a,1,2,1
    ∷ took (97 ∷ 44 ∷ 49 ∷ 44 ∷ 50 ∷ 44 ∷ 49 ∷ []) 0 32 0 []
    -- 33: no buffer: a,1,2,5
    ∷ took (97 ∷ 44 ∷ 49 ∷ 44 ∷ 50 ∷ 44 ∷ 53 ∷ []) 0 33 0 []
    -- 33: one place for two calls: a,1,2,5<CR><LF>b,3,,4
    ∷ took (97 ∷ 44 ∷ 49 ∷ 44 ∷ 50 ∷ 44 ∷ 53 ∷ 13 ∷ 10 ∷ 98 ∷ 44 ∷ 51 ∷ 44 ∷ 44 ∷ 52 ∷ []) 1 33 1 (3 ∷ [])
    -- 33: the line before decides: a,1,2,5<CR><LF>b
    ∷ took (97 ∷ 44 ∷ 49 ∷ 44 ∷ 50 ∷ 44 ∷ 53 ∷ 13 ∷ 10 ∷ 98 ∷ []) 0 33 0 []
    ∷ []
