-- The paper, "Fields and parties", and request 4, "Sum first, reduce after": calls of the small entries, and what they answer.
-- The reference writes this table (reference model-cases).
-- Assumes nothing.
use Rattle.std.specs.Prelude.{List, [], ◌∷◌, pos, neg_ℤ}
use Rattle.model.specs.CaseForms.{Entry, shared, recovered, summed, encoded, decoded}

unfoldable pub entry_cases : List Entry
entry_cases =
    -- share 5 + 2x
    shared 0 3 1 5 (2 ∷ []) 3 0 (7 ∷ 9 ∷ 11 ∷ [])
    -- p - 1 is a secret and a coefficient
    ∷ shared 0 3 1 12 (12 ∷ []) 3 0 (11 ∷ 10 ∷ 9 ∷ [])
    -- the first power's coefficient first
    ∷ shared 0 5 2 1 (2 ∷ 3 ∷ []) 5 0 (6 ∷ 4 ∷ 8 ∷ 5 ∷ 8 ∷ [])
    -- field 1, threshold 3
    ∷ shared 1 7 3 250 (1 ∷ 2 ∷ 3 ∷ []) 7 0 (5 ∷ 33 ∷ 101 ∷ 227 ∷ 178 ∷ 223 ∷ 129 ∷ [])
    -- field 2, threshold 2
    ∷ shared 2 6 2 65520 (700 ∷ 65520 ∷ []) 6 0 (698 ∷ 1395 ∷ 2090 ∷ 2783 ∷ 3474 ∷ 4163 ∷ [])
    -- field 3, threshold 1
    ∷ shared 3 4 1 2147483646 (2147483646 ∷ []) 4 0 (2147483645 ∷ 2147483644 ∷ 2147483643 ∷ 2147483642 ∷ [])
    -- 2: field 4
    ∷ shared 4 3 1 5 (2 ∷ []) 3 2 (99 ∷ 99 ∷ 99 ∷ [])
    -- 2 before 3
    ∷ shared 4 8 1 5 (2 ∷ []) 8 2 (99 ∷ 99 ∷ 99 ∷ 99 ∷ 99 ∷ 99 ∷ 99 ∷ 99 ∷ [])
    -- 3: two parties
    ∷ shared 0 2 1 5 (2 ∷ []) 2 3 (99 ∷ 99 ∷ [])
    -- 3: eight parties
    ∷ shared 0 8 1 5 (2 ∷ []) 8 3 (99 ∷ 99 ∷ 99 ∷ 99 ∷ 99 ∷ 99 ∷ 99 ∷ 99 ∷ [])
    -- 3: threshold 0
    ∷ shared 0 3 0 5 [] 3 3 (99 ∷ 99 ∷ 99 ∷ [])
    -- 3: 2t + 1 is more than n
    ∷ shared 0 4 2 5 (2 ∷ 2 ∷ []) 4 3 (99 ∷ 99 ∷ 99 ∷ 99 ∷ [])
    -- 3 before 4
    ∷ shared 0 8 1 5 (2 ∷ []) 3 3 (99 ∷ 99 ∷ 99 ∷ [])
    -- 4: no coefficient
    ∷ shared 0 3 1 5 [] 3 4 (99 ∷ 99 ∷ 99 ∷ [])
    -- 4: a coefficient more
    ∷ shared 0 3 1 5 (2 ∷ 2 ∷ []) 3 4 (99 ∷ 99 ∷ 99 ∷ [])
    -- 4: the lent list is too short
    ∷ shared 0 3 1 5 (2 ∷ []) 2 4 (99 ∷ 99 ∷ [])
    -- 4: the lent list is too long
    ∷ shared 0 3 1 5 (2 ∷ []) 4 4 (99 ∷ 99 ∷ 99 ∷ 99 ∷ [])
    -- 4 before 5
    ∷ shared 0 3 1 13 (2 ∷ []) 4 4 (99 ∷ 99 ∷ 99 ∷ 99 ∷ [])
    -- 5: the secret is p
    ∷ shared 0 3 1 13 (2 ∷ []) 3 5 (99 ∷ 99 ∷ 99 ∷ [])
    -- 5: a coefficient is p
    ∷ shared 0 5 2 5 (2 ∷ 13 ∷ []) 5 5 (99 ∷ 99 ∷ 99 ∷ 99 ∷ 99 ∷ [])
    -- recover 5 and 2
    ∷ recovered 0 3 1 (7 ∷ 9 ∷ 11 ∷ []) 1 0 (pos 5) (2 ∷ [])
    -- p - 1 is a share
    ∷ recovered 0 3 1 (12 ∷ 12 ∷ 12 ∷ []) 1 0 (pos 12) (0 ∷ [])
    -- the first power's coefficient first
    ∷ recovered 0 5 2 (6 ∷ 4 ∷ 8 ∷ 5 ∷ 8 ∷ []) 2 0 (pos 1) (2 ∷ 3 ∷ [])
    -- field 1, threshold 3
    ∷ recovered 1 7 3 (5 ∷ 33 ∷ 101 ∷ 227 ∷ 178 ∷ 223 ∷ 129 ∷ []) 3 0 (pos 250) (1 ∷ 2 ∷ 3 ∷ [])
    -- field 2, threshold 2
    ∷ recovered 2 5 2 (5 ∷ 10 ∷ 17 ∷ 26 ∷ 37 ∷ []) 2 0 (pos 2) (2 ∷ 1 ∷ [])
    -- field 3, threshold 1
    ∷ recovered 3 3 1 (2147483645 ∷ 2147483644 ∷ 2147483643 ∷ []) 1 0 (pos 2147483646) (2147483646 ∷ [])
    -- 2: field 4
    ∷ recovered 4 3 1 (7 ∷ 9 ∷ 11 ∷ []) 1 2 (pos 0) (99 ∷ [])
    -- 2 before 3
    ∷ recovered 4 8 1 (7 ∷ 7 ∷ 7 ∷ 7 ∷ 7 ∷ 7 ∷ 7 ∷ 7 ∷ []) 1 2 (pos 0) (99 ∷ [])
    -- 3: two parties
    ∷ recovered 0 2 1 (7 ∷ 9 ∷ []) 1 3 (pos 0) (99 ∷ [])
    -- 3: eight parties
    ∷ recovered 0 8 1 (7 ∷ 7 ∷ 7 ∷ 7 ∷ 7 ∷ 7 ∷ 7 ∷ 7 ∷ []) 1 3 (pos 0) (99 ∷ [])
    -- 3: threshold 0
    ∷ recovered 0 3 0 (7 ∷ 7 ∷ 7 ∷ []) 0 3 (pos 0) []
    -- 3: 2t + 1 is more than n
    ∷ recovered 0 4 2 (7 ∷ 7 ∷ 7 ∷ 7 ∷ []) 2 3 (pos 0) (99 ∷ 99 ∷ [])
    -- 3 before 4
    ∷ recovered 0 8 1 (7 ∷ 7 ∷ 7 ∷ []) 1 3 (pos 0) (99 ∷ [])
    -- 4: a share is missing
    ∷ recovered 0 3 1 (7 ∷ 9 ∷ []) 1 4 (pos 0) (99 ∷ [])
    -- 4: a share more
    ∷ recovered 0 3 1 (7 ∷ 9 ∷ 11 ∷ 0 ∷ []) 1 4 (pos 0) (99 ∷ [])
    -- 4: the lent list is too short
    ∷ recovered 0 3 1 (7 ∷ 9 ∷ 11 ∷ []) 0 4 (pos 0) []
    -- 4: the lent list is too long
    ∷ recovered 0 3 1 (7 ∷ 9 ∷ 11 ∷ []) 2 4 (pos 0) (99 ∷ 99 ∷ [])
    -- 4 before 5
    ∷ recovered 0 3 1 (7 ∷ 9 ∷ 13 ∷ []) 2 4 (pos 0) (99 ∷ 99 ∷ [])
    -- 5: the last share is p
    ∷ recovered 0 3 1 (13 ∷ 13 ∷ 13 ∷ []) 1 5 (pos 0) (99 ∷ [])
    -- 5 before 6
    ∷ recovered 0 3 1 (7 ∷ 9 ∷ 13 ∷ []) 1 5 (pos 0) (99 ∷ [])
    -- 6: no sharing
    ∷ recovered 0 3 1 (7 ∷ 9 ∷ 12 ∷ []) 1 6 (pos 0) (99 ∷ [])
    -- 6: the first share
    ∷ recovered 0 3 1 (6 ∷ 9 ∷ 11 ∷ []) 1 6 (pos 0) (99 ∷ [])
    -- 6: a cubic, threshold 2
    ∷ recovered 1 5 2 (1 ∷ 8 ∷ 27 ∷ 64 ∷ 125 ∷ []) 2 6 (pos 0) (99 ∷ 99 ∷ [])
    -- 2: encode, field 4
    ∷ encoded 4 3 (pos 0) 2 (pos 0)
    -- 2 before 11
    ∷ encoded 4 1 (pos 9) 2 (pos 0)
    -- 11: k is 0
    ∷ encoded 0 0 (pos 0) 11 (pos 0)
    -- 11: k is 1
    ∷ encoded 0 1 (pos 0) 11 (pos 0)
    ∷ encoded 0 1 (neg_ℤ (pos 1)) 11 (pos 0)
    -- 11: k is more than the field's largest
    ∷ encoded 0 4 (pos 0) 11 (pos 0)
    ∷ encoded 1 8 (pos 0) 11 (pos 0)
    ∷ encoded 2 16 (pos 0) 11 (pos 0)
    ∷ encoded 3 31 (pos 0) 11 (pos 0)
    -- 0 is 0, and -3 is 10
    ∷ encoded 0 3 (pos 0) 0 (pos 0)
    ∷ encoded 0 3 (neg_ℤ (pos 3)) 0 (pos 10)
    -- the lowest of the k-bit range
    ∷ encoded 0 2 (neg_ℤ (pos 2)) 0 (pos 11)
    ∷ encoded 0 3 (neg_ℤ (pos 4)) 0 (pos 9)
    ∷ encoded 1 7 (neg_ℤ (pos 64)) 0 (pos 187)
    ∷ encoded 2 15 (neg_ℤ (pos 16384)) 0 (pos 49137)
    ∷ encoded 3 30 (neg_ℤ (pos 536870912)) 0 (pos 1610612735)
    -- the highest
    ∷ encoded 0 2 (pos 1) 0 (pos 1)
    ∷ encoded 0 3 (pos 3) 0 (pos 3)
    ∷ encoded 1 7 (pos 63) 0 (pos 63)
    ∷ encoded 2 15 (pos 16383) 0 (pos 16383)
    ∷ encoded 3 30 (pos 536870911) 0 (pos 536870911)
    -- 11: one less than the lowest
    ∷ encoded 0 2 (neg_ℤ (pos 3)) 11 (pos 0)
    ∷ encoded 0 3 (neg_ℤ (pos 5)) 11 (pos 0)
    ∷ encoded 1 7 (neg_ℤ (pos 65)) 11 (pos 0)
    ∷ encoded 2 15 (neg_ℤ (pos 16385)) 11 (pos 0)
    ∷ encoded 3 30 (neg_ℤ (pos 536870913)) 11 (pos 0)
    -- 11: one more than the highest
    ∷ encoded 0 2 (pos 2) 11 (pos 0)
    ∷ encoded 0 3 (pos 4) 11 (pos 0)
    ∷ encoded 1 7 (pos 64) 11 (pos 0)
    ∷ encoded 2 15 (pos 16384) 11 (pos 0)
    ∷ encoded 3 30 (pos 536870912) 11 (pos 0)
    -- 2: decode, field 4
    ∷ decoded 4 0 2 (pos 0)
    -- 2 before 5
    ∷ decoded 4 4294967295 2 (pos 0)
    -- (p - 1)/2 is itself
    ∷ decoded 0 6 0 (pos 6)
    ∷ decoded 1 125 0 (pos 125)
    ∷ decoded 2 32760 0 (pos 32760)
    ∷ decoded 3 1073741823 0 (pos 1073741823)
    -- one more is -(p - 1)/2
    ∷ decoded 0 7 0 (neg_ℤ (pos 6))
    ∷ decoded 1 126 0 (neg_ℤ (pos 125))
    ∷ decoded 2 32761 0 (neg_ℤ (pos 32760))
    ∷ decoded 3 1073741824 0 (neg_ℤ (pos 1073741823))
    -- p - 1 is -1
    ∷ decoded 0 12 0 (neg_ℤ (pos 1))
    ∷ decoded 1 250 0 (neg_ℤ (pos 1))
    ∷ decoded 2 65520 0 (neg_ℤ (pos 1))
    ∷ decoded 3 2147483646 0 (neg_ℤ (pos 1))
    -- 5: p
    ∷ decoded 0 13 5 (pos 0)
    ∷ decoded 1 251 5 (pos 0)
    ∷ decoded 2 65521 5 (pos 0)
    ∷ decoded 3 2147483647 5 (pos 0)
    -- sum 2 times 7 and 12 times 9
    ∷ summed 0 3 1 (7 ∷ 9 ∷ 11 ∷ []) 0 (pos 122)
    -- shares past t + 1 are not summed
    ∷ summed 0 7 1 (7 ∷ 9 ∷ 11 ∷ 0 ∷ 2 ∷ 4 ∷ 6 ∷ []) 0 (pos 122)
    -- all shares 0
    ∷ summed 0 3 1 (0 ∷ 0 ∷ 0 ∷ []) 0 (pos 0)
    -- 2p, so the secret is 0
    ∷ summed 0 3 1 (7 ∷ 1 ∷ 8 ∷ []) 0 (pos 26)
    -- all shares p - 1, in each field with each threshold
    ∷ summed 0 3 1 (12 ∷ 12 ∷ 12 ∷ []) 0 (pos 168)
    ∷ summed 0 5 2 (12 ∷ 12 ∷ 12 ∷ 12 ∷ 12 ∷ []) 0 (pos 168)
    ∷ summed 0 7 3 (12 ∷ 12 ∷ 12 ∷ 12 ∷ 12 ∷ 12 ∷ 12 ∷ []) 0 (pos 324)
    ∷ summed 1 3 1 (250 ∷ 250 ∷ 250 ∷ []) 0 (pos 63000)
    ∷ summed 1 5 2 (250 ∷ 250 ∷ 250 ∷ 250 ∷ 250 ∷ []) 0 (pos 63000)
    ∷ summed 1 7 3 (250 ∷ 250 ∷ 250 ∷ 250 ∷ 250 ∷ 250 ∷ 250 ∷ []) 0 (pos 125750)
    ∷ summed 2 3 1 (65520 ∷ 65520 ∷ 65520 ∷ []) 0 (pos 4293001440)
    ∷ summed 2 5 2 (65520 ∷ 65520 ∷ 65520 ∷ 65520 ∷ 65520 ∷ []) 0 (pos 4293001440)
    ∷ summed 2 7 3 (65520 ∷ 65520 ∷ 65520 ∷ 65520 ∷ 65520 ∷ 65520 ∷ 65520 ∷ []) 0 (pos 8585937360)
    ∷ summed 3 3 1 (2147483646 ∷ 2147483646 ∷ 2147483646 ∷ []) 0 (pos 4611686014132420608)
    ∷ summed 3 5 2 (2147483646 ∷ 2147483646 ∷ 2147483646 ∷ 2147483646 ∷ 2147483646 ∷ []) 0 (pos 4611686014132420608)
    -- the largest sum of all
    ∷ summed 3 7 3 (2147483646 ∷ 2147483646 ∷ 2147483646 ∷ 2147483646 ∷ 2147483646 ∷ 2147483646 ∷ 2147483646 ∷ []) 0
    (pos 9223372026117357570)
    -- the weight of each share, threshold 1
    ∷ summed 3 3 1 (1 ∷ 0 ∷ 2147483646 ∷ []) 0 (pos 2)
    ∷ summed 3 3 1 (0 ∷ 1 ∷ 2 ∷ []) 0 (pos 2147483646)
    -- the weight of each share, threshold 2
    ∷ summed 2 5 2 (1 ∷ 0 ∷ 0 ∷ 1 ∷ 3 ∷ []) 0 (pos 3)
    ∷ summed 2 5 2 (0 ∷ 1 ∷ 0 ∷ 65518 ∷ 65513 ∷ []) 0 (pos 65518)
    ∷ summed 2 5 2 (0 ∷ 0 ∷ 1 ∷ 3 ∷ 6 ∷ []) 0 (pos 1)
    -- the weight of each share, threshold 3
    ∷ summed 1 7 3 (1 ∷ 0 ∷ 0 ∷ 0 ∷ 250 ∷ 247 ∷ 241 ∷ []) 0 (pos 4)
    ∷ summed 1 7 3 (0 ∷ 1 ∷ 0 ∷ 0 ∷ 4 ∷ 15 ∷ 36 ∷ []) 0 (pos 245)
    ∷ summed 1 7 3 (0 ∷ 0 ∷ 1 ∷ 0 ∷ 245 ∷ 231 ∷ 206 ∷ []) 0 (pos 4)
    ∷ summed 1 7 3 (0 ∷ 0 ∷ 0 ∷ 1 ∷ 4 ∷ 10 ∷ 20 ∷ []) 0 (pos 250)
    -- 2: sum, field 4
    ∷ summed 4 3 1 (7 ∷ 9 ∷ 11 ∷ []) 2 (pos 0)
    -- 2 before 3
    ∷ summed 4 8 1 (7 ∷ 7 ∷ 7 ∷ 7 ∷ 7 ∷ 7 ∷ 7 ∷ 7 ∷ []) 2 (pos 0)
    -- 3: two parties
    ∷ summed 0 2 1 (7 ∷ 9 ∷ []) 3 (pos 0)
    -- 3: eight parties
    ∷ summed 0 8 1 (7 ∷ 7 ∷ 7 ∷ 7 ∷ 7 ∷ 7 ∷ 7 ∷ 7 ∷ []) 3 (pos 0)
    -- 3: threshold 0
    ∷ summed 0 3 0 (7 ∷ 7 ∷ 7 ∷ []) 3 (pos 0)
    -- 3: 2t + 1 is more than n
    ∷ summed 0 4 2 (7 ∷ 7 ∷ 7 ∷ 7 ∷ []) 3 (pos 0)
    -- 3 before 4
    ∷ summed 0 8 1 (7 ∷ 7 ∷ 7 ∷ []) 3 (pos 0)
    -- 4: a share is missing
    ∷ summed 0 3 1 (7 ∷ 9 ∷ []) 4 (pos 0)
    -- 4: a share more
    ∷ summed 0 3 1 (7 ∷ 9 ∷ 11 ∷ 0 ∷ []) 4 (pos 0)
    -- 4 before 5
    ∷ summed 0 3 1 (7 ∷ 13 ∷ []) 4 (pos 0)
    -- 5: the last share is p
    ∷ summed 0 3 1 (2 ∷ 1 ∷ 13 ∷ []) 5 (pos 0)
    -- 5 before 6
    ∷ summed 0 4 1 (7 ∷ 9 ∷ 12 ∷ 13 ∷ []) 5 (pos 0)
    -- 6: the last share
    ∷ summed 0 3 1 (7 ∷ 9 ∷ 12 ∷ []) 6 (pos 0)
    -- 6: one of the shares that are summed
    ∷ summed 1 5 2 (1 ∷ 4 ∷ 8 ∷ 16 ∷ 25 ∷ []) 6 (pos 0)
    ∷ []
