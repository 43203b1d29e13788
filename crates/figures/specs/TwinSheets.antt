-- Demand 3 is not empty: two sheets that meet its hypotheses and differ in a secret. And it needs the agreement of revealed values: without
-- it the claim is false.
-- Assumes nothing.
use Rattle.std.specs.Prelude.{◌≡◌, List, [], ◌∷◌, map, ℕ, replicate}
use Rattle.algebra.specs.Rows.{padded}
use Rattle.model.specs.Presence.{everyone}
use Rattle.model.specs.Shamir.{Group}
use Rattle.model.specs.Steps.{Row}
use Rattle.model.specs.Script.{LOAD, MUL, MOD, TRUNC, REVEAL, Line}
use Rattle.model.specs.Sheet.{header_of, input_in, secrets, sheet_of}
use Rattle.figures.specs.Figures.{small, of, five}
use Rattle.figures.specs.Witness.{line}
use Rattle.model.specs.Run.{stop_of}
use Rattle.model.specs.Secrecy.{Twins, Veil, revealed_by}

-- Field 0, three parties, threshold 1. Party 2 holds the share 3 of both inputs: of 1 + x, with the secret 1, and of 3.
abbrev pub shared_one : Row
shared_one = padded (2 ∷ 3 ∷ 4 ∷ [])

abbrev pub shared_three : Row
shared_three = padded (3 ∷ 3 ∷ 3 ∷ [])

-- LOAD 0, MUL 1 0 0, TRUNC 2 0 3 1, MOD 3 0 3 1, REVEAL 3, END: the squares and the halves differ; what is left modulo 2 is 1 of both
unfoldable pub sheet : Row → List ℕ
sheet x =
    sheet_of (record { field = 0; n = 3; t = 1; inputs = 1; masks = 2; triples = 9; script = 19 })
    (1 ∷ 0 ∷ 6 ∷ 1 ∷ 0 ∷ 0 ∷ 8 ∷ 2 ∷ 0 ∷ 3 ∷ 1 ∷ 7 ∷ 3 ∷ 0 ∷ 3 ∷ 1 ∷ 12 ∷ 3 ∷ 0 ∷ []) (x ∷ [])
    (record { masks = replicate 2 (map (of small) five); triples = replicate 9 (record { a = of small 2; b = of small 3; c = of small 6 }) })

unfoldable pub lines : List Line
lines = line 0 (LOAD 0) ∷ line 2 (MUL 1 0 0) ∷ line 6 (TRUNC 2 0 3 1) ∷ line 11 (MOD 3 0 3 1) ∷ line 16 (REVEAL 3) ∷ []

-- "For any set of t parties": the first and the last party, and three of seven
pub record Groups : Type 0 where
  pub first_party : Group 3 1 (1 ∷ [])
  pub last_party : Group 3 1 (3 ∷ [])
  pub three_parties : Group 7 3 (1 ∷ 4 ∷ 7 ∷ [])

-- With a record of 63 numbers, for 21 openings, and one revealed number both runs come to END. With a record of 62 both stop at REVEAL, "a
-- refused command included". So with the parties that this byte says present.
pub record NotEmptyWith (present : ℕ) : Type 0 where
  pub twins : Twins present (2 ∷ []) (sheet shared_one) (sheet shared_three)
  pub revealed : revealed_by present (sheet shared_one) 63 1 ≡ revealed_by present (sheet shared_three) 63 1
  pub reveals : revealed_by present (sheet shared_one) 63 1 ≡ 1 ∷ []
  pub first_ends : (stop_of present (sheet shared_one) 63 1).number ≡ 0
  pub second_ends : (stop_of present (sheet shared_three) 63 1).number ≡ 0
  pub first_refused : (stop_of present (sheet shared_one) 62 1).number ≡ 25
  pub second_refused : (stop_of present (sheet shared_three) 62 1).number ≡ 25
  pub refused_revealed : revealed_by present (sheet shared_one) 62 1 ≡ revealed_by present (sheet shared_three) 62 1
  pub first_secret : secrets small (input_in (header_of (sheet shared_one)) (sheet shared_one)) ≡ 1 ∷ []
  pub second_secret : secrets small (input_in (header_of (sheet shared_three)) (sheet shared_three)) ≡ 3 ∷ []

-- with everyone present, with party 1 absent, and with party 2, the set's own, absent
pub record NotEmpty : Type 0 where
  pub all_present : NotEmptyWith (everyone 3)
  pub one_absent : NotEmptyWith 6
  pub set_absent : NotEmptyWith 5

-- LOAD 0, REVEAL 0, END: the same inputs, which the script reveals
unfoldable pub plain : Row → List ℕ
plain x =
    sheet_of (record { field = 0; n = 3; t = 1; inputs = 1; masks = 0; triples = 0; script = 5 }) (1 ∷ 0 ∷ 12 ∷ 0 ∷ 0 ∷ []) (x ∷ [])
    (record { masks = []; triples = [] })

-- the claim without the agreement of revealed values
abbrev pub TooMuch : Type 0
TooMuch = (present : ℕ) (set s s' : List ℕ) (log shown : ℕ) → Twins present set s s' → Veil present set s s' log shown
