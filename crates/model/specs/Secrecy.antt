-- Demand 3, as one claim about the runs of whole scripts on sheets: "There is no set of t parties that can tell two inputs apart. For any set of
-- t parties, take any two accepted sheets with the same header, script and output lengths, whose input shares agree in that set's columns and
-- whose revealed values agree, whatever the script does and wherever its run stops, a refused command included. Then there is a one-to-one map
-- of all well-formed deals onto themselves that keeps that set's dealt shares and does this: for every well-formed deal, the first sheet's input
-- run on it and the second sheet's input run on its image write the same record and the same revealed list, stop with the same number at the
-- same place, with the same counts and the same registers set, and leave that set the same columns."
-- Assumes nothing.
use Rattle.std.specs.Prelude.{◌≡◌, List, [], ◌∷◌, ℕ, T, length}
use Rattle.algebra.specs.Lists.{All}
use Rattle.model.specs.Sharing.{Sharing}
use Rattle.model.specs.Shamir.{Group, Agree}
use Rattle.model.specs.Deal.{Row, Deal}
use Rattle.model.specs.Sheet.{Header, header_of, mask_bits, setting_of, script_in, input_in, deal_rows, good_mask, good_triple, sheet_of}
use Rattle.model.specs.Run.{Outcome, stop_of, run}
use Rattle.model.specs.Exactness.{Accepted}

-- "A deal is well formed when it has the header's masks and triples, each share is below p, each row is a sharing, and each mask and triple
-- is well formed." A sharing's shares are below p.
pub record WellFormed (h : Header) (d : Deal) : Type 0 where
  pub masks : length d.masks ≡ h.masks
  pub bits_each : All (λ m. length m ≡ mask_bits h) d.masks
  pub triples : length d.triples ≡ h.triples
  pub sharings : All (Sharing (setting_of h).p h.n h.t) (deal_rows d)
  pub good_masks : All (λ m. T (good_mask (setting_of h) m)) d.masks
  pub good_triples : All (λ x. T (good_triple (setting_of h) x)) d.triples

-- two lists of rows agree in a set's columns, row by row
pub data Alike (set : List ℕ) : List Row → List Row → Type 0 where
  end : Alike set [] []
  row : {x y : Row} {xs ys : List Row} → Agree set x y → Alike set xs ys → Alike set (x ∷ xs) (y ∷ ys)

-- two outcomes that a set cannot tell apart: "write the same record and the same revealed list, stop with the same number at the same place,
-- with the same counts and the same registers set, and leave that set the same columns"
pub record SameTo (set : List ℕ) (x y : Outcome) : Type 0 where
  pub log : x.log ≡ y.log
  pub revealed : x.revealed ≡ y.revealed
  pub number : x.number ≡ y.number
  pub place : x.place ≡ y.place
  pub counts : x.counts ≡ y.counts
  pub marks : x.marks ≡ y.marks
  pub columns : Alike set x.registers y.registers

-- "Running an input on a deal is running the sheet made of header, script, input and deal": those of the sheet s but for the deal. That this sheet
-- is accepted and has these is stated in RealRuns.antt.
abbrev pub made_on : List ℕ → Deal → List ℕ
made_on s d = sheet_of (header_of s) (script_in (header_of s) s) (input_in (header_of s) s) d

abbrev pub run_on : ℕ → List ℕ → Deal → List ℕ → List ℕ → Outcome
run_on present s d = run present (made_on s d)

-- "a one-to-one map of all well-formed deals onto themselves that keeps that set's dealt shares": a map and the map that undoes it
pub record Veil (present : ℕ) (set s s' : List ℕ) (log shown : ℕ) : Type 0 where
  pub to : Deal → Deal
  pub from : Deal → Deal
  pub to_formed : (d : Deal) → WellFormed (header_of s) d → WellFormed (header_of s) (to d)
  pub from_formed : (d : Deal) → WellFormed (header_of s) d → WellFormed (header_of s) (from d)
  pub from_to : (d : Deal) → WellFormed (header_of s) d → from (to d) ≡ d
  pub to_from : (d : Deal) → WellFormed (header_of s) d → to (from d) ≡ d
  -- "A set's dealt shares are its parties' shares in the deal."
  pub keeps : (d : Deal) → WellFormed (header_of s) d → Alike set (deal_rows d) (deal_rows (to d))
  -- "for every well-formed deal, the first sheet's input run on it and the second sheet's input run on its image", whatever the buffers held
  pub same : (d : Deal) → WellFormed (header_of s) d → (a b : List ℕ) → length a ≡ log → length b ≡ shown
      → SameTo set (run_on present s d a b) (run_on present s' (to d) a b)

-- "For any set of t parties, take any two accepted sheets with the same header, script and output lengths, whose input shares agree in that set's
-- columns": the output lengths are log and shown in `Secrecy`
pub record Twins (present : ℕ) (set s s' : List ℕ) : Type 0 where
  pub first : Accepted present s
  pub second : Accepted present s'
  pub header : header_of s ≡ header_of s'
  pub script : script_in (header_of s) s ≡ script_in (header_of s') s'
  pub parties : Group (header_of s).n (header_of s).t set
  pub inputs : Alike set (input_in (header_of s) s) (input_in (header_of s') s')

-- "A sheet's revealed values are the secrets read by the REVEALs that finish when it is run, in order."
abbrev pub revealed_by : ℕ → List ℕ → ℕ → ℕ → List ℕ
revealed_by present s log shown = (stop_of present s log shown).state.shown

-- "and whose revealed values agree, whatever the script does and wherever its run stops, a refused command included. Then there is a
-- one-to-one map". "The map is fixed by the set, the two sheets and the output lengths, before any deal is named." Request 5: "The secrecy rule compares
-- two runs with the same set", that of the parties present, which is given before the map too.
abbrev pub Secrecy : Type 0
Secrecy =
    (present : ℕ) (set s s' : List ℕ) (log shown : ℕ) → Twins present set s s' → revealed_by present s log shown ≡ revealed_by present s' log shown
    → Veil present set s s' log shown
