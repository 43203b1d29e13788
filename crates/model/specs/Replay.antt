-- Request 8, "A firm replays its own column": one party works its column alone, "from party number, header, script, that party's part of the column form,
-- and the record".
--
-- A party's column is a table of one column: its rows have one share, n being 1, and the part is the rows of such a table's input and deal. The steps,
-- commands and lines are those of the table's run (Trees.antt, Commands.antt), and what needs no opening is worked on rows (Steps.antt). What is read
-- otherwise is an opening: its value comes from the record.
-- Assumes nothing.
use Rattle.std.specs.Prelude.{Bool, ◌&&◌, ◌||◌, cond, List, [], ◌∷◌, ◌++◌, map, ℕ, suc, ◌+◌, ◌*◌, leb, eqb, length, get_or, take, drop, replicate}
use Rattle.algebra.specs.Lists.{all_below, from}
use Rattle.algebra.specs.Rows.{row}
use Rattle.model.specs.Fields.{modulus}
use Rattle.model.specs.Sharing.{eval, interpolate, at}
use Rattle.model.specs.Refusing.{first_failed, given}
use Rattle.model.specs.Deal.{Setting, Row, Deal, no_row}
use Rattle.model.specs.Trees.{Tree, done, multiply, mask, reveal}
use Rattle.model.specs.Steps.{minus, next_triple, next_mask, less_triple, less_mask, beaver, under_mask}
use Rattle.model.specs.Script.{Line, Script, accepted, refused}
use Rattle.model.specs.Counts.{Counts, no_counts}
use Rattle.model.specs.Costs.{mod_triples}
use Rattle.model.specs.Checks.{Spent, Supply}
use Rattle.model.specs.Commands.{Ended, through_lines}
use Rattle.model.specs.Sheet.{Header, header_of, mask_bits, setting_of, rows_at, masks_from, triples_from, all, header_tests, limit_tests}
use Rattle.model.specs.Run.{row_command, nothing_spent, sheet_script}
use Rattle.model.specs.Columns.{part_length, shares_in}
use Rattle.model.specs.Forecast.{head_length_tests, ample_supply}

-- What a tree read from the record comes to: stopped by a refusal, or finished with a result, and then the deal and the record that are left. The paper's
-- record is called log here.
pub data Read (A : Type 0) : Type 0 where
  stopped : ℕ → Read A
  finished : A → Deal → List ℕ → Read A

-- the table of one column: its rows have one share. Nothing is opened in it, so that t and who is present decide nothing.
abbrev pub one_column : Setting → Setting
one_column S = record { p = S.p; l = S.l; n = 1; t = 0; present = 1 }

-- the share in a row of one share
abbrev pub own_share : Row → ℕ
own_share x = get_or x 0 0

-- Openings in the record of a table of n columns, with the field's modulus p and the threshold t.
module _ (p n t : ℕ) where
  -- "at each opening": the record's next n numbers, party 1's first, as a row
  unfoldable pub opening : List ℕ → Row
  opening log = row n (λ i. get_or log i 0)

  -- "An entry of p is an absent share": those of some parties whose share is present
  unfoldable pub present_at : Row → List ℕ → List ℕ
  present_at x [] = []
  present_at x (j ∷ js) = let rest = present_at x js in cond (eqb (at 0 x j) p) rest (j ∷ rest)

  -- those of parties 1 to n
  abbrev pub present_of : Row → List ℕ
  present_of x = present_at x (from 1 n)

  -- The polynomial through the shares of the lowest t + 1 of them. Where all shares that are present are on one polynomial of degree at most t, it is this
  -- one (`Openings` in Replays.antt).
  unfoldable pub through : Row → List ℕ
  through x = interpolate p (take (suc t) (present_of x)) (at 0 x)

  -- an opened value: the polynomial's value at 0
  unfoldable pub opened_value : Row → ℕ
  opened_value x = eval p (through x) 0

  -- What must hold of the next opening, each with the number of the refusal where it fails; j is the party, and own its share of what is opened.
  unfoldable pub opening_tests : ℕ → ℕ → List ℕ → List (Bool × ℕ)
  opening_tests j own log =
      let x = opening log in
      -- "43 the record is too short"
      (leb n (length log), 43)
      -- "then 42 a number is above p"
      ∷ (all_below (suc p) x, 42)
      -- "fewer than t + 1 shares are present"
      ∷ (leb (suc t) (length (present_of x)), 42)
      -- "or those present are not on one polynomial of degree at most t"
      ∷ (all (λ i. eqb (eval p (through x) i) (at 0 x i)) (present_of x), 42)
      -- "then 41 the own share differs"; "an absent own share is not compared"
      ∷ (eqb (at 0 x j) p || eqb (at 0 x j) own, 41)
      ∷ []

  abbrev pub opening_number : ℕ → ℕ → List ℕ → ℕ
  opening_number j own log = first_failed (opening_tests j own log)

-- Party j of a table with the setting S.
module _ (S : Setting) (j : ℕ) where
  -- A row of one share is opened: the value goes to what follows, with the record after this opening; or the refusal ends it.
  unfoldable pub from_record : {A : Type 0} → Row → List ℕ → (ℕ → List ℕ → Read A) → Read A
  from_record x log go =
      let number = opening_number S.p S.n S.t j (own_share x) log in
      given number (go (opened_value S.p S.n S.t (opening S.p S.n S.t log)) (drop S.n log)) (stopped number)

  -- A tree on the party's shares, node by node, as `by_rows` reads it but for the openings.
  unfoldable pub by_record : {A : Type 0} → Tree Row A → Deal → List ℕ → Read A
  by_record (done x) d log = finished x d log
  by_record (multiply left right go) d log =
      let own = one_column S in
      let t = next_triple own d in
      from_record (minus own left t.a) log λ a1 log₁.
      from_record (minus own right t.b) log₁ λ b1 log₂.
      by_record (go (beaver own a1 b1 t)) (less_triple d) log₂
  by_record (mask x go) d log =
      let own = one_column S in
      let r = next_mask own d in
      from_record (under_mask own x r) log λ C log₁.
      by_record (go C r) (less_mask d) log₁
  by_record (reveal x rest) d log = from_record x log λ v log₁. by_record rest d log₁

  -- a command: it is refused, or the lines go on with what it left
  abbrev pub onward : {A R : Type 0} → (ℕ → R) → (A → Deal → List ℕ → R) → Read A → R
  onward refusal go (stopped number) = refusal number
  onward refusal go (finished x d log) = go x d log

  -- The lines of a script, gone over as a run goes over them: "Before each command it tries 21 to 24." "A refusal during the run, its command's offset the
  -- place, leaves column and counts after the last finished command." "Record left over after END is ignored."
  unfoldable pub replay_lines : Supply → List Row → ℕ → List Line → Spent → List Row → Deal → List ℕ → Ended Row
  replay_lines u input end xs s g =
      through_lines (λ e d log. e)
      (λ refusal i c g go d log. onward (λ number. refusal number d log) go (by_record (row_command (one_column S) input i c g done) d log))
      (mod_triples S.l) u end xs s g

-- "that party's part of the column form": input and deal of its column, which are rows of one share, "inputs, masks, triples in sheet order"
unfoldable pub part_input : Header → List ℕ → List Row
part_input h part = rows_at part 1 0 h.inputs

unfoldable pub part_deal : Header → List ℕ → Deal
part_deal h part =
    record {
      masks = masks_from part 1 (mask_bits h) (4 * h.inputs) h.masks;
      triples = triples_from part 1 (4 * h.inputs + 4 * mask_bits h * h.masks) h.triples;
    }

-- "3 also covers a party number not from 1 to n"
unfoldable pub party_tests : Header → ℕ → List (Bool × ℕ)
party_tests h j = (leb 1 j && leb j h.n, 3) ∷ []

-- "4 counts and the length of header with script or of the column part": the last of these; the others are `limit_tests` and `head_length_tests`
unfoldable pub part_length_tests : Header → List ℕ → List (Bool × ℕ)
part_length_tests h part = (eqb (length part) (part_length h), 4) ∷ []

-- "and 5 the own shares"
unfoldable pub own_share_tests : Header → List ℕ → List (Bool × ℕ)
own_share_tests h part = (all_below (modulus h.field) (shares_in h part), 5) ∷ []

-- "Before the run it tries 1 to 5": of party j, header with script, and the part
unfoldable pub replay_tests : ℕ → List ℕ → List ℕ → List (Bool × ℕ)
replay_tests j head part =
    let h = header_of head in
    header_tests head ++ (party_tests h j ++ (limit_tests h ++ (head_length_tests h head ++ (part_length_tests h part ++ own_share_tests h part))))

-- "It yields the 64 cells and the counts", and number and place
pub record Replayed : Type 0 where
  pub number : ℕ
  pub place : ℕ
  pub cells : List ℕ
  pub counts : Counts

-- "Those leave all cells and counts 0."
abbrev pub nothing_replayed : ℕ → ℕ → Replayed
nothing_replayed number place = record { number = number; place = place; cells = replicate 64 0; counts = no_counts }

abbrev pub replayed_by : Ended Row → Replayed
replayed_by e = record { number = e.number; place = e.place; cells = map own_share e.registers; counts = e.spent.counts }

-- "and 9 to 11": a script that was read is refused, or gone over from the start. What there is are the header's counts; no record or revealed list is
-- lent, and 25 and 26 never come (`Replays`).
unfoldable pub replay_script : ℕ → Header → List ℕ → List ℕ → Script → Replayed
replay_script j h part log (refused number place) = nothing_replayed number place
replay_script j h part log (accepted xs end) =
    replayed_by
    (replay_lines (setting_of h) j (ample_supply h) (part_input h part) end xs nothing_spent (replicate 64 no_row) (part_deal h part) log)

-- The replay by party j of a head, its part and a record.
unfoldable pub replay : ℕ → List ℕ → List ℕ → List ℕ → Replayed
replay j head part log =
    let number = first_failed (replay_tests j head part) in
    given number (replay_script j (header_of head) part log (sheet_script head)) (nothing_replayed number 0)
