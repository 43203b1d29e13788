-- Request 8, "A firm replays its own column": replay against the run; the numbers in their order; what an opening in the record asks; and that a command is
-- done whole or not at all.
-- Assumes nothing.
use Rattle.std.specs.Prelude.{◌≡◌, ◌≢◌, ◌⊎◌, ℕ, suc, ◌-◌, ◌*◌, ◌≤◌, ◌<◌, length, get_or, take, drop, replicate}
use mathlib.Core.List.{List, [], ◌∷◌, ◌++◌, map, Memᴰ as In}
use Rattle.algebra.specs.Lists.{Below}
use Rattle.model.specs.Fields.{modulus, InUse, Parties}
use Rattle.model.specs.Sharing.{eval, at}
use Rattle.model.specs.Shamir.{Group}
use Rattle.model.specs.Refusing.{first_failed}
use Rattle.model.specs.Deal.{Setting, Row, Deal, no_row}
use Rattle.model.specs.Trees.{Tree, done, multiply, mask, reveal}
use Rattle.model.specs.Steps.{minus, next_triple, next_mask, less_triple, less_mask, beaver, under_mask}
use Rattle.model.specs.Script.{Line, accepted, refused}
use Rattle.model.specs.Costs.{cost}
use Rattle.model.specs.Checks.{Spent, Supply, check, pay}
use Rattle.model.specs.Sheet.{header_of, setting_of, inputs_at, header_tests, limit_tests}
use Rattle.model.specs.Run.{Outcome, row_command, nothing_spent, sheet_script, run}
use Rattle.model.specs.Exactness.{Accepted}
use Rattle.model.specs.Refusals.{From}
use Rattle.model.specs.Columns.{column_form, part_length, part_of, shares_in}
use Rattle.model.specs.Forecast.{head_in, ample_supply, foreseen}
use Rattle.model.specs.Replay.{Read, stopped, finished, one_column, own_share, opening, opened_value, opening_number, from_record, by_record, replay_lines, part_input, part_deal, Replayed, nothing_replayed, replayed_by, replay}

-- party j's part of an outcome: "column j and the same counts", with number and place
abbrev pub column_of : ℕ → Outcome → Replayed
column_of j o = record { number = o.number; place = o.place; cells = map (λ (x : Row). at 0 x j) o.registers; counts = o.counts }

-- the same of a run that 25 or 26 stopped, with 43 for its number: the record ends before the command at which it stopped
abbrev pub stopped_short : ℕ → Outcome → Replayed
stopped_short j o = record { number = 43; place = o.place; cells = (column_of j o).cells; counts = o.counts }

-- the record that a run of the sheet s wrote: n numbers for each opening
abbrev pub record_of : List ℕ → Outcome → List ℕ
record_of s o = take ((header_of s).n * o.counts.openings) o.log

-- Of an opening, the row x: "a number is above p, fewer than t + 1 shares are present, or those present are not on one polynomial of degree at most t"
-- refuses where there is none of these.
pub record OnOne (p n t : ℕ) (x : Row) : Type 0 where
  pub most : (i : ℕ) → 1 ≤ i → i ≤ n → at 0 x i ≤ p
  -- t + 1 different parties whose shares are present
  pub parties : List ℕ
  pub group : Group n (suc t) parties
  pub there : (i : ℕ) → In i parties → at 0 x i ≢ p
  -- a polynomial of degree at most t that takes every share that is present
  pub poly : List ℕ
  pub size : length poly ≡ suc t
  pub below : Below p poly
  pub takes : (i : ℕ) → 1 ≤ i → i ≤ n → at 0 x i ≢ p → eval p poly i ≡ at 0 x i

-- The next opening of a record, the own share of what is opened being own: "43 the record is too short; then 42 …; then 41 the own share differs".
pub record Openings (p n t j own : ℕ) (log : List ℕ) : Type 0 where
  -- the record's next n numbers, party 1's first
  pub numbers_are : (i : ℕ) → 1 ≤ i → i ≤ n → at 0 (opening p n t log) i ≡ get_or log (i - 1) 0
  pub too_short : length log < n → opening_number p n t j own log ≡ 43
  pub not_on_one : n ≤ length log → (OnOne p n t (opening p n t log) → ⊥) → opening_number p n t j own log ≡ 42
  pub differs : n ≤ length log → OnOne p n t (opening p n t log) → at 0 (opening p n t log) j ≢ p → at 0 (opening p n t log) j ≢ own
      → opening_number p n t j own log ≡ 41
  -- "an absent own share is not compared"
  pub absent : n ≤ length log → OnOne p n t (opening p n t log) → at 0 (opening p n t log) j ≡ p → opening_number p n t j own log ≡ 0
  pub same : n ≤ length log → OnOne p n t (opening p n t log) → at 0 (opening p n t log) j ≡ own → opening_number p n t j own log ≡ 0
  -- the value is that of the polynomial through the shares present, whichever of them it is found from
  pub value_is : (x : OnOne p n t (opening p n t log)) → opened_value p n t (opening p n t log) ≡ eval p x.poly 0

-- what is asked before the run, but for the script: none of 1 to 5 refuses
pub record ReplayReady (j : ℕ) (head part : List ℕ) : Type 0 where
  pub header : first_failed (header_tests head) ≡ 0
  pub party : (1 ≤ j) × (j ≤ (header_of head).n)
  pub limits : first_failed (limit_tests (header_of head)) ≡ 0
  pub head_length : length head ≡ inputs_at (header_of head)
  pub part_length : length part ≡ part_length (header_of head)
  pub shares : Below (modulus (header_of head).field) (shares_in (header_of head) part)

-- "Before the run it tries 1 to 5 and 9 to 11": in this order, and "Those leave all cells and counts 0.", with place 0 for 1 to 5
pub record BeforeReplay (j : ℕ) (head part log : List ℕ) : Type 0 where
  pub header_first : first_failed (header_tests head) ≢ 0 → replay j head part log ≡ nothing_replayed (first_failed (header_tests head)) 0
  -- "3 also covers a party number not from 1 to n"
  pub party_next : first_failed (header_tests head) ≡ 0 → ((1 ≤ j) × (j ≤ (header_of head).n) → ⊥) → replay j head part log ≡ nothing_replayed 3 0
  -- "4 counts and the length of header with script or of the column part"
  pub lengths_next : first_failed (header_tests head) ≡ 0 → (1 ≤ j) × (j ≤ (header_of head).n)
      → (first_failed (limit_tests (header_of head)) ≢ 0) ⊎ ((length head ≢ inputs_at (header_of head)) ⊎ (length part ≢ part_length (header_of head)))
      → replay j head part log ≡ nothing_replayed 4 0
  -- "and 5 the own shares"
  pub shares_next : first_failed (header_tests head) ≡ 0 → (1 ≤ j) × (j ≤ (header_of head).n) → first_failed (limit_tests (header_of head)) ≡ 0
      → length head ≡ inputs_at (header_of head) → length part ≡ part_length (header_of head)
      → (Below (modulus (header_of head).field) (shares_in (header_of head) part) → ⊥) → replay j head part log ≡ nothing_replayed 5 0
  -- then the script, with the place of the refusal
  pub script_next : (number place : ℕ) → ReplayReady j head part → sheet_script head ≡ refused number place
      → replay j head part log ≡ nothing_replayed number place
  -- else the lines are gone over, from the start, with the shares of the part
  pub lines_last : (xs : List Line) (end : ℕ) → ReplayReady j head part → sheet_script head ≡ accepted xs end
      → let h = header_of head in
      replay j head part log
      ≡ replayed_by (replay_lines (setting_of h) j (ample_supply h) (part_input h part) end xs nothing_spent (replicate 64 no_row) (part_deal h part) log)

-- An opening of the row x, of one share: r is its refusal, by `opening_number`; or what follows goes on with its value, and with the record after its n numbers.
pub record AtOpening (S : Setting) (j : ℕ) (x : Row) (log : List ℕ) (go : ℕ → List ℕ → Read (List Row)) (r : Read (List Row)) : Type 0 where
  pub refused : opening_number S.p S.n S.t j (own_share x) log ≢ 0 → r ≡ stopped (opening_number S.p S.n S.t j (own_share x) log)
  pub goes_on : opening_number S.p S.n S.t j (own_share x) log ≡ 0
      → r ≡ go (opened_value S.p S.n S.t (opening S.p S.n S.t log)) (drop S.n log)

-- "at each opening": MUL opens a1, and then b1; a masked opening C; REVEAL its row. Each is refused before the next is looked at. The trees are those of
-- commands, which end with registers; d is what is left of the deal.
pub record ByNodes (S : Setting) (j : ℕ) (d : Deal) (log : List ℕ) : Type 0 where
  pub opens : (x : Row) (go : ℕ → List ℕ → Read (List Row)) → AtOpening S j x log go (from_record S j x log go)
  pub ends : (g : List Row) → by_record S j (done g) d log ≡ finished g d log
  pub multiplies : (left right : Row) (go : Row → Tree Row (List Row))
      → let own = one_column S in
      let t = next_triple own d in
      AtOpening S j (minus own left t.a) log
      (λ a1 log₁. from_record S j (minus own right t.b) log₁ (λ b1 log₂. by_record S j (go (beaver own a1 b1 t)) (less_triple d) log₂))
      (by_record S j (multiply left right go) d log)
  pub masks : (x : Row) (go : ℕ → List Row → Tree Row (List Row))
      → let own = one_column S in
      let r = next_mask own d in
      AtOpening S j (under_mask own x r) log (λ C log₁. by_record S j (go C r) (less_mask d) log₁) (by_record S j (mask x go) d log)
  pub reveals : (x : Row) (rest : Tree Row (List Row)) → AtOpening S j x log (λ v log₁. by_record S j rest d log₁) (by_record S j (reveal x rest) d log)

-- the lines from what was spent (s), the registers g, the deal d and the record on
pub record ByLines (S : Setting) (j : ℕ) (u : Supply) (input : List Row) (end : ℕ) (s : Spent) (g : List Row) (d : Deal) (log : List ℕ) : Type 0 where
  -- "Record left over after END is ignored."
  pub at_end : replay_lines S j u input end [] s g d log ≡ record { number = 0; place = end; spent = s; registers = g }
  -- "Before each command it tries 21 to 24."
  pub refused_before : (x : Line) (xs : List Line) → check u (cost S x.command) s ≢ 0
      → replay_lines S j u input end (x ∷ xs) s g d log ≡ record { number = check u (cost S x.command) s; place = x.place; spent = s; registers = g }
  -- "A refusal during the run, its command's offset the place, leaves column and counts after the last finished command."
  pub refused_inside : (x : Line) (xs : List Line) (number : ℕ) → check u (cost S x.command) s ≡ 0
      → by_record S j (row_command (one_column S) input s.counts.inputs x.command g done) d log ≡ stopped number
      → replay_lines S j u input end (x ∷ xs) s g d log ≡ record { number = number; place = x.place; spent = s; registers = g }
  pub goes_on : (x : Line) (xs : List Line) (g' : List Row) (d' : Deal) (log' : List ℕ) → check u (cost S x.command) s ≡ 0
      → by_record S j (row_command (one_column S) input s.counts.inputs x.command g done) d log ≡ finished g' d' log'
      → replay_lines S j u input end (x ∷ xs) s g d log ≡ replay_lines S j u input end xs (pay (cost S x.command) s) g' d' log'

-- number, place and counts are those of the forecast
abbrev pub AsForeseen : List ℕ → Replayed → Type 0
AsForeseen head r = (r.number ≡ (foreseen head).number) × (r.place ≡ (foreseen head).place) × (r.counts ≡ (foreseen head).spent.counts)

-- 0, 1 to 5, 9 to 11, 21 to 24, or 41 to 43
abbrev pub OfReplay : ℕ → Type 0
OfReplay number = (number ≡ 0) ⊎ (From 1 5 number ⊎ (From 9 11 number ⊎ (From 21 24 number ⊎ From 41 43 number)))

pub record Replays : Type 0 where
  -- "For every accepted sheet that the table runs to END, replay of party j gives column j and the same counts." So it does of a run that 21 to 24 stopped,
  -- whoever is present and however long the buffers are; the record is what the run wrote, and then whatever follows.
  pub as_run : (present : ℕ) (s log revealed : List ℕ) (j : ℕ) (more : List ℕ) → Accepted present s → 1 ≤ j → j ≤ (header_of s).n
      → let o = run present s log revealed in
      o.number ≢ 25 → o.number ≢ 26 → replay j (head_in s) (part_of (header_of s) j (column_form s)) (record_of s o ++ more) ≡ column_of j o
  -- and where the whole lent buffer is taken for the record
  pub from_buffer : (present : ℕ) (s log revealed : List ℕ) (j : ℕ) → Accepted present s → 1 ≤ j → j ≤ (header_of s).n
      → let o = run present s log revealed in
      o.number ≢ 25 → o.number ≢ 26 → replay j (head_in s) (part_of (header_of s) j (column_form s)) o.log ≡ column_of j o
  -- A run that 25 or 26 stopped wrote nothing of that command, which opens something: from exactly what it wrote, "43 the record is too short" there.
  pub from_short : (present : ℕ) (s log revealed : List ℕ) (j : ℕ) → Accepted present s → 1 ≤ j → j ≤ (header_of s).n
      → let o = run present s log revealed in
      From 25 26 o.number → replay j (head_in s) (part_of (header_of s) j (column_form s)) (record_of s o) ≡ stopped_short j o
  -- for every input
  pub before : (j : ℕ) (head part log : List ℕ) → BeforeReplay j head part log
  pub by_lines : (S : Setting) (j : ℕ) (u : Supply) (input : List Row) (end : ℕ) (s : Spent) (g : List Row) (d : Deal) (log : List ℕ)
      → ByLines S j u input end s g d log
  pub by_nodes : (S : Setting) (j : ℕ) (d : Deal) (log : List ℕ) → ByNodes S j d log
  pub openings : (f n t j own : ℕ) (log : List ℕ) → InUse f → Parties n t → 1 ≤ j → j ≤ n → Openings (modulus f) n t j own log
  -- where the record does not refuse, number, place and counts are those of the forecast of the same header and script: so 25 and 26 never come
  pub as_foreseen : (j : ℕ) (head part log : List ℕ) → ReplayReady j head part
      → From 41 43 (replay j head part log).number ⊎ AsForeseen head (replay j head part log)
  pub numbers : (j : ℕ) (head part log : List ℕ) → OfReplay (replay j head part log).number
  -- a record that is not too short decides all, whatever follows it
  pub left_over : (j : ℕ) (head part log more : List ℕ) → (replay j head part log).number ≢ 43 → replay j head part (log ++ more) ≡ replay j head part log
