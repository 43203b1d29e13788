-- What holds of a run's state: registers share the plain values, what was opened are sharings, and the deal, the record and the revealed list are
-- spent as counted. Each finished command keeps it.
-- Assumes nothing.
use mathlib.Core.Path.{◌≡◌, refl, sym, ap, ◌∙◌}
use mathlib.Core.Bool.{false}
use mathlib.Core.List.{List, [], ◌++◌, append-nil, Memᴰ as In}
use Prim.Native.Nat.{ℕ, zero, suc, ◌+◌, ◌-◌, ◌<◌}
use native.Mathlib.Decide.{dec_lt}
use native.Mathlib.Omega.{arith}
use lib.Dec.{T}
use lib.ListN.{length, get_or, replicate, length-append, length-drop, get_or-eq_default}
use Rattle.algebra.specs.Lists.{All, none}
use Rattle.model.specs.Fields.{Field, Parties}
use Rattle.model.specs.Sharing.{Sharing}
use Rattle.model.specs.Trees.{done}
use Rattle.model.specs.Trees as Trees
use Rattle.model.specs.Steps.{Setting, Row, Deal, Worked, row_ops, by_rows}
use Rattle.model.specs.Script.{Command, in_ranges}
use Rattle.model.specs.Costs.{mod_triples, cost}
use Rattle.model.specs.Sheet.{secrets}
use Rattle.model.specs.Run.{State, Supply, no_row, row_command, pay, perform, finish, nothing_spent, start}
use Rattle.model.specs.Plain.{plainly, reveals}
use Rattle.model.specs.Results.{target}
use Rattle.model.proofs.Each.{each_length, each_replicate}
use Rattle.model.proofs.Shared.{Shared, Shareds, TripleOk, all_drop, shared_none, shareds_secrets}
use Rattle.model.proofs.Taking.{Used, used_then, all_append}
use Rattle.model.proofs.Determined.{d_done, MaskOk}
use Rattle.model.proofs.Masked.{whole_field, remainder_determined}
use Rattle.model.proofs.Checks.{Passed}
use Rattle.model.proofs.Courses.{OthersStay, Course, course}
use Rattle.model.proofs.Marks.{length_marked, unmarked}
use Rattle.model.proofs.Outputs.{agrees}
use Rattle.model.proofs.Balance.{openings_are}
use Rattle.model.proofs.Running.{Ran, ran}

-- the whole of what holds of a state, where d is the deal that the run started with
pub record Holds (S : Setting) (d : Deal) (s : State) (vs : List ℕ) : Type 0 where
  pub marks_64 : length s.spent.marks ≡ 64
  pub values_64 : length vs ≡ 64
  pub shareds : Shareds S vs s.registers
  pub unset : (r : ℕ) → get_or s.spent.marks r false ≡ false → get_or s.registers r no_row ≡ no_row
  pub used : Used d s.spent.counts.masks s.spent.counts.triples s.deal
  pub opens : length s.opened ≡ s.spent.counts.openings
  pub rows : All (Sharing S.p S.n S.t) s.opened
  pub shows : length s.shown ≡ s.spent.counts.revealed

pub all_same : {A : Type 0} (n r : ℕ) (a : A) → get_or (replicate n a) r a ≡ a
all_same zero r a = refl
all_same (suc n) zero a = refl
all_same (suc n) (suc r) a = all_same n r a

pub holds_start : (S : Setting) → Shared S 0 no_row → (d : Deal) → Holds S d (start d) (replicate 64 0)
unfolding start nothing_spent
holds_start S Z d =
    record {
      marks_64 = refl;
      values_64 = refl;
      shareds = each_replicate 64 0 no_row Z;
      unset = λ r m. all_same 64 r no_row;
      used = record { masks = refl; triples = refl };
      opens = refl;
      rows = none;
      shows = refl;
    }

-- a well-formed deal, as much as is supplied
pub record Formed (S : Setting) (u : Supply) (d : Deal) : Type 0 where
  pub masks_ok : All (MaskOk S S.p) d.masks
  pub masks_many : length d.masks ≡ u.masks
  pub triples_ok : All (TripleOk S) d.triples
  pub triples_many : length d.triples ≡ u.triples

-- what a run is worked with: well-formed input and deal, as much as is supplied
pub record Given (S : Setting) (K : ℕ) (u : Supply) (input : List Row) (d : Deal) : Type 0 where
  pub field : Field S.p S.l K
  pub parties : Parties S.n S.t
  pub inputs_ok : All (Sharing S.p S.n S.t) input
  pub inputs_many : length input ≡ u.inputs
  pub formed : Formed S u d

-- a finished command: what holds goes on holding, of the plain interpreter's values; the revealed list has its values more; other registers are kept
pub record Finished (S : Setting) (d : Deal) (c : Command) (s s' : State) (vs ws : List ℕ) : Type 0 where
  pub holds : Holds S d s' ws
  pub shown : s'.shown ≡ s.shown ++ reveals c vs
  pub kept : (r : ℕ) → (In r (target c) → ⊥) → get_or s'.registers r no_row ≡ get_or s.registers r no_row

module _ {S : Setting} {K : ℕ} {u : Supply} {input : List Row} {d₀ : Deal} (G : Given S K u input d₀) where
  pub none_shared : Shared S 0 no_row
  none_shared = shared_none S G.field.modulus_is G.parties

  -- what is left of the deal
  masks_left : {s : State} {vs : List ℕ} → Holds S d₀ s vs → All (MaskOk S S.p) s.deal.masks
  masks_left {s} H = rw H.used.masks (all_drop s.spent.counts.masks G.formed.masks_ok)

  masks_count : {s : State} {vs : List ℕ} → Holds S d₀ s vs → length s.deal.masks ≡ u.masks - s.spent.counts.masks
  masks_count {s} H = ap length H.used.masks ∙ length-drop s.spent.counts.masks d₀.masks ∙ rw G.formed.masks_many

  triples_left : {s : State} {vs : List ℕ} → Holds S d₀ s vs → All (TripleOk S) s.deal.triples
  triples_left {s} H = rw H.used.triples (all_drop s.spent.counts.triples G.formed.triples_ok)

  triples_count : {s : State} {vs : List ℕ} → Holds S d₀ s vs → length s.deal.triples ≡ u.triples - s.spent.counts.triples
  triples_count {s} H = ap length H.used.triples ∙ length-drop s.spent.counts.triples d₀.triples ∙ rw G.formed.triples_many

  module _ (s : State) (vs : List ℕ) (H : Holds S d₀ s vs) (c : Command) (ok : T (in_ranges S.p K c)) (Q : Passed u (cost S c) s.spent) where
    abbrev values : List ℕ
    values = plainly S.p (secrets S input) s.spent.counts.inputs c vs

    abbrev Left : List Row → Type 0
    Left w = Shareds S values w × OthersStay (target c) s.registers w

    C : Course S S.p (mod_triples S.l) input s.spent.counts.inputs c vs Left (Trees.remainder S.p (row_ops S))
    C = course S G.field.modulus_is G.parties none_shared (shareds_secrets G.inputs_ok) (Trees.remainder S.p (row_ops S)) (remainder_determined S G.field G.parties) s.spent.counts.inputs vs c ok

    -- the command's tree, worked on the deal that is left
    abbrev tree_worked : Worked (List Row)
    tree_worked = by_rows S (row_command S input s.spent.counts.inputs c s.registers done) s.deal

    command_ran : Ran S Left (C.numbers ++ []) ((cost S c).counts.triples + 0) (reveals c vs ++ []) s.deal tree_worked
    command_ran =
        ran S (whole_field G.field) G.parties (C.determined s.registers H.shareds done (λ w W. d_done W))
        (masks_left H) (rw length-append (omega (arith, C.masks, Q.masks, masks_count H))) (triples_left H) (omega (arith, Q.triples, triples_count H))

    -- the same, with what the command costs
    masks_are : length (C.numbers ++ []) ≡ (cost S c).counts.masks
    masks_are = rw length-append (omega (arith, C.masks))

    values_are : length (reveals c vs ++ []) ≡ (cost S c).counts.revealed
    values_are = rw length-append (omega (arith, C.values))

    triples_are : (cost S c).counts.triples + 0 ≡ (cost S c).counts.triples
    triples_are = omega arith

    registers_64 : length tree_worked.left ≡ 64
    registers_64 = command_ran.left.1.many ∙ each_length H.shareds ∙ H.values_64

    still_unset : (r : ℕ) → get_or (pay (cost S c) s.spent).marks r false ≡ false → get_or tree_worked.left r no_row ≡ no_row
    unfolding pay
    still_unset r e = go (dec_lt r 64)
      where
        go : Dec (r < 64) → get_or tree_worked.left r no_row ≡ no_row
        go (yes l) =
            let m = unmarked s.spent.marks (target c) r (rw H.marks_64 l) (rw (agrees S c).writes at e) in
            command_ran.left.1.others r m.0 ∙ H.unset r m.1
        go (no l) = get_or-eq_default tree_worked.left no_row (omega (arith, registers_64))

    pub finished : Finished S d₀ c s (finish S input c s) vs values
    unfolding finish perform pay
    finished =
        let R = command_ran in
        record {
          holds =
              record {
                marks_64 = length_marked s.spent.marks (cost S c).writes ∙ H.marks_64;
                values_64 = sym (each_length R.left.0) ∙ registers_64;
                shareds = R.left.0;
                unset = still_unset;
                used = rw (masks_are, triples_are) at (used_then H.used R.used);
                opens = rw length-append (omega (arith, H.opens, R.opened_many, masks_are, values_are, openings_are S c));
                rows = all_append H.rows R.opened;
                shows = rw (length-append, R.shown) (omega (arith, H.shows, values_are));
              };
          shown = ap (λ (ws : List ℕ). s.shown ++ ws) (R.shown ∙ append-nil (reveals c vs));
          kept = R.left.1.others;
        }
