-- Demand 3 about sheets, from the theorem over rows: two accepted sheets with one header and one script, their parts, and the runs of
-- sheets made of them.
-- Assumes nothing.
use mathlib.Core.Path.{◌≡◌, sym, ap, ap₂, subst, ◌∙◌}
use mathlib.Core.List.{List}
use Prim.Native.Nat.{ℕ}
use native.Mathlib.Omega.{arith}
use lib.Dec.{T, eqb, eqb_refl, lt→ltb}
use lib.ListN.{length, drop, length-drop}
use lib.Seq.{length-take-le}
use Rattle.algebra.specs.Lists.{All, none, one, all_below}
use Rattle.algebra.proofs.Lists.{all_below_lem}
use Rattle.algebra.proofs.Tests.{and_both}
use Rattle.model.specs.Fields.{Field, InUse}
use Rattle.model.specs.Sharing.{Sharing, secret}
use Rattle.model.specs.Shamir.{Group}
use Rattle.model.specs.Presence.{everyone}
use Rattle.model.specs.Steps.{Setting, Row, Triple, Deal}
use Rattle.model.specs.Script.{Line, accepted, script_of}
use Rattle.model.specs.Sheet.{Header, header_of, header_size, mask_bits, largest_in, setting_with, setting_of, implied_length, script_in, input_in, deal_in, mask_rows, triple_rows, deal_rows, spell, good_mask, good_triple, sheet_number, sheet_of}
use Rattle.model.specs.Run.{Stop, start, run_lines, outcome, supply_of, run_script, sheet_script, stop_of, run}
use Rattle.model.specs.Secrecy.{WellFormed, Alike, SameTo, run_on, Secrecy}
use Rattle.model.proofs.Each.{each_length}
use Rattle.model.proofs.Lengths.{header_field}
use Rattle.model.proofs.Bits.{bits_of, length_bits}
use Rattle.model.proofs.Unmasking.{masking_bits}
use Rattle.model.proofs.Shared.{TripleOk}
use Rattle.model.proofs.Determined.{MaskOk, secrets_are, all_sharings}
use Rattle.model.proofs.SheetDeal.{shape_in}
use Rattle.model.proofs.Taking.{all_append}
use Rattle.model.proofs.Acceptance.{sound, given, all_map, all_left, all_right, masks_ok, triples_ok, same_masks, same_triples, lines_ok}
use Rattle.model.proofs.MadeSheets.{Facts, all_in, made_run}
use Rattle.model.proofs.Held.{Formed}
use Rattle.model.proofs.Veil.{SameStop, Veiled, veiled}

-- masks and triples as `Formed` and as `WellFormed` has them
mask_rows_lem : (S : Setting) {ms : List (List Row)} → All (MaskOk S S.p) ms → All (Sharing S.p S.n S.t) (mask_rows ms)
unfolding mask_rows
mask_rows_lem S none = none
mask_rows_lem S (one m ms) = all_append (all_sharings m.shareds) (mask_rows_lem S ms)

triple_rows_lem : (S : Setting) {xs : List Triple} → All (TripleOk S) xs → All (Sharing S.p S.n S.t) (triple_rows xs)
unfolding triple_rows
triple_rows_lem S none = none
triple_rows_lem S (one x xs) = one x.a_sharing_lem (one x.b_sharing (one x.c_sharing (triple_rows_lem S xs)))

good_mask_lem : (S : Setting) {K : ℕ} → Field S.p S.l K → (m : List Row) → MaskOk S S.p m → T (good_mask S m)
unfolding good_mask
good_mask_lem S F m N =
    let B = masking_bits F N.r N.small in
    let bs = bits_of S.l N.r in
    rw (secrets_are N.shareds) (and_both (all_below 2 bs) _ ((all_below_lem 2 bs).1 B.bits) (lt→ltb (spell bs) S.p B.below))

good_triple_lem : (S : Setting) (x : Triple) → TripleOk S x → T (good_triple S x)
unfolding good_triple
good_triple_lem S x G = subst (λ (z : ℕ). T (eqb (secret S.p S.t x.c) z)) G.good (eqb_refl (secret S.p S.t x.c))

module _ (present : ℕ) (h : Header) (log shown : ℕ) where
  formed : {d : Deal} → WellFormed h d → Formed (setting_with present h) (supply_of h log shown) d
  formed {d} W =
      record {
        masks_ok = masks_ok (setting_with present h) d.masks (all_left (mask_rows d.masks) (triple_rows d.triples) W.sharings)
            (same_masks (everyone h.n) present h W.good_masks) (all_in W.bits_each);
        masks_many = W.masks;
        triples_ok = triples_ok (setting_with present h) d.triples (all_right (mask_rows d.masks) (triple_rows d.triples) W.sharings)
            (same_triples (everyone h.n) present h W.good_triples);
        triples_many = W.triples;
      }

  pub well_formed : InUse h.field → {d : Deal} → Formed (setting_with present h) (supply_of h log shown) d → WellFormed h d
  well_formed f {d} F =
      record {
        masks = F.masks_many;
        bits_each = all_map (λ m N. each_length N.shareds ∙ length_bits (mask_bits h) N.r) F.masks_ok;
        triples = F.triples_many;
        sharings = all_append (mask_rows_lem (setting_with present h) F.masks_ok) (triple_rows_lem (setting_with present h) F.triples_ok);
        good_masks = same_masks present (everyone h.n) h (all_map (good_mask_lem (setting_with present h) (header_field h f)) F.masks_ok);
        good_triples = same_triples present (everyone h.n) h (all_map (good_triple_lem (setting_with present h)) F.triples_ok);
      }

-- what an accepted sheet says of its parts, and its stop
module _ (present : ℕ) (s : List ℕ) (xs : List Line) (end : ℕ) (number : sheet_number present s ≡ 0) (script : sheet_script s ≡ accepted xs end) where
  pub facts : Facts present (header_of s) (script_in (header_of s) s) (input_in (header_of s) s) xs end
  unfolding script_in implied_length
  facts =
      let Q = sound present s number in
      let h = header_of s in
      record {
        permitted = Q.permitted;
        permitted_set_lem = Q.permitted_set_lem;
        script_is = script;
        script_length = length-take-le h.script (drop (header_size h) s) (rw length-drop (omega (arith, Q.size)));
        sharings = all_left (input_in h s) (deal_rows (deal_in h s)) Q.sharings;
        inputs = (shape_in h s).inputs;
      }

  pub own_deal : (log shown : ℕ) → Formed (setting_with present (header_of s)) (supply_of (header_of s) log shown) (deal_in (header_of s) s)
  own_deal log shown = (given present s (sound present s number) log shown).formed

  pub own_stop : (log shown : ℕ) → stop_of present s log shown
      ≡ run_lines (setting_with present (header_of s)) (supply_of (header_of s) log shown) (input_in (header_of s) s) end xs (start (deal_in (header_of s) s))
  unfolding stop_of run_script
  own_stop log shown = rw (number, script)

-- stops that a set cannot tell apart leave outcomes that it cannot tell apart
same_outcome : (set : List ℕ) (S : Setting) (a b : List ℕ) {x y : Stop} → SameStop set x y → SameTo set (outcome S a b x) (outcome S a b y)
unfolding outcome
same_outcome set S a b {x} {y} Q =
    record {
      log = rw Q.opened;
      revealed = rw Q.shown;
      number = Q.number;
      place = Q.place;
      counts = rw Q.spent;
      marks = rw Q.spent;
      columns = Q.columns;
    }

-- one header and one script, two inputs
module _ (present : ℕ) (h : Header) (script : List ℕ) (xs : List Line) (end log shown : ℕ) (set : List ℕ) (G : Group h.n h.t set)
    (input input' : List Row) (F : Facts present h script input xs end) (F' : Facts present h script input' xs end) (L : Alike set input input') (d d' : Deal)
    (D : Formed (setting_with present h) (supply_of h log shown) d) (D' : Formed (setting_with present h) (supply_of h log shown) d')
    (e : (run_lines (setting_with present h) (supply_of h log shown) input end xs (start d)).state.shown
    ≡ (run_lines (setting_with present h) (supply_of h log shown) input' end xs (start d')).state.shown) where
  over_rows : Veiled (setting_with present h) (supply_of h log shown) end xs set input input'
  over_rows =
      veiled (setting_with present h) (header_field h F.permitted.field) F.permitted.people (supply_of h log shown) end xs
      (lines_ok (setting_of h).p (largest_in h) script xs end F.script_is) G F.sharings F'.sharings L d d' D D' e

  runs_same : (q : Deal) → WellFormed h q → (a b : List ℕ) → length a ≡ log → length b ≡ shown
      → SameTo set (run present (sheet_of h script input q) a b) (run present (sheet_of h script input' (over_rows.to q)) a b)
  runs_same q W a b la lb =
      rw (made_run F W a b, made_run F' (well_formed present h log shown F.permitted.field (over_rows.to_formed q (formed present h log shown W))) a b, la, lb)
      (same_outcome set (setting_with present h) a b (over_rows.same q (formed present h log shown W)))

-- demand 3
pub secrecy : Secrecy
secrecy present set s s' log shown B q =
    record {
      to = rows.to;
      from = rows.from;
      to_formed = λ d W. well_formed present h log shown F.permitted.field (rows.to_formed d (formed present h log shown W));
      from_formed = λ d W. well_formed present h log shown F.permitted.field (rows.from_formed d (formed present h log shown W));
      from_to = λ d W. rows.from_to d (formed present h log shown W);
      to_from = λ d W. rows.to_from d (formed present h log shown W);
      keeps = λ d W. rows.keeps d (formed present h log shown W);
      same = λ d W a b la lb.
          subst (SameTo set (run_on present s d a b)) (ap₂ (λ (z : Header) (c : List ℕ). run present (sheet_of z c input' (rows.to d)) a b) B.header B.script)
          (runs_same present h script xs e log shown set B.parties input input' F F' B.inputs (deal_in h s) d' D D' shown_same d W a b la lb);
    }
  where
    xs : List Line
    xs = B.first.lines

    e : ℕ
    e = B.first.end

    h : Header
    h = header_of s

    script : List ℕ
    script = script_in (header_of s) s

    input : List Row
    input = input_in (header_of s) s

    input' : List Row
    input' = input_in (header_of s') s'

    d' : Deal
    d' = deal_in (header_of s') s'

    -- the second sheet has the first one's lines
    second : sheet_script s' ≡ accepted B.first.lines B.first.end
    second =
        sym (ap₂ (λ (z : Header) (c : List ℕ). script_of (setting_of z).p (largest_in z) c) B.header B.script) ∙ B.first.script

    F : Facts present (header_of s) (script_in (header_of s) s) (input_in (header_of s) s) B.first.lines B.first.end
    F = facts present s xs e B.first.number B.first.script

    F' : Facts present (header_of s) (script_in (header_of s) s) (input_in (header_of s') s') B.first.lines B.first.end
    F' =
        subst (λ (c : List ℕ). Facts present (header_of s) c (input_in (header_of s') s') B.first.lines B.first.end) (sym B.script)
        (subst (λ (z : Header). Facts present z (script_in (header_of s') s') (input_in (header_of s') s') B.first.lines B.first.end) (sym B.header) (facts present s' xs e B.second.number second))

    D : Formed (setting_with present (header_of s)) (supply_of (header_of s) log shown) (deal_in (header_of s) s)
    D = own_deal present s xs e B.first.number B.first.script log shown

    D' : Formed (setting_with present (header_of s)) (supply_of (header_of s) log shown) (deal_in (header_of s') s')
    D' =
        subst (λ (z : Header). Formed (setting_with present z) (supply_of z log shown) (deal_in (header_of s') s')) (sym B.header)
        (own_deal present s' xs e B.second.number second log shown)

    shown_same : (run_lines (setting_with present (header_of s)) (supply_of (header_of s) log shown) (input_in (header_of s) s) B.first.end B.first.lines (start (deal_in (header_of s) s))).state.shown
        ≡ (run_lines (setting_with present (header_of s)) (supply_of (header_of s) log shown) (input_in (header_of s') s') B.first.end B.first.lines (start (deal_in (header_of s') s'))).state.shown
    shown_same =
        ap (λ (x : Stop). x.state.shown) (sym (own_stop present s xs e B.first.number B.first.script log shown)) ∙ q ∙ ap (λ (x : Stop). x.state.shown) (own_stop present s' xs e B.second.number second log shown)
        ∙ ap (λ (z : Header). (run_lines (setting_with present z) (supply_of z log shown) (input_in (header_of s') s') e xs (start (deal_in (header_of s') s'))).state.shown) (sym B.header)

    rows : Veiled (setting_with present (header_of s)) (supply_of (header_of s) log shown) B.first.end B.first.lines set (input_in (header_of s) s) (input_in (header_of s') s')
    rows = over_rows present h script xs e log shown set B.parties input input' F F' B.inputs (deal_in h s) d' D D' shown_same
