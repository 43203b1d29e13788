-- What is known of a sheet and a script that are not refused.
-- Assumes nothing.
use mathlib.Core.Path.{◌≡◌, refl, sym, ap, subst, ◌∙◌}
use mathlib.Core.Bool.{Bool, true}
use mathlib.Core.List.Memᴰ.{head as here}
use mathlib.Core.List.Memᴰ.{tail as there}
use mathlib.Core.List.{List, [], ◌∷◌, ◌++◌, Memᴰ as In}
use Prim.Native.Nat.{ℕ, suc}
use lib.Dec.{T, eqb, ltb→lt, eqb→eq}
use lib.ListN.{length}
use Rattle.algebra.specs.Lists.{All, none, one, all_below}
use Rattle.algebra.proofs.Lists.{all_below_lem}
use Rattle.algebra.proofs.Tests.{and_left, and_right}
use Rattle.model.specs.Fields.{field_tests, setting_tests}
use Rattle.model.specs.Sharing.{Sharing}
use Rattle.model.specs.Presence.{PermittedSet, permitted_set}
use Rattle.model.specs.Steps.{Setting, Row, Triple}
use Rattle.model.specs.Script.{Line, Script, accepted, refused, in_ranges, script_of}
use Rattle.model.specs.Sheet.{Header, header_of, largest_in, setting_with, setting_of, limits, implied_length, input_in, deal_in, all, mask_rows, triple_rows, deal_rows, secrets, spell, good_mask, good_triple, a_sharing, header_tests, present_tests, limit_tests, length_tests, row_tests, sheet_tests, sheet_number, Permitted}
use Rattle.model.specs.Run.{supply_of}
use Rattle.model.proofs.Fields.{fields}
use Rattle.model.proofs.Presence.{presence}
use Rattle.model.proofs.Lengths.{header_field, header_numbered, header_read}
use Rattle.model.proofs.Trying.{numbered, holding, all_hold, front_passes}
use Rattle.model.proofs.Sharings.{test_exact}
use Rattle.model.proofs.Bits.{bits_of, bits_spell}
use Rattle.model.proofs.Shared.{TripleOk, length_secrets, shareds_secrets}
use Rattle.model.proofs.Determined.{MaskOk}
use Rattle.model.proofs.Held.{Given}
use Rattle.model.proofs.SheetDeal.{shape_in}
use Rattle.model.proofs.Readings.{every_script}

pub all_each : {A : Type 0} (f : A → Bool) (xs : List A) → T (all f xs) → All (λ x. T (f x)) xs
unfolding all
all_each f [] t = none
all_each f (x ∷ xs) t = one (and_left (f x) (all f xs) t) (all_each f xs (and_right (f x) (all f xs) t))

pub all_map : {A : Type 0} {P Q : A → Type 0} → ((x : A) → P x → Q x) → {xs : List A} → All P xs → All Q xs
all_map k none = none
all_map k (one p ps) = one (k _ p) (all_map k ps)

pub all_left : {A : Type 0} {P : A → Type 0} (xs ys : List A) → All P (xs ++ ys) → All P xs
all_left [] ys ps = none
all_left (x ∷ xs) ys (one p ps) = one p (all_left xs ys ps)

pub all_right : {A : Type 0} {P : A → Type 0} (xs ys : List A) → All P (xs ++ ys) → All P ys
all_right [] ys ps = ps
all_right (x ∷ xs) ys (one p ps) = all_right xs ys ps

-- who is present decides nothing of secrets, masks and triples
module _ (S T : Setting) (ep : S.p ≡ T.p) (et : S.t ≡ T.t) where
  same_secrets : (xs : List Row) → secrets S xs ≡ secrets T xs
  unfolding secrets
  same_secrets [] = refl
  same_secrets (x ∷ xs) = rw (same_secrets xs, ep, et)

  pub same_mask : (m : List Row) → good_mask S m ≡ good_mask T m
  unfolding good_mask
  same_mask m = rw (same_secrets m, ep)

  pub same_triple : (x : Triple) → good_triple S x ≡ good_triple T x
  unfolding good_triple
  same_triple x = rw (ep, et)

pub same_masks : (b c : ℕ) (h : Header) {ms : List (List Row)} → All (λ m. T (good_mask (setting_with b h) m)) ms → All (λ m. T (good_mask (setting_with c h) m)) ms
same_masks b c h = all_map (λ m g. rw (same_mask (setting_with c h) (setting_with b h) refl refl m) g)

pub same_triples : (b c : ℕ) (h : Header) {xs : List Triple} → All (λ x. T (good_triple (setting_with b h) x)) xs → All (λ x. T (good_triple (setting_with c h) x)) xs
same_triples b c h = all_map (λ x g. rw (same_triple (setting_with c h) (setting_with b h) refl refl x) g)

-- the tests of a sheet, passed
pub record Sound (present : ℕ) (s : List ℕ) : Type 0 where
  pub permitted : Permitted (header_of s)
  pub permitted_set_lem : PermittedSet (header_of s).n (header_of s).t present
  pub size : length s ≡ implied_length (header_of s)
  pub sharings : All (Sharing (setting_of (header_of s)).p (header_of s).n (header_of s).t) (input_in (header_of s) s ++ deal_rows (deal_in (header_of s) s))
  pub masks : All (λ m. T (good_mask (setting_with present (header_of s)) m)) (deal_in (header_of s) s).masks
  pub triples : All (λ x. T (good_triple (setting_with present (header_of s)) x)) (deal_in (header_of s) s).triples

pub sound : (present : ℕ) (s : List ℕ) → sheet_number present s ≡ 0 → Sound present s
unfolding sheet_tests header_tests field_tests setting_tests present_tests limit_tests length_tests row_tests holding numbered
sound present s e =
    let h = header_of s in
    let S = setting_with present h in
    let d = deal_in h s in
    let rows = input_in h s ++ deal_rows d in
    record {
      permitted = permitted;
      permitted_set_lem = (presence.tested h.n h.t present).0 (and_left (permitted_set h.n h.t present) true (passed_at 12));
      size = eqb→eq (length s) (implied_length h) (and_left (eqb (length s) (implied_length h)) true (and_right (limits h) _ (passed_at 4)));
      sharings = all_map (λ x t. (test_exact (fields h.field permitted.field).modulus_is permitted.people x).0 t) (all_each (a_sharing S) rows (and_left (all (a_sharing S) rows) true (passed_at 6)));
      masks = all_each (good_mask S) d.masks (and_left (all (good_mask S) d.masks) true (passed_at 7));
      triples = all_each (good_triple S) d.triples (and_left (all (good_triple S) d.triples) true (passed_at 8));
    }
  where
    passed_at : (number : ℕ) → T (holding number (sheet_tests present s))
    passed_at number = all_hold number (sheet_tests present s) tt e

    permitted : Permitted (header_of s)
    permitted =
        let R = header_read s refl (front_passes (header_tests s) _ (header_numbered s) e) in
        record { field = R.field; people = R.people; counts = and_left (limits (header_of s)) _ (passed_at 4) }

-- masks and triples by their rows
mask_ok : (S : Setting) (m : List Row) → All (Sharing S.p S.n S.t) m → T (good_mask S m) → length m ≡ S.l → MaskOk S S.p m
unfolding good_mask
mask_ok S m r g l =
    let bits = (all_below_lem 2 (secrets S m)).0 (and_left (all_below 2 (secrets S m)) _ g) in
    let e : bits_of S.l (spell (secrets S m)) ≡ secrets S m =
    ap (λ (w : ℕ). bits_of w (spell (secrets S m))) (sym l ∙ sym (length_secrets S m)) ∙ bits_spell (secrets S m) bits in
    record {
      r = spell (secrets S m);
      small = ltb→lt (spell (secrets S m)) S.p (and_right (all_below 2 (secrets S m)) _ g);
      shareds = rw e (shareds_secrets r);
    }

pub masks_ok : (S : Setting) (ms : List (List Row)) → All (Sharing S.p S.n S.t) (mask_rows ms) → All (λ m. T (good_mask S m)) ms
    → ((m : List Row) → In m ms → length m ≡ S.l) → All (MaskOk S S.p) ms
unfolding mask_rows
masks_ok S [] r g l = none
masks_ok S (m ∷ ms) r (one g gs) l =
    one (mask_ok S m (all_left m (mask_rows ms) r) g (l m (here refl))) (masks_ok S ms (all_right m (mask_rows ms) r) gs (λ x i. l x (there i)))

pub triples_ok : (S : Setting) (xs : List Triple) → All (Sharing S.p S.n S.t) (triple_rows xs) → All (λ x. T (good_triple S x)) xs → All (TripleOk S) xs
unfolding triple_rows good_triple
triples_ok S [] r g = none
triples_ok S (x ∷ xs) (one a (one b (one c r))) (one g gs) =
    one (record { a_sharing_lem = a; b_sharing = b; c_sharing = c; good = eqb→eq _ _ g }) (triples_ok S xs r gs)

-- a sheet that is not refused gives its run what the run is worked with
pub given : (present : ℕ) (s : List ℕ) → Sound present s → (log shown : ℕ)
    → Given (setting_with present (header_of s)) (largest_in (header_of s)) (supply_of (header_of s) log shown) (input_in (header_of s) s) (deal_in (header_of s) s)
given present s Q log shown =
    let h = header_of s in
    let d = deal_in h s in
    let A = shape_in h s in
    let rows = all_right (input_in h s) (deal_rows d) Q.sharings in
    record {
      field = header_field h Q.permitted.field;
      parties = Q.permitted.people;
      inputs_ok = all_left (input_in h s) (deal_rows d) Q.sharings;
      inputs_many = A.inputs;
      formed =
          record {
            masks_ok = masks_ok (setting_with present h) d.masks (all_left (mask_rows d.masks) (triple_rows d.triples) rows) Q.masks A.each;
            masks_many = A.masks;
            triples_ok = triples_ok (setting_with present h) d.triples (all_right (mask_rows d.masks) (triple_rows d.triples) rows) Q.triples;
            triples_many = A.triples;
          };
    }

-- a line's command is in range
abbrev pub InRange : ℕ → ℕ → Line → Type 0
InRange p K x = T (in_ranges p K x.command)

-- the commands of an accepted script are in range
LinesOk : ℕ → ℕ → Script → Type 0
LinesOk p K (accepted xs end) = All (InRange p K) xs
LinesOk p K (refused number place) = Unit {0}

pub lines_ok : (p K : ℕ) (s : List ℕ) (xs : List Line) (end : ℕ) → script_of p K s ≡ accepted xs end → All (InRange p K) xs
unfolding script_of LinesOk
lines_ok p K s xs end e =
    subst (LinesOk p K) e
    (every_script p K s (λ i. LinesOk p K) (record { ended = λ i S. none; line = λ i next c S xs end k. one S.in_range_lem k; refuses = λ i number place h. tt }) (suc (length s)) 0)
