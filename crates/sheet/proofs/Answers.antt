-- What `checked_numbers`, `read_header`, `read_run_header` and `read_sheet` answer, by the tests of header, limits, length and rows.
-- Assumes nothing.
use mathlib.Core.Path.{◌≡◌, refl, sym, ap, subst, ◌∙◌}
use mathlib.Core.Bool.{Bool, true, false}
use borrow.Author.Tests.{lt-leb, le-leb}
use mathlib.Core.List.{List, ◌++◌, append_assoc}
use Prim.Native.Nat.{ℕ, ◌+◌, ◌*◌, ◌≤◌, ◌<◌}
use native.Mathlib.Omega.{arith}
use lib.Dec.{T, eqb, eqb→eq}
use lib.ListN.{length}
use Rattle.algebra.proofs.Tests.{and_left, is_true}
use Rattle.model.specs.Fields.{Parties, field_tests, setting_tests}
use Rattle.model.specs.Presence.{PermittedSet, permitted_set}
use Rattle.model.specs.Refusing.{first_failed}
use Rattle.model.specs.Sheet.{Header, header_of, header_size, setting_with, limits, implied_length, input_in, deal_in, deal_rows, rows_at, all, header_tests, present_tests, limit_tests, length_tests, row_tests, sheet_tests, Permitted}
use Rattle.model.proofs.Presence.{presence}
use Rattle.model.proofs.Lengths.{header_numbered, header_read}
use Rattle.model.proofs.Trying.{numbered, holding, all_hold, front_passes, passes, fails, nothing_left, first_decide, others_decide, told}
use Rattle.model.specs.Deal.{Setting, Row, Deal}
use Rattle.presence.specs.Openings.{WorkedBy}
use Rattle.sharing.specs.Settings.{Fitting}
use Rattle.sheet.specs.Framed.{setting_from, setting_in, inputs_of, deal_of, Headed, Presented, RunHeaded, Whole, RunFramed}
use Rattle.refusals.specs.Numbers.{number_of}
use Rattle.refusals.specs.declared.Refusal.{Refusal}
use Rattle.refusals.proofs.Numbers.{numbered as no_refusal}
use Rattle.sheet.specs.Reading.{run_tests}
use Rattle.sheet.proofs.Headers.{end_is, rows_are, setting_is, inputs_are, deal_is, modulus_in, bits_in}
use Rattle.sheet.specs.declared.frame.Frame.{Frame}

-- what refuses in the first tests, and the others where none does
pub refused_first : (xs ys : List (Bool × ℕ)) (r : Refusal) → number_of r ≡ first_failed xs → number_of r ≡ first_failed (xs ++ ys)
refused_first xs ys r e = first_decide xs ys e (λ z. omega (arith, no_refusal r))

pub passed_first : (xs ys : List (Bool × ℕ)) → T (numbered xs) → 0 ≡ first_failed xs → {n : ℕ} → n ≡ first_failed ys → n ≡ first_failed (xs ++ ys)
passed_first xs ys t e k = others_decide xs ys t e refl k

-- 1, and then 2 and 3 of a header that was read
pub too_short : (s : List ℕ) → length s < 11 → 1 ≡ first_failed (header_tests s)
unfolding header_tests header_size
too_short s h = fails 1 _ (lt-leb 11 (length s) h)

pub setting_read : (s : List ℕ) {h : Header} {r : ℕ} → 11 ≤ length s → h ≡ header_of s → r ≡ first_failed (setting_tests h.field h.n h.t) → r ≡ first_failed (header_tests s)
unfolding header_tests header_size
setting_read s l q e = passes 1 _ (le-leb 11 (length s) l) (e ∙ ap (λ (h : Header). first_failed (setting_tests h.field h.n h.t)) q)

-- where 1, 2 and 3 do not refuse
module _ (s : List ℕ) (e : 0 ≡ first_failed (header_tests s)) where
  pub header_long : header_size (header_of s) ≤ length s
  header_long = (header_read s e refl).long

  module _ {h : Header} (q : h ≡ header_of s) where
    pub people_read : Parties h.n h.t
    people_read = rw q (header_read s e refl).people

    pub header_permitted : true ≡ limits h → Permitted h
    header_permitted l = let R = header_read s e refl in record { field = rw q R.field; people = rw q R.people; counts = rw (← l) tt }

    pub within_limits : true ≡ limits h → 0 ≡ first_failed (limit_tests (header_of s))
    unfolding limit_tests
    within_limits l = passes 4 _ (rw q at (sym l)) nothing_left

    pub over_limits : false ≡ limits h → 4 ≡ first_failed (limit_tests (header_of s))
    unfolding limit_tests
    over_limits l = fails 4 _ (rw q at (sym l))

    -- who is present, and then the limits
    module _ (present : ℕ) where
      set_decides : {r : ℕ} → r ≡ first_failed (present_tests (header_of s) present ++ limit_tests (header_of s)) → r ≡ first_failed (run_tests present s)
      set_decides k = passed_first (header_tests s) _ (header_numbered s) e k

      pub set_refused : false ≡ permitted_set h.n h.t present → 12 ≡ first_failed (present_tests (header_of s) present ++ limit_tests (header_of s))
      unfolding present_tests
      set_refused m = fails 12 _ (rw q at (sym m))

      module _ (m : true ≡ permitted_set h.n h.t present) where
        pub set_permitted : PermittedSet h.n h.t present
        set_permitted = (presence.tested h.n h.t present).0 (rw (← m) tt)

        pub set_passes : {n : ℕ} → n ≡ first_failed (limit_tests (header_of s)) → n ≡ first_failed (present_tests (header_of s) present ++ limit_tests (header_of s))
        unfolding present_tests
        set_passes k = passes 12 _ (rw q at (sym m)) k

        pub within_limits_run : true ≡ limits h → 0 ≡ first_failed (run_tests present s)
        within_limits_run l = set_decides (set_passes (within_limits l))

        pub over_limits_run : false ≡ limits h → 4 ≡ first_failed (run_tests present s)
        over_limits_run l = set_decides (set_passes (over_limits l))

-- a frame of the header that was read
pub headed_read : (s : List ℕ) {h : Header} {f : Frame} → h ≡ header_of s → Headed h f → Headed (header_of s) f
headed_read s {f = f} q H = subst (λ (h : Header). Headed h f) q H

pub run_headed_read : (present : ℕ) (s : List ℕ) {h : Header} {f : Frame} → h ≡ header_of s → Headed h f × Presented present f → RunHeaded present (header_of s) f
run_headed_read present s q H = (headed_read s q H.0, H.1)

-- what is asked of a setting
pub setting_fits : {h : Header} {f : Frame} → Headed h f → WorkedBy f.p f.n f.t f.opening → Fitting (setting_from f)
setting_fits H O = record { modulus = modulus_in H; parties = H.parties.most; threshold = omega (arith, H.parties); bits = bits_in H; opens = O }

-- a test over all rows, by a frame
module _ {h : Header} {f : Frame} (H : Headed h f) (s : List ℕ) where
  pub rows_told : (g : Row → Bool) (count : ℕ) {a b : Bool} → count ≡ f.inputs + f.l * f.masks + 3 * f.triples
      → a ≡ all g (rows_at s f.n f.input count) → a ≡ b → all g (inputs_of s f ++ deal_rows (deal_of s f)) ≡ b
  rows_told g count k e q = rw (rows_are H s) (told (rw k at e) q)

-- a sheet of the length that its header implies
pub whole : (s : List ℕ) {f : Frame} {a : Bool} → Headed (header_of s) f → a ≡ eqb (length s) (implied_length (header_of s)) → a ≡ true → Whole s f
whole s H e t = eqb→eq (length s) (implied_length (header_of s)) (rw (told e t) tt) ∙ sym (end_is H)

-- the rows stand within a sheet
pub rows_within : (s : List ℕ) {f : Frame} {count : ℕ} → Headed (header_of s) f → Whole s f → count ≡ f.inputs + f.l * f.masks + 3 * f.triples
    → f.input + 4 * f.n * count ≤ length s
rows_within s H W k = rw k (omega (arith, W, H))

-- the header's tests, as the column form tries them
module _ (s : List ℕ) where
  abbrev pub header : List (Bool × ℕ)
  header = header_tests s ++ limit_tests (header_of s)

  pub header_tests_numbered : T (numbered header)
  unfolding field_tests setting_tests header_tests limit_tests numbered
  header_tests_numbered = tt

  pub long_read : 0 ≡ first_failed header → header_size (header_of s) ≤ length s
  long_read e = header_long s (sym (front_passes (header_tests s) _ (header_numbered s) (sym e)))

-- The answers of a whole sheet with these parties present, by those of its header and of its body.
module _ (present : ℕ) (s : List ℕ) where
  abbrev body : Setting → List Row → Deal → List (Bool × ℕ)
  body S input d = length_tests (header_of s) s ++ row_tests S input d

  pub run_numbered : T (numbered (run_tests present s))
  unfolding field_tests setting_tests header_tests present_tests limit_tests numbered
  run_numbered = tt

  all_tests : sheet_tests present s ≡ run_tests present s ++ body (setting_with present (header_of s)) (input_in (header_of s) s) (deal_in (header_of s) s)
  unfolding sheet_tests
  all_tests =
      let h = header_of s in
      let rest = body (setting_with present h) (input_in h s) (deal_in h s) in
      sym (append_assoc (header_tests s) (present_tests h present ++ limit_tests h) rest
      ∙ ap (λ (x : List (Bool × ℕ)). header_tests s ++ x) (append_assoc (present_tests h present) (limit_tests h) rest))

  pub header_refuses : (r : Refusal) → number_of r ≡ first_failed (run_tests present s) → number_of r ≡ first_failed (sheet_tests present s)
  header_refuses r e = rw all_tests (refused_first (run_tests present s) _ r e)

  module _ (e : 0 ≡ first_failed (run_tests present s)) {f : Frame} (H : RunHeaded present (header_of s) f) where
    pub body_decides : {n : ℕ} → n ≡ first_failed (body (setting_in f) (inputs_of s f) (deal_of s f)) → n ≡ first_failed (sheet_tests present s)
    body_decides k =
        rw (all_tests, setting_is H.0 H.1.present_is, inputs_are H.0 s, deal_is H.0 s)
        (passed_first (run_tests present s) (body (setting_in f) (inputs_of s f) (deal_of s f)) run_numbered e k)

    pub whole_read : 0 ≡ first_failed (body (setting_in f) (inputs_of s f) (deal_of s f)) → RunFramed present s f
    unfolding length_tests row_tests numbered holding
    whole_read k =
        let t = all_hold 4 (body (setting_in f) (inputs_of s f) (deal_of s f)) tt (sym k) in
        let P = H.1 in (
          record {
            headed = H.0;
            presented = record { present_is = refl; permitted = rw P.present_is P.permitted; opens = P.opens };
            whole = whole s H.0 refl (is_true _ (and_left (eqb (length s) (implied_length (header_of s))) true t));
          },
          P.present_is,
        )
