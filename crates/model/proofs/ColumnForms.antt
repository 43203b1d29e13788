-- The statements of specs/ColumnForms: the two forms undo each other, and what the entries answer and leave.
-- Assumes nothing.
use mathlib.Core.Path.{◌≡◌, refl, sym, ap, ap₂, subst, ◌∙◌}
use mathlib.Core.Bool.{Bool, true}
use mathlib.Core.Logic.{◌↔◌, ◌≢◌}
use mathlib.Core.List.{List, [], ◌∷◌, ◌++◌, append_assoc}
use Prim.Native.Nat.{ℕ, zero, suc, ◌+◌, ◌*◌, ◌-◌, ◌≤◌, ◌<◌}
use native.Mathlib.Omega.{arith}
use borrow.Author.Tests.{le-leb, lt-leb}
use lib.Dec.{T, leb, leb→le, eqb, eqb→eq}
use lib.ListN.{length, take, drop}
use lib.Seq.{take_at, drop_at, take-take, get_or-take}
use Rattle.algebra.specs.Lists.{none, one, onto}
use Rattle.algebra.proofs.Tests.{and_left}
use Rattle.model.specs.Fields.{field_tests, setting_tests}
use Rattle.model.specs.Refusing.{first_failed, given}
use Rattle.model.specs.Presence.{everyone}
use Rattle.model.specs.Sheet.{Header, header_of, header_size, setting_of, inputs_at, implied_length, row_count, input_in, deal_in, header_tests, limit_tests, length_tests, row_tests, sheet_number}
use Rattle.model.specs.Columns.{transposed, column_form, sheet_form, part_length, shape_tests, output_tests, turn_tests, turn_number, output_left}
use Rattle.model.specs.ColumnForms.{IsColumnForm, Shaped, Forms, InParts, TurnNumbers, Leaves, ColumnForms}
use Rattle.model.proofs.Trying.{given_done, given_refused, numbered, holding, up_to, appended, failed_in, number_most, first_decide, others_decide, all_hold, front_passes, others_pass}
use Rattle.model.proofs.Lengths.{header_numbered, header_read}
use Rattle.model.proofs.PresentTests.{later, without_set, everyone_permitted}
use Rattle.model.proofs.SheetDeal.{implied}
use Rattle.model.proofs.Transposing.{Transposes, transposes, transposes_back, transposed_is, undone}
use Rattle.model.proofs.ColumnParts.{number_front, one_less, parts}

-- the header is in a list's first bytes
header_front : (s : List ℕ) → header_of (take 11 s) ≡ header_of s
unfolding header_of
header_front s =
    λ k. record {
      field = get_or-take 11 s 0 0 (omega arith) k;
      n = get_or-take 11 s 1 0 (omega arith) k;
      t = get_or-take 11 s 2 0 (omega arith) k;
      inputs = number_front 2 11 3 s (omega arith) k;
      masks = number_front 2 11 5 s (omega arith) k;
      triples = number_front 2 11 7 s (omega arith) k;
      script = number_front 2 11 9 s (omega arith) k;
    }

same_header : (s s' : List ℕ) → take (header_size (header_of s)) s ≡ take (header_size (header_of s)) s' → header_of s ≡ header_of s'
unfolding header_size
same_header s s' e = sym (header_front s) ∙ ap header_of e ∙ header_front s'

-- so it is the same where header and script are
pub head_header : (s s' : List ℕ) → take (inputs_at (header_of s)) s ≡ take (inputs_at (header_of s)) s' → header_of s ≡ header_of s'
head_header s s' e =
    let h = header_of s in
    let k = header_size h in
    same_header s s' (sym (take-take k (inputs_at h) s (omega arith)) ∙ ap (take k) e ∙ take-take k (inputs_at h) s' (omega arith))

-- the tests, by what they look at: the header and two lengths
tests_by : Header → ℕ → List (Bool × ℕ)
tests_by h long = (leb (header_size h) long, 1) ∷ setting_tests h.field h.n h.t ++ (limit_tests h ++ ((eqb long (implied_length h), 4) ∷ []))

tests_are : (s : List ℕ) → shape_tests s ≡ tests_by (header_of s) (length s)
unfolding shape_tests header_tests length_tests tests_by
tests_are s = refl

same_tests : (s s' : List ℕ) → header_of s ≡ header_of s' → length s ≡ length s' → shape_tests s ≡ shape_tests s'
same_tests s s' e l = tests_are s ∙ ap₂ tests_by e l ∙ sym (tests_are s')

shape_numbered : (s : List ℕ) → T (numbered (shape_tests s))
unfolding field_tests setting_tests header_tests limit_tests length_tests shape_tests numbered
shape_numbered s = tt

-- where 1 to 4 do not refuse, there is a party
some_party : (s : List ℕ) → Shaped s → 1 ≤ (header_of s).n
unfolding shape_tests
some_party s w = let R = header_read s refl (front_passes (header_tests s) _ (header_numbered s) w) in omega (arith, R.people.least)

-- and the length is the header's: header and script, and n shares for each row
pub shaped_length : (s : List ℕ) → Shaped s → length s ≡ inputs_at (header_of s) + 4 * (header_of s).n * row_count (header_of s)
unfolding shape_tests limit_tests length_tests numbered holding
shaped_length s w =
    let h = header_of s in
    let counts = others_pass (header_tests s) (limit_tests h ++ length_tests h s) (header_numbered s) w in
    let long = others_pass (limit_tests h) (length_tests h s) tt counts in
    eqb→eq (length s) (implied_length h) (and_left (eqb (length s) (implied_length h)) true (all_hold 4 (length_tests h s) tt long)) ∙ implied h

-- shares at the places of specs/ColumnForms, and at those of Transposing
module _ (h : Header) (i k : ℕ) where
  place : inputs_at h + 4 * (row_count h * k + i) ≡ inputs_at h + k * part_length h + 4 * i
  place = omega arith

transposed_form : (s c : List ℕ) → Transposes (inputs_at (header_of s)) (row_count (header_of s)) (header_of s).n s c → IsColumnForm s c
transposed_form s c t =
    record {
      same_length = t.same_length;
      head = t.head;
      shares = λ i j l a b. rw (place (header_of s) i (j - 1)) at (t.shares i (j - 1) l (omega arith));
    }

form_transposed : (s c : List ℕ) → IsColumnForm s c → Transposes (inputs_at (header_of s)) (row_count (header_of s)) (header_of s).n s c
form_transposed s c C =
    record {
      same_length = C.same_length;
      head = C.head;
      shares = λ i k l b. rw (one_less k, ← place (header_of s) i k) at (C.shares i (suc k) l (omega arith) b);
    }

module _ (s : List ℕ) (w : Shaped s) where
  abbrev h : Header
  h = header_of s

  back_length : length s ≡ inputs_at h + 4 * row_count h * h.n
  back_length = omega (arith, shaped_length s w)

  over : Transposes (inputs_at h) (row_count h) h.n s (column_form s)
  unfolding column_form
  over = transposes s (inputs_at h) (row_count h) h.n (shaped_length s w)

  back : Transposes (inputs_at h) h.n (row_count h) s (sheet_form s)
  unfolding sheet_form
  back = transposes s (inputs_at h) h.n (row_count h) back_length

  columns_header : header_of (column_form s) ≡ h
  columns_header = sym (head_header s (column_form s) (sym over.head))

  sheet_header : header_of (sheet_form s) ≡ h
  sheet_header = sym (head_header s (sheet_form s) (sym back.head))

  still_shaped : (x : List ℕ) → header_of x ≡ h → length x ≡ length s → Shaped x
  still_shaped x e l = ap first_failed (same_tests x s e l) ∙ w

  columns_one : (c : List ℕ) → IsColumnForm s c ↔ (c ≡ column_form s)
  unfolding column_form
  columns_one c = (
    λ C. transposed_is s (inputs_at h) (row_count h) h.n (shaped_length s w) c (form_transposed s c C),
    λ e. subst (IsColumnForm s) (sym e) (transposed_form s (column_form s) over),
  )

  -- transposed by the header of the sheet, or by that of the column form
  abbrev TransposesBy : List ℕ → Header → Type 0
  TransposesBy x z = Transposes (inputs_at z) (row_count z) z.n x s

  sheet_one : (x : List ℕ) → IsColumnForm x s ↔ (x ≡ sheet_form s)
  unfolding sheet_form
  sheet_one x = (
    λ C. transposed_is s (inputs_at h) h.n (row_count h) back_length x
        (transposes_back (subst (TransposesBy x) (head_header x s (sym C.head)) (form_transposed x s C))),
    λ e. subst (λ (z : List ℕ). IsColumnForm z s) (sym e)
        (transposed_form (sheet_form s) s (subst (TransposesBy (sheet_form s)) (sym sheet_header) (transposes_back back))),
  )

  over_and_back : sheet_form (column_form s) ≡ s
  unfolding sheet_form column_form
  over_and_back =
      ap (λ (z : Header). transposed (column_form s) (inputs_at z) z.n (row_count z)) columns_header
      ∙ undone s (inputs_at h) (row_count h) h.n (shaped_length s w)

  back_and_over : column_form (sheet_form s) ≡ s
  unfolding sheet_form column_form
  back_and_over =
      ap (λ (z : Header). transposed (sheet_form s) (inputs_at z) (row_count z) z.n) sheet_header
      ∙ undone s (inputs_at h) h.n (row_count h) back_length

  columns_shaped : Shaped (column_form s)
  columns_shaped = still_shaped (column_form s) columns_header over.same_length

  sheet_shaped : Shaped (sheet_form s)
  sheet_shaped = still_shaped (sheet_form s) sheet_header back.same_length

  forms : Forms s
  forms =
      record {
        columns = columns_one;
        sheet = sheet_one;
        columns_shaped = columns_shaped;
        sheet_shaped = sheet_shaped;
        columns_header = columns_header;
        sheet_header = sheet_header;
        over_and_back = over_and_back;
        back_and_over = back_and_over;
      }

  in_parts : (c : List ℕ) → IsColumnForm s c → InParts s c
  in_parts c C =
      let l = C.same_length in
      parts s c C (some_party s w) (omega (arith, shaped_length s w))

module _ (s out : List ℕ) where
  -- a sheet's other tests have numbers above 4
  rows_past : (S : _) (input : _) (d : _) → first_failed (row_tests S input d) ≤ 4 → 0 ≡ first_failed (row_tests S input d)
  unfolding row_tests
  rows_past S input d =
      failed_in (λ k. k ≤ 4 → 0 ≡ k) (λ l. refl)
      (one (λ l. absurd (omega arith)) (one (λ l. absurd (omega arith)) (one (λ l. absurd (omega arith)) (one (λ l. absurd (omega arith)) none))))

  abbrev rest : List (Bool × ℕ)
  rest = row_tests (setting_of (header_of s)) (input_in (header_of s) s) (deal_in (header_of s) s)

  abbrev all : ℕ
  all = everyone (header_of s).n

  sheet_number_lem : sheet_number all s ≡ given (first_failed (shape_tests s)) (first_failed rest) (first_failed (shape_tests s))
  unfolding shape_tests
  sheet_number_lem =
      let h = header_of s in
      without_set all s (everyone_permitted s)
      ∙ sym (appended (header_tests s) (later all s) (header_numbered s))
      ∙ ap first_failed (sym (append_assoc (header_tests s) (limit_tests h ++ length_tests h s) rest
      ∙ ap (λ (x : List (Bool × ℕ)). header_tests s ++ x) (append_assoc (limit_tests h) (length_tests h s) rest)))
      ∙ appended (shape_tests s) rest (shape_numbered s)

  shape_most : first_failed (shape_tests s) ≤ 4
  unfolding field_tests setting_tests header_tests limit_tests length_tests shape_tests up_to
  shape_most = number_most 4 (shape_tests s) tt

  as_sheet_lem : sheet_number all s ≤ 4 → first_failed (shape_tests s) ≡ sheet_number all s
  as_sheet_lem = go (first_failed (shape_tests s)) sheet_number_lem
    where
      go : (n : ℕ) {r : ℕ} → r ≡ given n (first_failed rest) n → r ≤ 4 → n ≡ r
      go zero e l = rows_past _ _ _ (subst (λ (z : ℕ). z ≤ 4) e l) ∙ sym e
      go (suc n) e l = sym e

  rows_refused : 5 ≤ sheet_number all s → sheet_number all s ≤ 8 → Shaped s
  rows_refused = go (first_failed (shape_tests s)) sheet_number_lem shape_most
    where
      go : (n : ℕ) {r : ℕ} → r ≡ given n (first_failed rest) n → n ≤ 4 → 5 ≤ r → r ≤ 8 → n ≡ 0
      go zero e m l k = refl
      go (suc n) e m l k = absurd (omega arith)

  short : Shaped s → length out < length s → turn_number s out ≡ 15
  unfolding output_tests turn_tests first_failed
  short w l = sym (others_decide (shape_tests s) _ (shape_numbered s) (sym w) refl (rw (lt-leb (length s) (length out) l)))

  done : Shaped s → length s ≤ length out → turn_number s out ≡ 0
  unfolding output_tests turn_tests first_failed
  done w l = sym (others_decide (shape_tests s) _ (shape_numbered s) (sym w) refl (rw (le-leb (length s) (length out) l)))

  first : first_failed (shape_tests s) ≢ 0 → turn_number s out ≡ first_failed (shape_tests s)
  unfolding turn_tests
  first z = sym (first_decide (shape_tests s) _ refl z)

  looked_at : (s' out' : List ℕ) → take (header_size (header_of s)) s ≡ take (header_size (header_of s)) s' → length s ≡ length s'
      → length out ≡ length out' → turn_number s out ≡ turn_number s' out'
  unfolding output_tests turn_tests
  looked_at s' out' e l k =
      ap first_failed (ap₂ {C = List (Bool × ℕ)} ◌++◌ (same_tests s s' (same_header s s' e) l) (ap₂ (λ (a b : ℕ). (leb a b, 15) ∷ []) l k))

  numbers : TurnNumbers s out
  numbers = record { as_sheet_lem = as_sheet_lem; rows_refused = rows_refused; first = first; short = short; done = done; looked_at = looked_at }

  -- where nothing refuses
  not_refused : turn_number s out ≡ 0 → Shaped s × (length s ≤ length out)
  unfolding output_tests turn_tests numbered holding
  not_refused z =
      let room = output_tests s (length out) in
      let fits = others_pass (shape_tests s) room (shape_numbered s) z in
      (front_passes (shape_tests s) room (shape_numbered s) z, leb→le (length s) (length out) (and_left (leb (length s) (length out)) true (all_hold 15 room tt fits)))

-- a form that is as long as its input, is not refused with 1 to 4, and of which the other gives the input again
record Undone (form other : List ℕ → List ℕ) : Type 0 where
  same_length : (s : List ℕ) → Shaped s → length (form s) ≡ length s
  shaped : (s : List ℕ) → Shaped s → Shaped (form s)
  undone_by : (s : List ℕ) → Shaped s → other (form s) ≡ s

module _ {form other : List ℕ → List ℕ} (F : Undone form other) (s out : List ℕ) where
  made : turn_number s out ≡ 0 → take (length s) (output_left form s out) ≡ form s
  unfolding output_left onto
  made z = ap (take (length s)) (given_done (turn_number s out) _ out z) ∙ take_at (form s) _ (length s) (F.same_length s (not_refused s out z).0)

  tail : turn_number s out ≡ 0 → drop (length s) (output_left form s out) ≡ drop (length s) out
  unfolding output_left onto
  tail z =
      let l = F.same_length s (not_refused s out z).0 in
      ap (drop (length s)) (given_done (turn_number s out) _ out z) ∙ drop_at (form s) _ (length s) l ∙ ap (λ (k : ℕ). drop k out) l

  again : Shaped s → (back : List ℕ) → length s ≤ length back → (turn_number (form s) back ≡ 0) × (output_left other (form s) back ≡ onto s back)
  unfolding output_left
  again w back l =
      let z = done (form s) back (F.shaped s w) (omega (arith, F.same_length s w)) in
      (z, given_done _ _ _ z ∙ ap (λ (x : List ℕ). onto x back) (F.undone_by s w))

  leaves : Leaves form other s out
  unfolding output_left
  leaves =
      record {
        made = made;
        tail = tail;
        refused = λ z. given_refused _ _ _ z;
        undone = λ z back l. rw (made z) (again (not_refused s out z).0 back l);
      }

columns_undone : Undone column_form sheet_form
columns_undone = record { same_length = λ s w. (over s w).same_length; shaped = columns_shaped; undone_by = over_and_back }

sheet_undone : Undone sheet_form column_form
sheet_undone = record { same_length = λ s w. (back s w).same_length; shaped = sheet_shaped; undone_by = back_and_over }

pub every_form : ColumnForms
every_form = record { forms = forms; parts = in_parts; numbers = numbers; to_columns = leaves columns_undone; to_sheet = leaves sheet_undone }
