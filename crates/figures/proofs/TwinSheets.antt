-- The two sheets compute; and two sheets that reveal their inputs have no map of deals.
-- Assumes nothing.
use mathlib.Core.Path.{◌≡◌, refl, sym, ap, ◌∙◌}
use mathlib.Core.List.Memᴰ
use mathlib.Core.List.{List, [], ◌∷◌}
use Prim.Native.Nat.{ℕ}
use native.Mathlib.Omega.{arith}
use lib.ListN.{length, get_or}
use Rattle.algebra.specs.Ring.{add, sub, mul}
use Rattle.algebra.specs.Lists.{all_below, from, onto, none, same_list}
use Rattle.algebra.specs.Rows.{tab, row}
use Rattle.model.specs.Presence.{bit, present_in, absent_in, everyone, permitted_set, openers}
use Rattle.model.specs.Fields.{modulus, bits, largest_k, in_use, inverse, inverse_power_of_2, parties, field_tests, setting_tests}
use Rattle.model.specs.Refusing.{first_failed}
use Rattle.model.specs.Sharing.{eval, share, newton, reciprocal, slope, interpolate, recover, secret, value_from, is_sharing}
use Rattle.model.specs.Shamir.{Agree}
use Rattle.model.specs.Bytes.{number, row_at}
use Rattle.model.specs.Trees.{spelled, comparison_from, comparison, remainder, floor}
use Rattle.model.specs.Steps.{Deal, plus, minus, times, constant, value, recorded, by_rows}
use Rattle.model.specs.Script.{LOAD, REVEAL, byte_says, all_pass, number_at, reading_at, script_from, script_of}
use Rattle.model.specs.Costs.{cost_by}
use Rattle.model.specs.Sheet.{header_of, header_size, mask_bits, largest_in, limits, implied_length, script_in, rows_at, masks_from, triples_from, input_in, deal_in, all, mask_rows, triple_rows, spell, secrets, good_mask, good_triple, header_tests, present_tests, limit_tests, length_tests, row_tests, sheet_tests, sheet_number, bytes_of, share_bytes, row_bytes, header_bytes, sheet_of}
use Rattle.model.specs.Commands.{command, through_lines}
use Rattle.model.specs.Run.{all_set, marked, check, pay, run_lines, nothing_spent, start, written, outcome, run_script, stop_of, run}
use Rattle.figures.specs.Witness.{line}
use Rattle.model.specs.Secrecy.{end, row as and-row, WellFormed, Twins, revealed_by, run_on}
use Rattle.figures.specs.TwinSheets.{sheet, shared_one, shared_three, lines, plain, NotEmptyWith, NotEmpty, TooMuch}
use Rattle.figures.proofs.Examples.{one_party}

-- party 2's shares are the same
agree : Agree (2 ∷ []) shared_one shared_three
unfolding row tab
agree = record { same = λ z m. rw (Memᴰ.eq_of_singleton m) }

-- What does not depend on who is present is computed once.
with_byte : {b : ℕ} → sheet_number b (sheet shared_one) ≡ 0 → sheet_number b (sheet shared_three) ≡ 0
    → revealed_by b (sheet shared_one) 63 1 ≡ revealed_by b (sheet shared_three) 63 1 → revealed_by b (sheet shared_one) 63 1 ≡ 1 ∷ []
    → (stop_of b (sheet shared_one) 63 1).number ≡ 0 → (stop_of b (sheet shared_three) 63 1).number ≡ 0
    → (stop_of b (sheet shared_one) 62 1).number ≡ 25 → (stop_of b (sheet shared_three) 62 1).number ≡ 25
    → revealed_by b (sheet shared_one) 62 1 ≡ revealed_by b (sheet shared_three) 62 1 → NotEmptyWith b
unfolding add sub mul all_below from tab row modulus bits largest_k in_use field_tests setting_tests inverse inverse_power_of_2 parties eval share newton reciprocal slope interpolate recover secret same_list is_sharing number row_at plus minus times constant value bit present_in absent_in everyone openers value_from by_rows comparison_from comparison spelled remainder floor byte_says all_pass number_at reading_at script_from script_of cost_by header_of header_size mask_bits largest_in limits implied_length script_in rows_at masks_from triples_from input_in deal_in all mask_rows triple_rows spell secrets good_mask good_triple first_failed header_tests limit_tests length_tests row_tests sheet_tests bytes_of share_bytes row_bytes header_bytes sheet_of all_set marked check pay command through_lines run_lines nothing_spent start run_script stop_of sheet lines permitted_set present_tests
with_byte n n' v r e e' f f' v' =
    record {
      twins =
          record {
            first = record { lines = lines; end = 18; number = n; script = refl };
            second = record { lines = lines; end = 18; number = n'; script = refl };
            header = refl;
            script = refl;
            parties = one_party 2 (omega arith) (omega arith);
            inputs = and-row agree end;
          };
      revealed = v;
      reveals = r;
      first_ends = e;
      second_ends = e';
      first_refused = f;
      second_refused = f';
      refused_revealed = v';
      first_secret = refl;
      second_secret = refl;
    }

pub not_empty : NotEmpty
unfolding add sub mul all_below from tab row modulus bits largest_k in_use field_tests setting_tests inverse inverse_power_of_2 parties eval share newton reciprocal slope interpolate recover secret same_list is_sharing number row_at plus minus times constant value bit present_in absent_in everyone openers value_from by_rows comparison_from comparison spelled remainder floor byte_says all_pass number_at reading_at script_from script_of cost_by header_of header_size mask_bits largest_in limits implied_length script_in rows_at masks_from triples_from input_in deal_in all mask_rows triple_rows spell secrets good_mask good_triple first_failed header_tests limit_tests length_tests row_tests sheet_tests bytes_of share_bytes row_bytes header_bytes sheet_of all_set marked check pay command through_lines run_lines nothing_spent start run_script stop_of sheet lines permitted_set present_tests
not_empty =
    record {
      all_present = with_byte refl refl refl refl refl refl refl refl refl;
      one_absent = with_byte refl refl refl refl refl refl refl refl refl;
      set_absent = with_byte refl refl refl refl refl refl refl refl refl;
    }

-- the deal of nothing, and that a deal of no masks and no triples is it
nothing : Deal
nothing = record { masks = []; triples = [] }

is_nil : {A : Type 0} (xs : List A) → length xs ≡ 0 → xs ≡ []
is_nil [] e = refl
is_nil (x ∷ xs) e = absurd (omega arith)

is_nothing : (d : Deal) → length d.masks ≡ 0 → length d.triples ≡ 0 → d ≡ nothing
unfolding nothing
is_nothing d a b = λ i. record { masks = is_nil d.masks a i; triples = is_nil d.triples b i }

formed : WellFormed (header_of (plain shared_one)) nothing
unfolding nothing header_of plain sheet_of header_bytes bytes_of number row_bytes share_bytes row tab mask_rows triple_rows
formed = record { masks = refl; bits_each = none; triples = refl; sharings = none; good_masks = none; good_triples = none }

twins : Twins (everyone 3) (2 ∷ []) (plain shared_one) (plain shared_three)
unfolding add sub mul all_below from tab row modulus bits largest_k in_use field_tests setting_tests inverse parties eval share newton reciprocal slope interpolate recover secret same_list is_sharing number row_at byte_says all_pass number_at reading_at script_from script_of header_of header_size mask_bits largest_in limits implied_length script_in rows_at masks_from triples_from input_in deal_in all mask_rows triple_rows bytes_of share_bytes row_bytes header_bytes sheet_of plain first_failed header_tests limit_tests length_tests row_tests sheet_tests bit present_in everyone permitted_set present_tests
twins =
    record {
      first = record { lines = line 0 (LOAD 0) ∷ line 2 (REVEAL 0) ∷ []; end = 4; number = refl; script = refl };
      second = record { lines = line 0 (LOAD 0) ∷ line 2 (REVEAL 0) ∷ []; end = 4; number = refl; script = refl };
      header = refl;
      script = refl;
      parties = one_party 2 (omega arith) (omega arith);
      inputs = and-row agree end;
    }

-- what each input reveals on that deal
reveals : ((run_on (everyone 3) (plain shared_one) nothing (0 ∷ 0 ∷ 0 ∷ []) (0 ∷ [])).revealed ≡ 1 ∷ [])
    × ((run_on (everyone 3) (plain shared_three) nothing (0 ∷ 0 ∷ 0 ∷ []) (0 ∷ [])).revealed ≡ 3 ∷ [])
unfolding nothing add sub mul all_below from onto tab row modulus bits largest_k in_use field_tests setting_tests inverse parties eval share newton reciprocal slope interpolate recover secret same_list is_sharing number row_at value bit present_in absent_in everyone openers value_from by_rows byte_says all_pass number_at reading_at script_from script_of cost_by header_of header_size mask_bits largest_in limits implied_length script_in rows_at masks_from triples_from input_in deal_in all mask_rows triple_rows bytes_of share_bytes row_bytes header_bytes sheet_of all_set marked check pay command through_lines run_lines nothing_spent start written outcome run_script stop_of run plain first_failed header_tests limit_tests length_tests row_tests sheet_tests permitted_set present_tests recorded
reveals = (refl, refl)

-- the header deals nothing
none_dealt : ((header_of (plain shared_one)).masks ≡ 0) × ((header_of (plain shared_one)).triples ≡ 0)
unfolding header_of plain sheet_of header_bytes bytes_of number row_bytes share_bytes row tab mask_rows triple_rows
none_dealt = (refl, refl)

pub too_much : TooMuch → ⊥
too_much claim =
    let veil = claim (everyone 3) (2 ∷ []) (plain shared_one) (plain shared_three) 3 1 twins in
    let image = veil.to_formed nothing formed in
    let same-deal = is_nothing (veil.to nothing) (image.masks ∙ none_dealt.0) (image.triples ∙ none_dealt.1) in
    let same = (veil.same nothing formed (0 ∷ 0 ∷ 0 ∷ []) (0 ∷ []) refl refl).revealed in
    let clash : ◌≡◌ {A = List ℕ} (1 ∷ []) (3 ∷ []) =
    sym reveals.0 ∙ same ∙ ap (λ (d : Deal). (run_on (everyone 3) (plain shared_three) d (0 ∷ 0 ∷ 0 ∷ []) (0 ∷ [])).revealed) same-deal ∙ reveals.1 in
    omega (arith, ap (λ (l : List ℕ). get_or l 0 0) clash)
