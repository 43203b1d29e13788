-- The tables of cases compute. Each is computed only where all laws and the tables before it hold: what a law refuses does not wait for a table.
-- Assumes nothing.
use mathlib.Core.Path.{refl}
use Rattle.algebra.specs.Ring.{add, sub, mul}
use Rattle.algebra.specs.Lists.{all_below, from, total, onto, same_list}
use Rattle.algebra.specs.Rows.{tab, row}
use Rattle.model.specs.Fields.{modulus, bits, largest_k, in_use, inverse, inverse_power_of_2, parties, field_tests, setting_tests}
use Rattle.model.specs.Refusing.{first_failed}
use Rattle.model.specs.Presence.{bit, present_in, absent_in, everyone, permitted_set, openers}
use Rattle.model.specs.Coding.{in_range, code, read_back}
use Rattle.model.specs.Sharing.{eval, share, newton, reciprocal, slope, interpolate, recover, secret, value_from, is_sharing, ratio, weight, weighted, secret_sum}
use Rattle.model.specs.Entries.{share_tests, recover_tests, sum_tests, encode_tests, decode_tests, share_left, recover_value, recover_left, sum_value, encode_value, decode_value}
use Rattle.model.specs.Bytes.{number, row_at}
use Rattle.model.specs.Trees.{spelled, comparison_from, comparison, remainder, floor, sign, over as overStep, blocks}
use Rattle.model.specs.Steps.{plus, minus, times, constant, value, recorded, by_rows}
use Rattle.model.specs.Script.{byte_says, all_pass, number_at, reading_at, script_from, script_of}
use Rattle.model.specs.Costs.{cost_by}
use Rattle.model.specs.Sheet.{header_of, header_size, mask_bits, largest_in, limits, implied_length, script_in, rows_at, masks_from, triples_from, input_in, deal_in, all, mask_rows, triple_rows, spell, secrets, good_mask, good_triple, header_tests, present_tests, limit_tests, length_tests, row_tests, sheet_tests, bytes_of, share_bytes}
use Rattle.model.specs.Commands.{through_lines, registers_from, signs, command}
use Rattle.model.specs.Run.{all_set, marked, check, pay, run_lines, nothing_spent, start, written, outcome, run_script, stop_of, run}
use Rattle.model.specs.Calls.{is_textdata, alone, plain, quoted, field, is_end, fields, read_line, is_digit, all_digits, decimal_from, time, lasting, call, four_fields, line_at, line_number, taken, imported}
use Rattle.model.specs.Columns.{shares_from, regrouped, transposed, column_form, sheet_form, shape_tests, output_tests, turn_tests, output_left, part_of, shares_in}
use Rattle.model.specs.Forecast.{head_length_tests, head_tests, lines_foreseen, script_foreseen, foreseen, forecast}
use Rattle.model.specs.Replay.{opening, present_at, through, opened_value, opening_tests, from_record, by_record, replay_lines, part_input, part_deal, party_tests, part_length_tests, own_share_tests, replay_tests, replay_script, replay}
use Rattle.model.specs.CaseForms.{registers_seen, seen, Hold, cells_seen, replay_seen}
use Rattle.model.specs.SheetCases.{sheet_cases}
use Rattle.model.specs.ScriptCases.{script_cases}
use Rattle.model.specs.RunCases.{run_cases}
use Rattle.model.specs.MaskCases.{mask_cases}
use Rattle.model.specs.PresentCases.{present_cases}
use Rattle.model.specs.EntryCases.{entry_cases}
use Rattle.model.specs.CallCases.{call_cases}
use Rattle.model.specs.ColumnCases.{column_cases}
use Rattle.model.specs.ForecastCases.{forecast_cases}
use Rattle.model.specs.ReplayCases.{replay_cases}
use Rattle.model.specs.Cases.{checks, parts_seen, weights_seen, Cases}
use Rattle.model.proofs.Laws.{laws}

after : {A B : Type 0} → A → B → B
after a b = b

pub entries_hold : Hold entry_cases
unfolding add sub mul all_below from tab row modulus largest_k in_use field_tests setting_tests inverse parties in_range code read_back eval share newton reciprocal slope interpolate recover secret same_list is_sharing total ratio weight weighted secret_sum first_failed share_tests recover_tests sum_tests encode_tests decode_tests share_left recover_value recover_left sum_value encode_value decode_value entry_cases
entries_hold = after laws refl

pub calls_hold : Hold call_cases
unfolding onto first_failed is_textdata alone plain quoted field is_end fields read_line is_digit all_digits decimal_from time lasting call four_fields line_at line_number taken imported call_cases
calls_hold = after entries_hold refl

pub columns_hold : Hold column_cases
unfolding from onto number modulus bits in_use field_tests setting_tests parties header_of header_size mask_bits limits implied_length first_failed header_tests limit_tests length_tests shares_from regrouped transposed column_form sheet_form shape_tests output_tests turn_tests output_left column_cases
columns_hold = after calls_hold refl

pub forecasts_hold : Hold forecast_cases
unfolding from modulus bits largest_k in_use field_tests setting_tests parties number byte_says all_pass number_at reading_at script_from script_of cost_by header_of header_size mask_bits largest_in limits script_in first_failed header_tests limit_tests head_length_tests head_tests all_set marked check pay through_lines nothing_spent lines_foreseen script_foreseen foreseen forecast forecast_cases
forecasts_hold = after columns_hold refl

pub replays_hold : Hold replay_cases
unfolding add sub mul all_below from tab row modulus bits largest_k in_use field_tests setting_tests inverse inverse_power_of_2 parties eval newton reciprocal slope interpolate number row_at plus minus times constant comparison_from comparison spelled remainder floor sign overStep blocks byte_says all_pass number_at reading_at script_from script_of cost_by header_of header_size mask_bits largest_in limits script_in rows_at masks_from triples_from all first_failed header_tests limit_tests head_length_tests all_set marked check pay registers_from signs command through_lines nothing_spent shares_in opening present_at through opened_value opening_tests from_record by_record replay_lines part_input part_deal party_tests part_length_tests own_share_tests replay_tests replay_script replay bytes_of share_bytes cells_seen replay_seen replay_cases
replays_hold = after forecasts_hold refl

pub scripts_hold : Hold script_cases
unfolding by_rows add sub mul all_below from onto tab row modulus bits largest_k in_use field_tests setting_tests inverse parties bit present_in everyone permitted_set eval share newton reciprocal slope interpolate recover secret same_list is_sharing number row_at byte_says all_pass number_at reading_at script_from script_of cost_by header_of header_size mask_bits largest_in limits implied_length script_in rows_at masks_from triples_from input_in deal_in all mask_rows triple_rows spell secrets good_mask good_triple first_failed header_tests present_tests limit_tests length_tests row_tests sheet_tests bytes_of share_bytes all_set marked check pay command through_lines run_lines nothing_spent start written outcome run_script stop_of run registers_seen seen script_cases
scripts_hold = after replays_hold refl

pub sheets_hold : Hold sheet_cases
unfolding by_rows add sub mul all_below from onto tab row modulus bits largest_k in_use field_tests setting_tests inverse parties bit present_in everyone permitted_set eval share newton reciprocal slope interpolate recover secret same_list is_sharing number row_at byte_says all_pass number_at reading_at script_from script_of cost_by header_of header_size mask_bits largest_in limits implied_length script_in rows_at masks_from triples_from input_in deal_in all mask_rows triple_rows spell secrets good_mask good_triple first_failed header_tests present_tests limit_tests length_tests row_tests sheet_tests bytes_of share_bytes all_set marked check pay command through_lines run_lines nothing_spent start written outcome run_script stop_of run registers_seen seen sheet_cases
sheets_hold = after scripts_hold refl

pub runs_hold : Hold run_cases
unfolding add sub mul all_below from onto tab row modulus bits largest_k in_use field_tests setting_tests inverse inverse_power_of_2 parties bit present_in absent_in everyone permitted_set openers eval share newton reciprocal slope interpolate recover secret value_from same_list is_sharing number row_at plus minus times constant value recorded by_rows comparison_from comparison spelled remainder floor sign overStep blocks byte_says all_pass number_at reading_at script_from script_of cost_by header_of header_size mask_bits largest_in limits implied_length script_in rows_at masks_from triples_from input_in deal_in all mask_rows triple_rows spell secrets good_mask good_triple first_failed header_tests present_tests limit_tests length_tests row_tests sheet_tests bytes_of share_bytes all_set marked check pay registers_from signs command through_lines run_lines nothing_spent start written outcome run_script stop_of run registers_seen seen run_cases
runs_hold = after sheets_hold refl

pub presents_hold : Hold present_cases
unfolding add sub mul all_below from onto tab row modulus bits largest_k in_use field_tests setting_tests inverse inverse_power_of_2 parties bit present_in absent_in everyone permitted_set openers eval share newton reciprocal slope interpolate recover secret value_from same_list is_sharing number row_at plus minus times constant value recorded by_rows comparison_from comparison spelled remainder floor sign overStep blocks byte_says all_pass number_at reading_at script_from script_of cost_by header_of header_size mask_bits largest_in limits implied_length script_in rows_at masks_from triples_from input_in deal_in all mask_rows triple_rows spell secrets good_mask good_triple first_failed header_tests present_tests limit_tests length_tests row_tests sheet_tests bytes_of share_bytes all_set marked check pay registers_from command through_lines run_lines nothing_spent start written outcome run_script stop_of run registers_seen seen present_cases
presents_hold = after runs_hold refl

pub masked_hold : Hold mask_cases
unfolding add sub mul all_below from onto tab row modulus bits largest_k in_use field_tests setting_tests inverse inverse_power_of_2 parties bit present_in absent_in everyone permitted_set openers eval share newton reciprocal slope interpolate recover secret value_from same_list is_sharing number row_at plus minus times constant value recorded by_rows comparison_from comparison spelled remainder floor sign overStep blocks byte_says all_pass number_at reading_at script_from script_of cost_by header_of header_size mask_bits largest_in limits implied_length script_in rows_at masks_from triples_from input_in deal_in all mask_rows triple_rows spell secrets good_mask good_triple first_failed header_tests present_tests limit_tests length_tests row_tests sheet_tests bytes_of share_bytes all_set marked check pay registers_from signs command through_lines run_lines nothing_spent start written outcome run_script stop_of run registers_seen seen mask_cases
masked_hold = after presents_hold refl

pub cases : Cases
unfolding add sub mul total modulus inverse reciprocal ratio weight bit present_in absent_in openers weights_seen tab bits number header_of header_size mask_bits bytes_of share_bytes shares_from regrouped transposed column_form part_of shares_in parts_seen from onto first_failed all_set check checks is_textdata alone plain quoted field is_end fields read_line is_digit all_digits decimal_from time lasting call four_fields line_at line_number taken imported
cases = record { sheets = sheets_hold; scripts = scripts_hold; runs = runs_hold; masked = masked_hold; presents = presents_hold; order = refl; entries = entries_hold; calls = calls_hold; columns = columns_hold; forecasts = forecasts_hold; replays = replays_hold; parts = refl; weights = refl; opened_of_five = refl; opened_of_seven = refl; values = refl; plain_names = refl; quoted_names = refl }
