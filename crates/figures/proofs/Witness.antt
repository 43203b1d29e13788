-- The witness computes.
-- Assumes nothing.
use mathlib.Core.Path.{refl}
use Rattle.algebra.specs.Ring.{add, sub, mul}
use Rattle.algebra.specs.Lists.{all_below, from, same_list}
use Rattle.algebra.specs.Rows.{tab, row}
use Rattle.model.specs.Presence.{bit, present_in, absent_in, everyone, permitted_set, openers}
use Rattle.model.specs.Fields.{modulus, bits, largest_k, in_use, inverse, inverse_power_of_2, parties, field_tests, setting_tests}
use Rattle.model.specs.Refusing.{first_failed}
use Rattle.model.specs.Sharing.{eval, share, newton, reciprocal, slope, interpolate, recover, secret, value_from, is_sharing}
use Rattle.model.specs.Bytes.{number, row_at}
use Rattle.model.specs.Trees.{spelled, comparison_from, comparison, remainder, floor, sign, over as overTree, blocks}
use Rattle.model.specs.Steps.{plus, minus, times, constant, value, by_rows}
use Rattle.model.specs.Script.{byte_says, all_pass, number_at, reading_at, script_from, script_of}
use Rattle.model.specs.Costs.{cost_by}
use Rattle.model.specs.Sheet.{header_of, header_size, mask_bits, largest_in, limits, implied_length, script_in, rows_at, masks_from, triples_from, input_in, deal_in, all, mask_rows, triple_rows, spell, secrets, good_mask, good_triple, header_tests, present_tests, limit_tests, length_tests, row_tests, sheet_tests, bytes_of, share_bytes, row_bytes, header_bytes, sheet_of}
use Rattle.model.specs.Commands.{registers_from, signs, command, through_lines}
use Rattle.model.specs.Run.{all_set, marked, check, pay, run_lines, nothing_spent, start, run_script, stop_of}
use Rattle.figures.specs.Witness.{sheet, lines, seen, Witness}

pub witness : Witness
unfolding add sub mul all_below from tab row modulus bits largest_k in_use field_tests setting_tests inverse inverse_power_of_2 parties eval share newton reciprocal slope interpolate recover secret same_list is_sharing number row_at plus minus times constant value bit present_in absent_in everyone openers value_from by_rows comparison_from comparison spelled remainder floor sign overTree blocks byte_says all_pass number_at reading_at script_from script_of cost_by header_of header_size mask_bits largest_in limits implied_length script_in rows_at masks_from triples_from input_in deal_in all mask_rows triple_rows spell secrets good_mask good_triple first_failed header_tests limit_tests length_tests row_tests sheet_tests bytes_of share_bytes row_bytes header_bytes sheet_of all_set marked check pay registers_from signs command through_lines run_lines nothing_spent start run_script stop_of sheet lines seen permitted_set present_tests
witness = record { is_accepted = record { lines = lines; end = 69; number = refl; script = refl }; has_lines = refl; has_end = refl; stops = refl }
