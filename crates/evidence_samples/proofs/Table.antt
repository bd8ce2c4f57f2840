-- Every row of the sample table holds, by computing the definitions, and in sample 9 by one law (Large.antt).
use mathlib.Core.Path.{◌≡◌, refl, ap, ◌∙◌}
use mathlib.Core.Bool.{Bool, true, ◌&&◌}
use lib.Ieee.{of_bits, to_bits, of_int, add, sub, mul, div, neg, lt, le, eq, ne}
use Rattle.float64.specs.Functions.{absolute, size_of, clamp_log}
use Rattle.square_root.specs.Root.{sqrt_of}
use Rattle.byte_numbers.specs.Root.{root_bytes, root_number}
use Rattle.byte_numbers.specs.Bytes as Bytes
use Rattle.whole_log.specs.Log.{whole_log}
use Rattle.sparse.specs.Fault.{first_of}
use Rattle.sparse.specs.Validate.{size_fault, pointer_fault, general_column, general_columns, lower_column, rising_column, symmetric_columns, frame_fault}
use Rattle.sparse.specs.Validate.{symmetric_fault, general_fault}
use Rattle.hungarian.specs.Test.{cost_fault, graph_fault}
use Rattle.hungarian.specs.Match.{hungarian_match}
use Rattle.hungarian_match.specs.Call as Match
use Rattle.cost_limit.specs.Range.{in_range, in_log_range}
use Rattle.mc64_columns.specs.Columns.{largest_from, largest, normalised}
use Rattle.mc64_columns.specs.Graphs.{joined, slices_fit, built}
use Rattle.mc64_symmetric.specs.Graph.{places_to}
use Rattle.mc64_symmetric.specs.Call.{values_fault, input_fault, cost_graph}
use Rattle.mc64_general.specs.Graph.{is_kept, kept_places, largest_log}
use Rattle.mc64_general.specs.Call.{logs_fault, general_graph}
use Rattle.mc64_general.specs.Call as Building
use Rattle.infnorm_factors.specs.Maxima.{raise, enter_column, enter_columns, row_maxima}
use Rattle.infnorm_factors.specs.Factors as Inf
use Rattle.infnorm.specs.Call as Infnorm
use Rattle.factors_mc64.specs.Factors.{doubles_of, is_matched_row, log_factor}
use Rattle.factors_mc64.specs.Calls.{matching_fault, lengths, symmetric_outcome}
use Rattle.float64.specs.Number.{whole_of, magnitude, units_per_one}
use Rattle.slices.specs.Lists.{tabulate}
use Rattle.triplets.specs.Built.{filled, sum_at, column_rows, rows_before, values_before}
use Rattle.matching.specs.Sum.{sum_to}
use Rattle.sparse.specs.Pattern.{column_of}
use Rattle.text_matrix_market.specs.Text.{cut, non_empty, lines_of, words_of, is_blank_line, begins_percent}
use Rattle.text_matrix_market.specs.Numbers as Numbers
use Rattle.text_matrix_market.specs.Banner.{same_word, same_words, is_banner, banner_kind}
use Rattle.text_matrix_market.specs.File as File
use Rattle.text_report.specs.Decimal as Decimal
use Rattle.text_report.specs.Report as Report
use Rattle.text_report.specs.Pairs as Pairs
use Rattle.text_report.specs.Form.{form_text}
use Rattle.text_answer.specs.Answer.{graph_text, text_of, answer_text}
use Rattle.evidence_samples.specs.Table.{rows, table, all_hold}
use Rattle.evidence_samples.proofs.Large.{most_columns_lem}

rows_hold : all_hold rows ≡ true
unfolding rows all_hold hungarian_match cost_fault graph_fault size_fault pointer_fault general_columns general_column first_of in_range in_log_range magnitude
    units_per_one largest_from largest normalised column_of sum_to places_to joined lower_column rising_column
    symmetric_columns frame_fault symmetric_fault general_fault values_fault input_fault is_kept kept_places largest_log logs_fault Building.input_fault lengths
    symmetric_outcome Match.match_lengths Match.finished Match.match_outcome slices_fit built cost_graph general_graph root_bytes root_number Bytes.bytes_of
    Infnorm.lengths_fit Infnorm.input_fault Infnorm.iterated Infnorm.compute_infnorm Infnorm.compute_onepass Inf.infnorm_factors Inf.onepass_factors
    Inf.rounds size_of Inf.scaled_size Inf.new_factor Inf.kr_guarded_update Inf.inv_sqrt_scale_guarded Inf.deviating Inf.deviating_all Inf.zipped Inf.root
    Inf.guarded row_maxima enter_columns enter_column raise absolute doubles_of
    is_matched_row log_factor clamp_log matching_fault sqrt_of whole_log of_bits to_bits add sub mul div neg lt le eq ne of_int whole_of filled sum_at column_rows
    rows_before values_before tabulate cut non_empty lines_of words_of is_blank_line begins_percent
    Numbers.decimal_value Numbers.number_read Numbers.size_read Numbers.three_of Numbers.two_of Numbers.numbers_of same_word same_words is_banner banner_kind
    File.line_entry File.content File.read_line File.read_lines File.reading_at_end File.reading_of File.pair_among File.repeats
    File.file_of Decimal.digits Decimal.decimal Decimal.signed_text Report.matched_line Report.row_number Report.pair_line Report.pair_lines Report.numbers
    Report.counts_line Report.match_text Pairs.pattern_size Pairs.matched_pair Pairs.matched_pairs Pairs.pairs_text form_text graph_text text_of answer_text
rows_hold = refl

pub samples_hold : all_hold table ≡ true
unfolding table all_hold
samples_hold = ap (λ (b : Bool). b && all_hold rows) most_columns_lem ∙ rows_hold
