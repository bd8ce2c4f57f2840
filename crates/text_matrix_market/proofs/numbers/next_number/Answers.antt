-- `numbers::next_number` meets its contract: the next word from a place on, read as a number, signed or not.
use Rattle.std.proofs.Common.{ap, ap₂, ◌∙◌, ℕ, Option, arith}
use Rattle.text_matrix_market.specs.inner.Steps.{is_word_byte, field_of, word_read}
use Rattle.text_matrix_market.proofs.Reaching.{reach_within}
use Rattle.text_matrix_market.proofs.Words.{found_word, found_past, end_within, end_past}
use Rattle.text_matrix_market.proofs.numbers.next_number.Goals as goal

pub word_end-end-requires : goal.word_end-end-requires
word_end-end-requires c = omega (arith, reach_within is_word_byte c.args.line.now c.args.from c.requires)

pub slice_bounds-read_word-count : goal.slice_bounds-read_word-count
slice_bounds-read_word-count c = end_past _ _ c.word_start-start.ensures c.word_end-end.ensures

pub slice_bounds-read_word-start : goal.slice_bounds-read_word-start
slice_bounds-read_word-start c =
    let past = end_past _ _ c.word_start-start.ensures c.word_end-end.ensures in
    omega (arith, end_within _ _ c.word_start-start.ensures c.word_end-end.ensures c.requires)

pub slice_bounds-read_word-end : goal.slice_bounds-read_word-end
slice_bounds-read_word-end c =
    let past = end_past _ _ c.word_start-start.ensures c.word_end-end.ensures in
    omega (arith, end_within _ _ c.word_start-start.ensures c.word_end-end.ensures c.requires)

pub returns-in_err-value : goal.returns-in_err-value
returns-in_err-value c =
    let line = c.args.line.now in
    let word = found_word line c.args.from c.word_start-start.ensures c.word_end-end.ensures in
    c.from_residual.ensures ∙ ap (λ (value : Option ℕ). field_of value c.word_end-end.result) c.in_err-value.ensures
    ∙ ap₂ field_of (ap (word_read c.args.signed) word) (found_past line c.args.from c.word_start-start.ensures c.word_end-end.ensures)

pub returns : goal.returns
returns c =
    let line = c.args.line.now in
    let word = found_word line c.args.from c.word_start-start.ensures c.word_end-end.ensures in
    ap (λ (value : Option ℕ). field_of value c.word_end-end.result) c.in_ok-value.ensures
    ∙ ap₂ field_of (ap (word_read c.args.signed) word) (found_past line c.args.from c.word_start-start.ensures c.word_end-end.ensures)
