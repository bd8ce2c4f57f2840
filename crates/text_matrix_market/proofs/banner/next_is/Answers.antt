-- `banner::next_is` meets its contract: the next word from a place on, compared with the name.
use Rattle.std.proofs.Common.{ap, ap₂, ◌∙◌, ℕ, List, arith}
use Rattle.std.specs.Bool.{then_some}
use Rattle.text_matrix_market.specs.Banner.{same_word}
use Rattle.text_matrix_market.specs.inner.Steps.{is_word_byte}
use Rattle.text_matrix_market.proofs.Reaching.{reach_within}
use Rattle.text_matrix_market.proofs.Words.{found_word, found_past, end_within, end_past}
use Rattle.text_matrix_market.proofs.banner.next_is.Goals as goal

pub word_end-end-requires : goal.word_end-end-requires
word_end-end-requires c = omega (arith, reach_within is_word_byte c.args.line.now c.args.from c.requires)

pub slice_bounds-same_word-count : goal.slice_bounds-same_word-count
slice_bounds-same_word-count c = end_past _ _ c.word_start-start.ensures c.word_end-end.ensures

pub slice_bounds-same_word-start : goal.slice_bounds-same_word-start
slice_bounds-same_word-start c =
    let past = end_past _ _ c.word_start-start.ensures c.word_end-end.ensures in
    omega (arith, end_within _ _ c.word_start-start.ensures c.word_end-end.ensures c.requires)

pub slice_bounds-same_word-end : goal.slice_bounds-same_word-end
slice_bounds-same_word-end c =
    let past = end_past _ _ c.word_start-start.ensures c.word_end-end.ensures in
    omega (arith, end_within _ _ c.word_start-start.ensures c.word_end-end.ensures c.requires)

pub returns : goal.returns
returns c =
    let line = c.args.line.now in
    let word = found_word line c.args.from c.word_start-start.ensures c.word_end-end.ensures in
    c.then_some.ensures ∙ ap₂ then_some (c.same_word.ensures ∙ ap (λ (w : List ℕ). same_word w c.args.name.now) word)
    (found_past line c.args.from c.word_start-start.ensures c.word_end-end.ensures)
