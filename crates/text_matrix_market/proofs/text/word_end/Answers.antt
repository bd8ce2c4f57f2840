-- `text::word_end` meets its contract: the first blank among the bytes from the place on, or none.
use Rattle.std.proofs.Common.{sym, ◌∙◌, rules}
use borrow.Author.Tests.{tests}
use Rattle.std.proofs.lemmas.Iterator.{YieldsList-from_slice}
use Rattle.std.proofs.lemmas.Iterator.Search.{position_from_yields_List}
use Rattle.text_matrix_market.specs.Text.{is_blank}
use Rattle.text_matrix_market.proofs.Reaching.{reach_found, reach_none}
use Rattle.text_matrix_market.proofs.text.word_end.Goals as goal

pub returns-in-Some : goal.returns-in-Some
returns-in-Some c =
    let found = position_from_yields_List is_blank _ _ c.position.result c.position.ensures.ran (YieldsList-from_slice _ c.iter.ensures.rest) (λ x b q k. search (rules, tests)) in
    reach_found is_blank c.args.line.now c.args.from _ (sym found ∙ c.in-Some.is)

pub returns-in-None : goal.returns-in-None
returns-in-None c =
    let found = position_from_yields_List is_blank _ _ c.position.result c.position.ensures.ran (YieldsList-from_slice _ c.iter.ensures.rest) (λ x b q k. search (rules, tests)) in
    reach_none is_blank c.args.line.now c.args.from c.requires (sym found ∙ c.in-None.is)
