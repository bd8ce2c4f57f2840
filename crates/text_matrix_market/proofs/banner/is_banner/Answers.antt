-- `banner::is_banner` meets its contract: by the first byte, the words and what follows them.
use Rattle.std.proofs.Common.{sym, ◌∙◌}
use Rattle.text_matrix_market.proofs.Banners.{no_percent, no_banner_words, banner_there}
use Rattle.text_matrix_market.proofs.banner.is_banner.Goals as goal

pub returns-in_default : goal.returns-in_default
returns-in_default c = no_banner_words _ _ c.args.line.now c.in_default.ensures.words

pub returns-then-begins_percent : goal.returns-then-begins_percent
returns-then-begins_percent c =
    rw c.word_start.ensures (banner_there _ _ c.args.line.now (sym c.begins_percent.ensures ∙ c.if-begins_percent.true) c.in-Some.ensures.within c.in-Some.ensures.words)

pub returns-else-begins_percent : goal.returns-else-begins_percent
returns-else-begins_percent c =
    c.if-begins_percent.false ∙ no_percent _ _ c.args.line.now (sym c.begins_percent.ensures ∙ c.if-begins_percent.false)
