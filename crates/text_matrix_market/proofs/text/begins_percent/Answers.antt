-- `text::begins_percent` meets its contract: by the cases of the line.
use Rattle.std.proofs.Common.{◌∙◌}
use Rattle.text_matrix_market.proofs.Words.{percent_test}
use Rattle.text_matrix_market.proofs.text.begins_percent.Goals as goal

pub returns : goal.returns
returns c = c.starts_with.ensures.value ∙ percent_test c.args.line.now
