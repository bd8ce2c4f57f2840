-- `text::is_blank_line` meets its contract: no word starts before the end.
use Rattle.std.proofs.Common.{arith}
use Rattle.text_matrix_market.specs.Text.{is_blank_line}
use Rattle.text_matrix_market.proofs.Words.{blank_test}
use Rattle.text_matrix_market.proofs.text.is_blank_line.Goals as goal

pub returns : goal.returns
unfolding is_blank_line
returns c = rw c.word_start.ensures (blank_test c.args.line.now 0 (omega arith))
