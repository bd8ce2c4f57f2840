-- `numbers::read_size` meets its contract: by the word's first byte.
use Rattle.std.proofs.Common.{ap, ◌∙◌, Bor, List, ℕ}
use Rattle.text_matrix_market.specs.Numbers.{number_read}
use Rattle.text_matrix_market.proofs.Digits.{size_stripped}
use Rattle.text_matrix_market.proofs.numbers.read_size.Goals as goal

pub returns : goal.returns
returns c =
    c.read_number.ensures ∙ ap (λ (digits : Bor (List ℕ)). number_read digits.now) c.unwrap_or.ensures
    ∙ size_stripped c.args.word c.strip_prefix.result c.strip_prefix.ensures.cases
