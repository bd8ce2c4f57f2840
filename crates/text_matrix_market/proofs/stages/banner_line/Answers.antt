-- `stages::banner_line` meets its contract: by what the banner says.
use Rattle.std.proofs.Common.{sym, ◌∙◌}
use Rattle.text_matrix_market.proofs.Entries.{some_of_ok_or, none_of_ok_or, refused_with, banner_there, banner_lacks}
use Rattle.text_matrix_market.proofs.stages.banner_line.Goals as goal

pub returns-in_err-kind : goal.returns-in_err-kind
returns-in_err-kind c = λ l.
    let none = none_of_ok_or c.read_banner.result _ _ c.in_err-kind.ensures.value in
    rw (refused_with c.from_residual.result _ c.from_residual.ensures.1, none.1) (banner_lacks c.args.line.now (sym c.read_banner.ensures ∙ none.0))

pub returns : goal.returns
returns c = λ l. banner_there c.args.line.now (sym c.read_banner.ensures ∙ some_of_ok_or c.read_banner.result _ _ c.in_ok-kind.ensures.value)
