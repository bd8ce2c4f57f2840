-- `banner::read_banner` meets its contract: the kinds, one after the other.
use Rattle.std.proofs.Common.{sym, ◌∙◌}
use Rattle.text_matrix_market.proofs.Banners.{is_general, is_symmetric, is_pattern, no_kind}
use Rattle.text_matrix_market.proofs.banner.read_banner.Goals as goal

pub returns-then-is_banner : goal.returns-then-is_banner
returns-then-is_banner c = is_general _ (sym c.is_banner.ensures ∙ c.if-is_banner.true)

pub returns-then-is_banner-2 : goal.returns-then-is_banner-2
returns-then-is_banner-2 c =
    is_symmetric _ (sym c.is_banner.ensures ∙ c.if-is_banner.false) (sym c.is_banner-2.ensures ∙ c.if-is_banner-2.true)

pub returns-then-is_banner-3 : goal.returns-then-is_banner-3
returns-then-is_banner-3 c =
    is_pattern _ (sym c.is_banner.ensures ∙ c.if-is_banner.false) (sym c.is_banner-2.ensures ∙ c.if-is_banner-2.false)
    (sym c.is_banner-3.ensures ∙ c.if-is_banner-3.true)

pub returns : goal.returns
returns c =
    no_kind _ (sym c.is_banner.ensures ∙ c.if-is_banner.false) (sym c.is_banner-2.ensures ∙ c.if-is_banner-2.false)
    (sym c.is_banner-3.ensures ∙ c.if-is_banner-3.false)
