-- Near a power of 4 the laws of the line have the root, elsewhere the search.
use Rattle.square_root.proofs.Whole.{near_above, near_below}
use Rattle.square_root.proofs.whole_root.Goals as goal

pub returns-then-n-le4503599761588224 : goal.returns-then-n-le4503599761588224
returns-then-n-le4503599761588224 c =
    near_above _ c.requires.bound.0 c.if-n-eq4503599627370496.false c.if-n-le4503599761588224.true

pub returns-then-n-ge18014398375264256 : goal.returns-then-n-ge18014398375264256
returns-then-n-ge18014398375264256 c = near_below _ c.requires.bound.1 c.if-n-ge18014398375264256.true
