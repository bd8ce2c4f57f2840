-- `pairing_fits` meets its contract: the first of its three tests that fails decides.
use Rattle.match_check.proofs.Marks.{lacks_rows, lacks_once, stands}
use Rattle.match_check.proofs.pairing_fits.Goals as goal

pub returns-then-not-rows_below : goal.returns-then-not-rows_below
returns-then-not-rows_below c = lacks_rows _ _ c.rows_below.ensures c.if-not-rows_below.true

pub returns-then-not-rows_once : goal.returns-then-not-rows_once
returns-then-not-rows_once c = lacks_once _ _ c.rows_below.ensures c.if-not-rows_below.false c.requires.fact_2
    c.rows_once.ensures c.if-not-rows_once.true

pub returns : goal.returns
returns c = stands _ _ c.rows_below.ensures c.if-not-rows_below.false c.requires.fact_2 c.rows_once.ensures
    c.if-not-rows_once.false c.pairs_stand.ensures
