-- `pairs_fault` meets its contract: each return is the first fault of the chain.
use Rattle.match_gap.proofs.Faults.{by_pairing, by_nothing, by_duals}
use Rattle.match_gap.proofs.pairs_fault.Goals as goal

pub returns-then-not-pairing_fits : goal.returns-then-not-pairing_fits
returns-then-not-pairing_fits c = by_pairing _ _ _ c.pairing_fits.ensures c.if-not-pairing_fits.true

pub returns-then-not-rows-columns : goal.returns-then-not-rows-columns
returns-then-not-rows-columns c =
    by_duals _ _ _ c.pairing_fits.ensures c.if-not-pairing_fits.false c.all_in_steps-rows.ensures
    c.all_in_steps-columns.ensures c.if-not-rows-columns.true

pub returns : goal.returns
returns c =
    by_nothing _ _ _ c.pairing_fits.ensures c.if-not-pairing_fits.false c.all_in_steps-rows.ensures
    c.all_in_steps-columns.ensures c.if-not-rows-columns.false
