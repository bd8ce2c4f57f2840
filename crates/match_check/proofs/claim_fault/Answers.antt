-- `claim_fault` meets its contract: each return is the first fault of the chain.
use Rattle.std.proofs.Common.{refl}
use Rattle.match_check.specs.Check.{sums_reached}
use Rattle.match_check.specs.inner.Steps.{sums_hold}
use Rattle.match_check.proofs.Faults.{by_pairing, by_duals, by_sums, by_nothing}
use Rattle.match_check.proofs.claim_fault.Goals as goal

pub returns-then-not-pairing_fits : goal.returns-then-not-pairing_fits
returns-then-not-pairing_fits c = by_pairing _ _ c.pairing_fits.ensures c.if-not-pairing_fits.true

pub returns-then-not-duals_hold : goal.returns-then-not-duals_hold
returns-then-not-duals_hold c = by_duals _ _ c.pairing_fits.ensures c.if-not-pairing_fits.false
    c.duals_hold.ensures c.if-not-duals_hold.true

pub returns-then-not-sums_hold : goal.returns-then-not-sums_hold
unfolding sums_hold sums_reached
returns-then-not-sums_hold c = by_sums _ _ c.pairing_fits.ensures c.if-not-pairing_fits.false
    c.duals_hold.ensures c.if-not-duals_hold.false c.sums_hold.ensures c.if-not-sums_hold.true

pub returns : goal.returns
unfolding sums_hold sums_reached
returns c = by_nothing _ _ c.pairing_fits.ensures c.if-not-pairing_fits.false
    c.duals_hold.ensures c.if-not-duals_hold.false c.sums_hold.ensures c.if-not-sums_hold.false
