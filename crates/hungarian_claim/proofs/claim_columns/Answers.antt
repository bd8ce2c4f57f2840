-- `hungarian_claim::claim_columns`: one more row claims, and all rows have, by the laws of Claims.
use Rattle.hungarian_claim.proofs.Claims.{claiming_turn, claiming_end}
use Rattle.hungarian_claim.proofs.claim_columns.Goals as goal

pub loop-i-preserved : goal.loop-i-preserved
loop-i-preserved c =
    claiming_turn c.loop-i.invariant c.loop-i-test.true c.claim-num.auto.work c.claim-num.ensures

pub returns : goal.returns
returns c = claiming_end c.loop-i.invariant c.loop-i-test.false
