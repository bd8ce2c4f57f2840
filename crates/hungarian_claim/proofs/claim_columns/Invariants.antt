-- `hungarian_claim::claim_columns`: what the first i rows have claimed, whose laws are in Claims.
use Rattle.hungarian_claim.proofs.Claims.{Claiming}
use Rattle.hungarian_claim.proofs.claim_columns.Given as goal

abbrev pub invariant-loop-i : goal.invariant-loop-i
invariant-loop-i l = Claiming l.n l.col_ptr l.initial.work l.work l.i l.num
