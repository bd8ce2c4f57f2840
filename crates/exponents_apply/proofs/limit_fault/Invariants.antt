-- `limit_fault`: no exponent before the index has a fault.
use Rattle.std.proofs.Common.{length}
use Rattle.refusal.specs.Refusal.{exponent_range}
use Rattle.sparse.specs.Fault.{unless}
use Rattle.sparse.proofs.First.{Passed}
use Rattle.exponents_powers.specs.Power.{within_limit}
use Rattle.exponents_apply.specs.Apply.{exponent_at, limit_fault}
use Rattle.exponents_apply.proofs.limit_fault.Given as goal

abbrev pub invariant-loop-exponent : goal.invariant-loop-exponent
invariant-loop-exponent l =
    Passed (limit_fault l.exponents) (λ i. unless (within_limit (exponent_at l.exponents i)) exponent_range) (length l.exponents) l.exponent-index
