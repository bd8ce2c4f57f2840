-- `factors_fault`: whatever list the closure gives, no factor of it before i has a fault.
use Rattle.std.proofs.Common.{◌≡◌, List, Float, length, get_or}
use Rattle.std.specs.Float.{nan}
use Rattle.refusal.specs.Refusal.{exponent_range}
use Rattle.sparse.specs.Fault.{unless}
use Rattle.sparse.proofs.First.{Passed}
use Rattle.exponents.specs.Exponent.{factor_fits}
use Rattle.exponents.specs.Call.{factors_fault}
use Rattle.exponents.specs.inner.Steps.{Gives}
use Rattle.exponents.proofs.factors_fault.Given as goal

abbrev pub invariant-loop-i : goal.invariant-loop-i
invariant-loop-i g l =
    (u : List Float) → length u ≡ l.n → Gives (goal.F-post g l.factor) u
    → Passed (factors_fault u) (λ i. unless (factor_fits (get_or u i nan)) exponent_range) l.n l.i
