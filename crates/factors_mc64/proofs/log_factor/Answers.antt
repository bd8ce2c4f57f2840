-- `log_factor`: its test is the definition's.
use Rattle.std.proofs.Common.{rules}
use Rattle.factors_mc64.specs.Factors.{log_factor}
use Rattle.factors_mc64.proofs.log_factor.Goals as goal

pub returns-then-bounded-both : goal.returns-then-bounded-both
unfolding log_factor
returns-then-bounded-both c = search rules

pub returns : goal.returns
unfolding log_factor
returns c = search rules
