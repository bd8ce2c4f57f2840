-- `step_limit` meets its contract: its bits are those of a power of two, and two comparisons with it are the test.
use Rattle.std.proofs.Common.{ℕ, sym, subst, not}
use lib.Dec.{T}
use lib.Ieee.{binary64, of_bits, nan_bits}
use Rattle.match_gap.specs.inner.Scans.{StepLimit}
use Rattle.match_gap.proofs.Limits.{code_bits, code_number, code_limit, limit_test}
use Rattle.match_gap.proofs.step_limit.Goals as goal

pub float_from_bits-result : goal.float_from_bits-result
float_from_bits-result c = let d = c.args.digits in
    subst (λ (b : ℕ). T (not (nan_bits binary64 b))) (sym (code_bits d c.requires)) (code_number d c.requires)

pub returns : goal.returns
returns c = let d = c.args.digits in
    subst (λ (b : ℕ). StepLimit d (of_bits binary64 b)) (sym (code_bits d c.requires))
    (record { test = limit_test d _ (code_limit d c.requires) })
