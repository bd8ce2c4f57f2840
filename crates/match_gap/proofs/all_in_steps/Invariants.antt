-- `all_in_steps`: the result of the test over the doubles before the index.
use Rattle.std.proofs.Common.{length, get_or}
use Rattle.std.specs.Float.{nan}
use Rattle.match_check.proofs.Every.{Every}
use Rattle.match_gap.specs.Rounding.{step, in_steps}
use Rattle.match_gap.proofs.all_in_steps.Given as goal

abbrev pub invariant-loop-x : goal.invariant-loop-x
invariant-loop-x l = Every (λ i. in_steps (step l.digits) (get_or l.list i nan)) 0 (length l.list) l.fine l.x-index
