-- `small_wholes`: the result of the test over the doubles before the index.
use Rattle.std.proofs.Common.{ℕ, length, get_or}
use Rattle.std.specs.Float.{nan}
use Rattle.match_check.specs.Check.{small_whole}
use Rattle.match_check.proofs.Every.{Every}
use Rattle.match_check.proofs.small_wholes.Given as goal

abbrev pub invariant-loop-x : goal.invariant-loop-x
invariant-loop-x l = Every (λ i. small_whole (get_or l.list i nan)) 0 (length l.list) l.fine l.x-index
