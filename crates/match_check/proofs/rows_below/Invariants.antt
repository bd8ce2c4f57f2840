-- `rows_below`: the result of the test over the columns before the index.
use Rattle.std.proofs.Common.{length, get_or}
use lib.Dec.{ltb}
use Rattle.match_check.proofs.Every.{Every}
use Rattle.match_check.proofs.rows_below.Given as goal

abbrev pub invariant-loop-row : goal.invariant-loop-row
invariant-loop-row l = Every (λ j. ltb (get_or l.perm j 0) l.n) 0 (length l.perm) l.fine l.row-index
