-- `pairs_stand`: the result of the test over the columns before j.
use Rattle.sparse.specs.Pattern.{pattern}
use Rattle.match_check.specs.Check.{pair_stands}
use Rattle.match_check.proofs.Every.{Every}
use Rattle.match_check.proofs.pairs_stand.Given as goal

abbrev pub invariant-loop-j : goal.invariant-loop-j
invariant-loop-j l = Every (pair_stands (pattern l.n l.col_ptr l.row_idx) l.perm) 0 l.n l.fine l.j
