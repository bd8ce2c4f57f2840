-- `enter_pairs`: the columns before j are entered, and the result of the test over them.
use Rattle.match_check.proofs.Every.{Every}
use Rattle.sparse.specs.Pattern.{pattern}
use Rattle.match_largest.specs.Marks.{pair_fits}
use Rattle.match_largest.specs.inner.Sweeps.{Entered}
use Rattle.match_largest.proofs.enter_pairs.Given as goal

abbrev pub invariant-loop-j : goal.invariant-loop-j
invariant-loop-j l = record {
  entered : Entered l.n l.perm l.j l.inverse;
  test : Every (pair_fits (pattern l.n l.col_ptr l.row_idx) l.perm) 0 l.n l.fine l.j;
}
