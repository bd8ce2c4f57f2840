-- `rows_once`: the marks of the columns before the index, and the result of the test over them.
use Rattle.std.proofs.Common.{length}
use Rattle.match_check.specs.Check.{row_fresh}
use Rattle.match_check.proofs.Every.{Every}
use Rattle.match_check.proofs.Marks.{Marked}
use Rattle.match_check.proofs.rows_once.Given as goal

abbrev pub invariant-loop-row : goal.invariant-loop-row
invariant-loop-row l = record {
  marks : Marked l.perm l.row-index l.seen;
  test : Every (row_fresh l.perm) 0 (length l.perm) l.fine l.row-index;
}
