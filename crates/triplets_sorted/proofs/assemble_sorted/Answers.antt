-- `assemble_sorted` meets its contract: the columns of all triplets are the matrix, and their lengths add up to its pointers.
use Rattle.std.proofs.Common.{length, arith}
use Rattle.triplets.specs.Built.{triplets, built}
use Rattle.triplets.proofs.Matrix.{zero_list, built_is}
use Rattle.triplets_sorted.proofs.Steps.{taken_start}
use Rattle.triplets_sorted.proofs.Matrix.{kept-is, total, col_ptr-is, row_idx-is, values_is}
use Rattle.triplets_sorted.proofs.assemble_sorted.Goals as goal

pub take_all-kept-requires-clause-taken : goal.take_all-kept-requires-clause-taken
take_all-kept-requires-clause-taken c =
    let a = c.args in
    taken_start (triplets a.rows.now a.cols.now a.vals.now) c.fill-2.new.list a.row_idx.now a.values.now
    (zero_list (length a.col_ptr.now) c.fill-2.ensures)

pub prefix_sums-requires : goal.prefix_sums-requires
prefix_sums-requires c =
    let a = c.args in
    let s = c.requires.sized in
    let taken = c.take_all-kept.ensures.fact in (
      omega arith,
      omega (
        arith,
        total (triplets a.rows.now a.cols.now a.vals.now) a.n s.rows_in s.cols_in s.pairs s.columns taken (omega arith),
      ),
    )

pub returns : goal.returns
unfolding built
returns c =
    let a = c.args in
    let s = c.requires.sized in
    let t = triplets a.rows.now a.cols.now a.vals.now in
    let taken = c.take_all-kept.ensures.fact in
    let rest = c.take_all-kept.ensures.rest in
    record {
      count = kept-is t a.n s.rows_in s.cols_in s.pairs s.columns taken (omega arith);
      slices = built_is a.n t a.col_ptr.now a.row_idx.now a.values.now a.work.now _ _ _ _
          (col_ptr-is t a.n s.rows_in s.cols_in s.pairs s.columns taken (omega arith) _ c.prefix_sums.ensures (omega arith))
          (row_idx-is t a.n s.rows_in s.cols_in s.pairs s.columns taken (omega arith) rest)
          (values_is t a.n s.rows_in s.cols_in s.pairs s.columns taken (omega arith) rest)
          c.fill.ensures;
    }
