-- `take_all`: the first k triplets are taken, and what lies past their entries is as it was.
use Rattle.triplets.specs.Built.{triplets}
use Rattle.triplets_sorted.specs.inner.Steps.{Taken, Rest}
use Rattle.triplets_sorted.proofs.take_all.Given as goal

abbrev pub invariant-loop-k : goal.invariant-loop-k
invariant-loop-k l = record {
  taken : Taken (triplets l.rows l.cols l.vals) l.k l.kept l.col_ptr l.row_idx l.values;
  rest : Rest 0 l.kept l.initial.row_idx l.initial.values l.row_idx l.values;
}
