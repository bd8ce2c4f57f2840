-- `put_columns` meets its contract. The loop's invariant: the pairs of the first k columns have been written.
use Rattle.text_report.specs.Pairs.{matched_pairs}
use Rattle.text_report.specs.inner.Steps.{Wrote}
use Rattle.text_report.proofs.put_columns.Given as goal

abbrev pub invariant-loop-k : goal.invariant-loop-k
invariant-loop-k l = Wrote l.initial.out l.fn.at (matched_pairs l.k l.perm) l.out l.next
