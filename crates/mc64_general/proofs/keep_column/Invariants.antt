-- The loop of `keep_column`: the kept entries before place k are written, and `top` is the largest of their logs.
use Rattle.mc64_columns.specs.inner.Steps.{entry_logs}
use Rattle.mc64_general.proofs.Copying.{CopiedTo}
use Rattle.mc64_general.proofs.keep_column.Given as goal

abbrev pub invariant-loop-k : goal.invariant-loop-k
invariant-loop-k l =
    CopiedTo l.values l.from l.row_idx (entry_logs l.source l.logs) l.at l.initial.graph_rows l.initial.cost l.k
    l.graph_rows l.cost l.next l.top
