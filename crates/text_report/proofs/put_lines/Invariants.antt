-- `put_lines` meets its contract. The loop's invariant: the first k lines have been written.
use Rattle.text_report.specs.Report.{pair_lines}
use Rattle.text_report.specs.inner.Steps.{Wrote}
use Rattle.text_report.proofs.put_lines.Given as goal

abbrev pub invariant-loop-k : goal.invariant-loop-k
invariant-loop-k l = Wrote l.initial.out l.fn.at (pair_lines l.k l.perm l.u l.v) l.out l.next
