-- `put_counts` meets its contract. The loop's invariant: the numbers so far have been written after the word.
use Rattle.text_report.specs.Report.{numbers}
use Rattle.text_report.specs.inner.Steps.{Wrote}
use Rattle.text_report.proofs.put_counts.Given as goal

abbrev pub invariant-loop-count : goal.invariant-loop-count
invariant-loop-count l = Wrote l.initial.out l.initial.next (numbers l.count-index l.fn.counts) l.out l.next
