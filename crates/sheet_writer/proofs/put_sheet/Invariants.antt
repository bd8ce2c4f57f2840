-- `put_sheet`: the records of the patches below k follow n.
use Rattle.matching.specs.Match.{match_of}
use Rattle.text_report.specs.inner.Steps.{Wrote}
use Rattle.sheet.specs.Format.{records_to}
use Rattle.sheet_writer.proofs.put_sheet.Given as goal

abbrev pub invariant-loop-k : goal.invariant-loop-k
invariant-loop-k l =
    Wrote l.initial.out l.initial.at (records_to l.k (match_of l.perm l.u l.v l.cmax)) l.out l.at
