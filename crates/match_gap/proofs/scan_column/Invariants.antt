-- `scan_column`: both are the largest of the entries before k (`Scanning`).
use Rattle.match_gap.proofs.Scanning.{Scanning}
use Rattle.match_gap.proofs.scan_column.Given as goal

abbrev pub invariant-loop-k : goal.invariant-loop-k
invariant-loop-k l = Scanning l.unit l.row l.row_idx l.cost l.u l.dual l.from l.to l.excess l.lack l.k
