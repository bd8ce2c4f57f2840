-- `scan`: the entries before k are done (`Scanning`).
use Rattle.sparse.specs.Pattern.{pattern}
use Rattle.match_largest.proofs.Sweeps.{Scanning}
use Rattle.match_largest.proofs.scan.Given as goal

abbrev pub invariant-loop-k : goal.invariant-loop-k
invariant-loop-k l = Scanning (pattern l.n l.col_ptr l.row_idx) l.inverse l.met l.queue l.head l.j l.k l.last
