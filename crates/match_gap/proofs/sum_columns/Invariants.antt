-- `sum_columns`: what the columns before j add up to (`Summing`).
use Rattle.match_check.specs.Check.{claim}
use Rattle.match_gap.proofs.Summing.{Summing}
use Rattle.match_gap.proofs.sum_columns.Given as goal

abbrev pub invariant-loop-j : goal.invariant-loop-j
invariant-loop-j l = Summing l.unit l.n l.col_ptr l.row_idx l.cost (claim l.perm l.u l.v) l.gap l.j
