-- `csc::rising_fault`: the rows rise up to the place before k.
use Rattle.std.proofs.Common.{pred, ◌-◌}
use Rattle.sparse.specs.Validate.{rising_pair, rising_column}
use Rattle.sparse.proofs.First.{Passed}
use Rattle.sparse.proofs.csc.rising_fault.Given as goal

abbrev pub invariant-loop-k : goal.invariant-loop-k
invariant-loop-k l = Passed (rising_column l.row_idx l.from l.to) (rising_pair l.row_idx) (pred l.to) (l.k - 1)
