-- `general::first_fault`: no entry before this one has a fault, and `least` is the least row that it may have.
use Rattle.std.proofs.Common.{◌≡◌, ◌+◌}
use Rattle.sparse.specs.Validate.{general_entry, general_column}
use Rattle.sparse.proofs.First.{Passed}
use Rattle.sparse.proofs.Entries as Entries
use Rattle.sparse.proofs.general.first_fault.Given as goal

abbrev pub invariant-loop-row : goal.invariant-loop-row
invariant-loop-row l = record {
  least : l.least ≡ Entries.least l.row_idx l.from (l.from + l.row-index);
  passed : Passed (general_column l.n l.row_idx l.from l.to) (general_entry l.n l.row_idx l.from) l.to (l.from + l.row-index);
}
