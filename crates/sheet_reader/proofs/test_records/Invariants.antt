-- `test_records`: the fault is that of the records from `at` on.
use Rattle.std.proofs.Common.{◌≡◌, ◌-◌, ◌≤◌, length}
use Rattle.sheet_reader.proofs.Tested.{fault_from}
use Rattle.sheet_reader.proofs.test_records.Given as goal

abbrev pub invariant-loop-at : goal.invariant-loop-at
invariant-loop-at l = record {
  after_n : 2 ≤ l.at;
  fault : fault_from l.n l.sheet l.fn.marks 2 ≡ fault_from l.n l.sheet l.marks l.at;
}

abbrev pub decreases-loop-at : goal.decreases-loop-at
decreases-loop-at l = length l.sheet - l.at
