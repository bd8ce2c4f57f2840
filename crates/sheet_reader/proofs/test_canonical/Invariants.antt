-- `test_canonical`: the fault is that of the records from `at` on.
use Rattle.std.proofs.Common.{◌≡◌, ◌-◌, ◌≤◌, length}
use Rattle.sheet_reader.proofs.Tested.{canonical_from}
use Rattle.sheet_reader.proofs.test_canonical.Given as goal

abbrev pub invariant-loop-at : goal.invariant-loop-at
invariant-loop-at l = record {
  after_n : 2 ≤ l.at;
  fault : canonical_from l.n l.sheet 0 2 ≡ canonical_from l.n l.sheet l.next l.at;
}

abbrev pub decreases-loop-at : goal.decreases-loop-at
decreases-loop-at l = length l.sheet - l.at
