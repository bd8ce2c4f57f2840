-- `store_records`: what comes of the records from `at` on is what comes of all.
use Rattle.std.proofs.Common.{◌≡◌, ◌-◌, length, drop}
use Rattle.matching.specs.Match.{match_of}
use Rattle.sheet.specs.Reading.{records_of}
use Rattle.sheet.specs.inner.Steps.{Inside}
use Rattle.sheet_reader.proofs.Storing.{stored_from}
use Rattle.sheet_reader.proofs.store_records.Given as goal

abbrev pub invariant-loop-at : goal.invariant-loop-at
invariant-loop-at l = record {
  inside : Inside (length l.fn.perm) (records_of (drop l.at l.sheet));
  same : stored_from l.sheet 2 (match_of l.fn.perm l.fn.u l.fn.v l.fn.cmax)
      ≡ stored_from l.sheet l.at (match_of l.perm l.u l.v l.cmax);
}

abbrev pub decreases-loop-at : goal.decreases-loop-at
decreases-loop-at l = length l.sheet - l.at
