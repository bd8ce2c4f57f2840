-- `rows_present`: the rows counted and those from the index on are all.
use Rattle.std.proofs.Common.{◌≡◌, ◌+◌, ◌≤◌, drop}
use Rattle.sheet.specs.Format.{rows_present}
use Rattle.sheet.proofs.rows_present.Given as goal

abbrev pub invariant-loop-row : goal.invariant-loop-row
invariant-loop-row l = record {
  few : l.count ≤ l.row-index;
  counted : rows_present l.perm ≡ l.count + rows_present (drop l.row-index l.perm);
}
