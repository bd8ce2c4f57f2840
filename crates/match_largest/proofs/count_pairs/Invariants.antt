-- `count_pairs`: the count of the columns before the index.
use Rattle.std.proofs.Common.{◌≡◌, not, eqb}
use Rattle.limits.specs.Limits.{none}
use Rattle.matching.specs.Sum.{sum_to, or_zero}
use Rattle.match_largest.specs.Marks.{row_at}
use Rattle.match_largest.proofs.count_pairs.Given as goal

abbrev pub invariant-loop-row : goal.invariant-loop-row
invariant-loop-row l = l.count ≡ sum_to l.row-index (λ c. or_zero (not (eqb (row_at l.perm c) none)) 1)
