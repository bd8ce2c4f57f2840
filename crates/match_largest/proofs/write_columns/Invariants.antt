-- `write_columns`: the marks before j are written.
use Rattle.std.proofs.Common.{◌≡◌, length, get_or, take, eqb, cond}
use Rattle.limits.specs.Limits.{none}
use Rattle.slices.specs.Lists.{tabulate}
use Rattle.match_largest.specs.Marks.{row_at}
use Rattle.match_largest.proofs.write_columns.Given as goal

abbrev pub invariant-loop-j : goal.invariant-loop-j
invariant-loop-j l =
    take l.j l.columns
    ≡ take l.j (tabulate (length l.perm) (λ c. cond (eqb (row_at l.perm c) none) 1 (get_or l.met (row_at l.perm c) 0)))
