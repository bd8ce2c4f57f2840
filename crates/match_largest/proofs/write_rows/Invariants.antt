-- `write_rows`: the marks before i are written.
use Rattle.std.proofs.Common.{◌≡◌, length, get_or, take}
use Rattle.slices.specs.Lists.{tabulate}
use Rattle.match_largest.proofs.write_rows.Given as goal

abbrev pub invariant-loop-i : goal.invariant-loop-i
invariant-loop-i l = take l.i l.rows ≡ take l.i (tabulate (length l.fn.rows) (λ r. get_or l.met r 0))
