-- `column_holds`: the result of the test over the entries before k.
use Rattle.std.proofs.Common.{eqb, get_or}
use Rattle.std.specs.Float.{nan, binary64}
use Rattle.std.specs.Float.Ieee.{add}
use Rattle.match_check.proofs.Every.{Every}
use Rattle.match_check.proofs.column_holds.Given as goal

abbrev pub invariant-loop-k : goal.invariant-loop-k
invariant-loop-k g l =
    Every
    (λ k. g.holds (eqb (get_or l.row_idx k 0) l.pair) (add binary64 (get_or l.u (get_or l.row_idx k 0) nan) l.dual)
    (get_or l.cost k nan))
    l.from l.to l.fine l.k
