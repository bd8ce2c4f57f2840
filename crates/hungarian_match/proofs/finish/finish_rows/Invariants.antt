-- `finish::finish_rows`: the duals below i are finished.
use Rattle.std.proofs.Common.{◌≡◌}
use Rattle.hungarian.specs.Match.{row_duals}
use Rattle.hungarian.specs.inner.Layout.{region, iperm_at}
use Rattle.hungarian_match.proofs.Finishing.{finished_to}
use Rattle.hungarian_match.proofs.finish.finish_rows.Given as goal

abbrev pub invariant-loop-i : goal.invariant-loop-i
invariant-loop-i l =
    finished_to l.i (region iperm_at l.n l.work) l.u ≡ row_duals (region iperm_at l.n l.work) l.initial.u
