-- `finish::finish_columns`: perm and v below j are those of the definition.
use Rattle.hungarian.specs.inner.Layout.{region, jperm_at}
use Rattle.hungarian_match.proofs.Finishing.{Copied}
use Rattle.hungarian_match.proofs.finish.finish_columns.Given as goal

abbrev pub invariant-loop-j : goal.invariant-loop-j
invariant-loop-j l = Copied l.n l.row_idx l.cost l.u (region jperm_at l.n l.work) l.perm l.v l.j
