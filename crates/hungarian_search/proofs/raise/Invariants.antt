-- `hungarian_search::raise`: the duals of the rows before the index are raised, by Raises.
use Rattle.hungarian_search.proofs.Raises.{RaiseAt}
use Rattle.hungarian_search.proofs.raise.Given as goal

abbrev pub invariant-loop-row : goal.invariant-loop-row
invariant-loop-row l = RaiseAt l.d l.csp l.row-items l.initial.u l.u l.row-index
