-- `has_row`: the result of the search over the entries before the index.
use Rattle.std.proofs.Common.{◌+◌, eqb, get_or}
use Rattle.match_check.proofs.Every.{Some}
use Rattle.match_check.proofs.has_row.Given as goal

abbrev pub invariant-loop-entry : goal.invariant-loop-entry
invariant-loop-entry l =
    Some (λ k. eqb (get_or l.row_idx k 0) l.row) l.from l.to l.found (l.from + l.entry-index)
