-- `general::column_rises`: `fine` holds exactly if the rows rise below k.
use Rattle.std.proofs.Common.{◌≡◌, true, ◌↔◌}
use Rattle.sparse.proofs.Rising.{RisesTo}
use Rattle.sparse.proofs.general.column_rises.Given as goal

abbrev pub invariant-loop-k : goal.invariant-loop-k
invariant-loop-k l = (l.fine ≡ true) ↔ RisesTo l.row_idx l.from l.k
