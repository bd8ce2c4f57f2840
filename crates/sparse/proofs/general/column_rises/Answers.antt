-- `general::column_rises` meets its contract: an empty column has no fault, and one that rises to a row below n has none.
use Rattle.std.proofs.Common.{sym, arith}
use borrow.Author.Tests.{eq-eqb}
use Rattle.sparse.proofs.Rising.{rises_end, none_risen}
use Rattle.sparse.proofs.general.column_rises.Goals as goal

pub returns-then-from-to : goal.returns-then-from-to
returns-then-from-to c = sym (eq-eqb _ _ (none_risen _ _ _ _ c.if-from-to.true))

pub returns : goal.returns
returns c = rises_end _ _ _ _ c.loop-k.k c.loop-k.fine (omega arith) (omega arith) c.loop-k.invariant
