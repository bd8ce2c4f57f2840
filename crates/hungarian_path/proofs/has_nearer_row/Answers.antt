-- `hungarian_path::has_nearer_row`: the heap is empty, or the key of its first row is compared.
use borrow.Author.Tests.{eq-eqb, ne_eqb}
use Rattle.hungarian_path.specs.inner.StepsGrow.{has_nearer_row}
use Rattle.hungarian_path.proofs.has_nearer_row.Goals as goal

pub returns-then-frontier-eq0 : goal.returns-then-frontier-eq0
unfolding has_nearer_row
returns-then-frontier-eq0 c = rw (eq-eqb _ 0 c.if-frontier-eq0.true)

pub returns : goal.returns
unfolding has_nearer_row
returns c = rw (ne_eqb _ 0 c.if-frontier-eq0.false)
