-- `csc::lower_fault` meets its contract: each entry has the fault that its tests say, or none.
use Rattle.std.proofs.Common.{refl, arith}
use Rattle.sparse.specs.Validate.{lower_column}
use Rattle.sparse.proofs.First.{pass, found, done}
use Rattle.sparse.proofs.Entries.{lower_range, lower_above, lower_right}
use Rattle.sparse.proofs.csc.lower_fault.Goals as goal

pub loop-k-init : goal.loop-k-init
unfolding lower_column
loop-k-init c = refl

pub returns-then-row-n : goal.returns-then-row-n
returns-then-row-n c =
    let a = c.args in let l = c.loop-k in
    found _ _ l.k l.invariant (omega arith) (lower_range a.n a.row_idx.now l.k a.j c.if-row-n.true) (omega arith)

pub returns-then-row-j : goal.returns-then-row-j
returns-then-row-j c =
    let a = c.args in let l = c.loop-k in
    found _ _ l.k l.invariant (omega arith) (lower_above a.n a.row_idx.now l.k a.j c.if-row-n.false c.if-row-j.true) (omega arith)

pub loop-k-preserved : goal.loop-k-preserved
loop-k-preserved c =
    let a = c.args in let l = c.loop-k in
    pass _ _ l.k l.invariant (omega arith) (lower_right a.n a.row_idx.now l.k a.j c.if-row-n.false c.if-row-j.false)

pub returns : goal.returns
returns c = done _ _ c.loop-k.k c.loop-k.invariant (omega arith)
