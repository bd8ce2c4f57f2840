-- `rows_fit` meets its contract: each turn tests one more row.
use Rattle.std.proofs.Common.{sym, ◌∙◌, arith}
use Rattle.sheet_writer.proofs.Writing.{fit_next, fit_end, and_assoc, and-true}
use Rattle.sheet_writer.proofs.rows_fit.Goals as goal

pub loop-row-preserved : goal.loop-row-preserved
loop-row-preserved c = let a = c.args in let l = c.loop-row in
    l.invariant ∙ rw (fit_next a.n a.perm.now l.row-index (omega arith), c.row_or_none-fit.ensures) (sym (and_assoc l.fit _ _))

pub returns : goal.returns
returns c = let a = c.args in let l = c.loop-row in
    sym (l.invariant ∙ rw (fit_end a.n a.perm.now l.row-index (omega arith)) (and-true l.fit))
