-- `csc::column_fine` meets its contract: a column that rises is tested by its first and last row alone.
use Rattle.std.proofs.Common.{sym, ◌∙◌, arith}
use borrow.Author.Tests.{eqb-true}
use Rattle.sparse.proofs.Rising.{none_risen, lower_risen}
use Rattle.sparse.proofs.csc.column_fine.Goals as goal

pub returns-then-from-to : goal.returns-then-from-to
returns-then-from-to c = λ t. lower_risen _ _ _ _ _ (λ h. absurd (omega (arith, c.if-from-to.true))) (none_risen _ _ _ _ c.if-from-to.true)

pub returns-then-row_idx-from : goal.returns-then-row_idx-from
returns-then-row_idx-from c = λ t. lower_risen _ _ _ _ _ (λ h. c.if-row_idx-from.true) (eqb-true _ _ (sym c.column_rises.ensures ∙ t))
