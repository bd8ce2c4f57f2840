-- `row_number` meets its contract: each branch by its test.
use Rattle.std.proofs.Common.{◌+◌, ap, ℕ}
use borrow.Author.Tests.{eq-eqb, ne_eqb}
use Rattle.text_report.specs.Report.{row_number}
use Rattle.text_report.proofs.row_number.Goals as goal

pub returns-then-row-eq-NONE : goal.returns-then-row-eq-NONE
unfolding row_number
returns-then-row-eq-NONE c = rw (eq-eqb c.args.row 4294967295 c.if-row-eq-NONE.true)

pub returns-else-row-eq-NONE : goal.returns-else-row-eq-NONE
unfolding row_number
returns-else-row-eq-NONE c = rw (ne_eqb c.args.row 4294967295 c.if-row-eq-NONE.false) (ap (λ (n : ℕ). n + 1) c.from.ensures)
