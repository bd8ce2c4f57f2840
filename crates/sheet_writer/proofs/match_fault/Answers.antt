-- `match_fault` meets its contract: its test is the definition's.
use Rattle.sheet_writer.proofs.Calls.{match_fine, match_not}
use Rattle.sheet_writer.proofs.match_fault.Goals as goal

pub returns-then-fit-count : goal.returns-then-fit-count
returns-then-fit-count c = let a = c.args in
    match_fine a.n a.matched a.perm.now c.rows_fit-fit.ensures c.rows_present-count.ensures c.if-fit-count.true

pub returns : goal.returns
returns c = let a = c.args in
    match_not a.n a.matched a.perm.now c.rows_fit-fit.ensures c.rows_present-count.ensures c.if-fit-count.false
