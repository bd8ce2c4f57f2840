-- `layout::pointer_fault` meets its contract: its three tests are those of the definition, in their order.
use Rattle.std.proofs.Common.{rules, tests}
use Rattle.sparse.specs.Validate.{pointer_fault}
use Rattle.sparse.proofs.layout.pointer_fault.Goals as goal

pub returns-then-col_ptr-ne0 : goal.returns-then-col_ptr-ne0
unfolding pointer_fault
returns-then-col_ptr-ne0 c = search (rules, tests)

pub returns : goal.returns
unfolding pointer_fault
returns c = search (rules, tests)
