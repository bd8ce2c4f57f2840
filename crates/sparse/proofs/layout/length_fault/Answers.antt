-- `layout::length_fault` meets its contract: each return follows the tests before it.
use Rattle.std.proofs.Common.{rules, tests}
use Rattle.sparse.specs.Validate.{size_fault}
use Rattle.sparse.proofs.layout.length_fault.Goals as goal

pub returns-then-n-gt-MAX_COLUMNS : goal.returns-then-n-gt-MAX_COLUMNS
unfolding size_fault
returns-then-n-gt-MAX_COLUMNS c = search (rules, tests)

pub returns-then-count-limit : goal.returns-then-count-limit
unfolding size_fault
returns-then-count-limit c = search (rules, tests)

pub returns-else-count-limit : goal.returns-else-count-limit
unfolding size_fault
returns-else-count-limit c = search (rules, tests)
