-- `layout::size_fault` meets its contract: where a test fails, the first that fails is the first with wrong lengths too.
use Rattle.std.proofs.Common.{rules, tests}
use Rattle.sparse.specs.Validate.{size_fault}
use Rattle.sparse.proofs.layout.size_fault.Goals as goal

pub returns-then-count-limit : goal.returns-then-count-limit
unfolding size_fault
returns-then-count-limit c = search (rules, tests)

pub returns : goal.returns
unfolding size_fault
returns c = search (rules, tests)
