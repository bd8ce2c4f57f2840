-- `index_fault` meets its contract: its test is the definition's.
use Rattle.sheet_reader.proofs.Tested.{index_so, index_not}
use Rattle.sheet_reader.proofs.index_fault.Goals as goal

pub returns-then-r-n : goal.returns-then-r-n
returns-then-r-n c = index_so _ _ c.if-r-n.true

pub returns : goal.returns
returns c = index_not _ _ c.if-r-n.false
