-- `repeat_fault` meets its contract: by its test.
use Rattle.sheet_reader.proofs.Tested.{mark_none, mark_some}
use Rattle.sheet_reader.proofs.repeat_fault.Goals as goal

pub returns-then-mark-eq0 : goal.returns-then-mark-eq0
returns-then-mark-eq0 c = mark_none _ c.if-mark-eq0.true

pub returns : goal.returns
returns c = mark_some _ c.if-mark-eq0.false
