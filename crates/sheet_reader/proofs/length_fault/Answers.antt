-- `length_fault` meets its contract: the fault of n, or 3.
use Rattle.sheet_reader.proofs.Calls.{length_number}
use Rattle.sheet_reader.proofs.length_fault.Goals as goal

pub returns : goal.returns
returns c = length_number c.args.sheet.now _ c.head_fault.ensures c.err.ensures.value c.unwrap_or.ensures
