-- `records_fault` meets its contract: no patch is marked before the first record.
use Rattle.sheet.specs.Reading.{no_marks}
use Rattle.sheet_reader.proofs.records_fault.Goals as goal

pub returns : goal.returns
unfolding no_marks
returns c = c.test_records.ensures
