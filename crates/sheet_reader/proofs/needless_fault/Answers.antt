-- `needless_fault` meets its contract: the definition's test, by the map of the fields.
use Rattle.sheet_reader.proofs.Tested.{needless_is}
use Rattle.sheet_reader.proofs.needless_fault.Goals as goal

pub returns-then-r-map : goal.returns-then-r-map
returns-then-r-map c = needless_is _ c.bits_of-map.ensures c.if-r-map.true

pub returns : goal.returns
returns c = needless_is _ c.bits_of-map.ensures c.if-r-map.false
