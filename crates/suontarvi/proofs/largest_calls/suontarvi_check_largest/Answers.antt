-- What `check_largest` promises of the number of its answer is promised of the number over C.
use Rattle.suontarvi.proofs.LargestResults.{largest_number}
use Rattle.suontarvi.proofs.largest_calls.suontarvi_check_largest.Goals as goal

pub returns : goal.returns
returns c = largest_number _ _ _ c.answer.ensures c.check_largest.ensures
