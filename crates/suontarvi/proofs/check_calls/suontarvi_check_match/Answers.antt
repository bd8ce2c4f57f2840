-- What `check_match` promises of the number of its answer is promised of the number over C.
use Rattle.suontarvi.proofs.CheckResults.{check_number}
use Rattle.suontarvi.proofs.check_calls.suontarvi_check_match.Goals as goal

pub returns : goal.returns
returns c = check_number _ _ c.answer.ensures c.check_match.ensures
