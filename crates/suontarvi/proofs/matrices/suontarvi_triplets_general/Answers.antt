-- What `from_triplets` promises of its answer by numbers is promised of the number over C.
use Rattle.std.proofs.Common.{sym, subst}
use Rattle.refusal.specs.Listed.{OneOf, general_triplet_numbers}
use Rattle.refusal.proofs.Numbers.{fault_numbered}
use Rattle.suontarvi.proofs.Counted.{counted}
use Rattle.suontarvi.proofs.matrices.suontarvi_triplets_general.Goals as goal

pub returns : goal.returns
returns c =
    let made = c.from_triplets.result in
    counted made c.told.ensures general_triplet_numbers c.from_triplets.ensures.outcome
    (subst (OneOf general_triplet_numbers) (sym (fault_numbered made)) c.from_triplets.ensures.number)
