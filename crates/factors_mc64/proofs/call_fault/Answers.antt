-- `call_fault`: the sizes' fault, else the matching's.
use Rattle.refusal.proofs.Numbers.{number_ne_zero}
use Rattle.std.proofs.Common.{◌≡◌, refl, rules}
use Rattle.std.specs.Prelude.{Err}
use Rattle.sparse.proofs.First.{answer_first, answer_second}
use Rattle.factors_mc64.proofs.call_fault.Goals as goal

pub returns-in_err-size_fault : goal.returns-in_err-size_fault
returns-in_err-size_fault c =
    let same : c.from_residual.result ≡ Err c.in_err-size_fault.field-0.0 = search rules in
    rw same (answer_first _ c.in_err-size_fault.ensures (number_ne_zero _))

pub returns : goal.returns
returns c = answer_second c.in_ok-size_fault.ensures refl c.matching_fault.ensures
