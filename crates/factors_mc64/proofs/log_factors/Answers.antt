-- `log_factors`: a fault is refused with nothing changed, an accepted call writes the factors.
use Rattle.std.proofs.Common.{◌≡◌, sym, rules}
use Rattle.std.specs.Prelude.{Err}
use Rattle.refusal.proofs.Numbers.{number_ne_zero}
use Rattle.factors_mc64.proofs.Outcomes.{fault_is, refuses, accepted, few_matched, applies}
use Rattle.factors_mc64.proofs.Theorems.{with_number}
use Rattle.factors_mc64.proofs.log_factors.Goals as goal

pub returns-in_err-call_fault : goal.returns-in_err-call_fault
returns-in_err-call_fault c =
    let fault = fault_is _ _ _ _ c.in_err-call_fault.ensures c.lengths_fit-lengths.ensures in
    let same : c.from_residual.result ≡ Err c.in_err-call_fault.field-0.0 = search rules in
    rw same (with_number _ _ _ _ (refuses _ _ _ _ fault (number_ne_zero _)))

pub write_factors-requires : goal.write_factors-requires
write_factors-requires c =
    accepted _ _ _ _ (sym (fault_is _ _ _ _ c.in_ok-call_fault.ensures c.lengths_fit-lengths.ensures))

pub answer-requires : goal.answer-requires
answer-requires c =
    few_matched _ _ _ _ (sym (fault_is _ _ _ _ c.in_ok-call_fault.ensures c.lengths_fit-lengths.ensures))

pub returns : goal.returns
returns c =
    let fault = fault_is _ _ _ _ c.in_ok-call_fault.ensures c.lengths_fit-lengths.ensures in
    with_number _ _ _ _ (applies _ _ _ _ (sym fault) c.answer.ensures c.write_factors.ensures)
