-- `input_fault`: each test is made where nothing else is wrong.
use Rattle.std.proofs.Common.{◌≡◌, refl, sym, rules}
use Rattle.std.specs.Prelude.{Err}
use Rattle.limits.specs.Limits.{max_general}
use Rattle.refusal.proofs.Numbers.{number_ne_zero}
use Rattle.sparse.proofs.First.{answer_first, answer_second}
use Rattle.sparse.proofs.Accepted.{sizes_accepted}
use Rattle.mc64_general.specs.Call.{input_fault}
use Rattle.mc64_general.proofs.input_fault.Goals as goal

pub returns-in_err-size_fault : goal.returns-in_err-size_fault
unfolding input_fault
returns-in_err-size_fault c =
    let same : c.from_residual.result ≡ Err c.in_err-size_fault.field-0.0 = search rules in
    rw same (answer_first _ c.in_err-size_fault.ensures (number_ne_zero _))

pub returns-in_err-validate : goal.returns-in_err-validate
unfolding input_fault
returns-in_err-validate c =
    let same : c.from_residual-in_err-validate.result ≡ Err c.in_err-validate.field-0.0 = search rules in
    let wrong = answer_first _ c.in_err-validate.ensures.answer (number_ne_zero _) in
    rw same (answer_second c.in_ok-size_fault.ensures refl wrong)

pub logs_fault-requires : goal.logs_fault-requires
logs_fault-requires c =
    let s = (sizes_accepted _ max_general _ _).0 (sym c.in_ok-size_fault.ensures) in
    (s.0, c.requires s.2)

pub returns : goal.returns
unfolding input_fault
returns c =
    answer_second c.in_ok-size_fault.ensures refl
    (answer_second c.in_ok-validate.ensures.answer refl c.logs_fault.ensures)
