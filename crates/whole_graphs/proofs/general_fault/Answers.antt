-- `general_fault`: each test is made where nothing else is wrong.
use Rattle.std.proofs.Common.{◌≡◌, refl, rules}
use Rattle.std.specs.Prelude.{Err}
use Rattle.refusal.proofs.Numbers.{number_ne_zero}
use Rattle.sparse.proofs.First.{answer_first, answer_second}
use Rattle.whole_graphs.specs.Graphs.{general_input_fault}
use Rattle.whole_graphs.proofs.general_fault.Goals as goal

pub returns-in_err-size_fault : goal.returns-in_err-size_fault
unfolding general_input_fault
returns-in_err-size_fault c =
    let same : c.from_residual.result ≡ Err c.in_err-size_fault.field-0.0 = search rules in
    rw same (answer_first _ c.in_err-size_fault.ensures (number_ne_zero _))

pub returns-in_err-validate : goal.returns-in_err-validate
unfolding general_input_fault
returns-in_err-validate c =
    let same : c.from_residual-in_err-validate.result ≡ Err c.in_err-validate.field-0.0 = search rules in
    let wrong = answer_first _ c.in_err-validate.ensures.answer (number_ne_zero _) in
    rw same (answer_second c.in_ok-size_fault.ensures refl wrong)

pub returns : goal.returns
unfolding general_input_fault
returns c =
    answer_second c.in_ok-size_fault.ensures refl
    (answer_second c.in_ok-validate.ensures.answer refl c.values_fault.ensures)
