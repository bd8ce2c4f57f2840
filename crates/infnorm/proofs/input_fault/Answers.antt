-- The matrix is tested where the sizes are right.
use Rattle.std.proofs.Common.{◌≡◌, refl, ◌∙◌, rules}
use Rattle.refusal.specs.Number.{number, number_of}
use Rattle.refusal.proofs.Numbers.{number_ne_zero}
use Rattle.sparse.proofs.First.{answer_first, answer_second}
use Rattle.infnorm.specs.Call.{input_fault}
use Rattle.infnorm.proofs.input_fault.Goals as goal

pub returns-in_err-size_fault : goal.returns-in_err-size_fault
unfolding input_fault
returns-in_err-size_fault c =
    let e = c.in_err-size_fault.field-0.0 in
    let s : number_of c.from_residual.result ≡ number e = search rules in
    s ∙ answer_first _ c.in_err-size_fault.ensures (number_ne_zero e)

pub returns : goal.returns
unfolding input_fault
returns c = answer_second c.in_ok-size_fault.ensures refl c.validate.ensures.answer
