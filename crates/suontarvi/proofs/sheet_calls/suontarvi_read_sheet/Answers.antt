-- A wrong length of `answer` is the answer, else what the reader answers is left.
use Rattle.std.proofs.Common.{◌∙◌, sym}
use Rattle.refusal.proofs.Numbers.{number_ne_zero}
use Rattle.sheet_reader.proofs.Theorems.{length-listed}
use Rattle.suontarvi.proofs.SheetResults.{unfit_read, was_read}
use Rattle.suontarvi.proofs.sheet_calls.suontarvi_read_sheet.Goals as goal

pub returns-then-answer-ne2 : goal.returns-then-answer-ne2
returns-then-answer-ne2 c =
    unfit_read _ _ _ c.if-answer-ne2.true (λ z. number_ne_zero c.length_fault.result (sym c.from.ensures ∙ z))
    (c.from.ensures ∙ c.length_fault.ensures) (length-listed _)

pub returns : goal.returns
returns c =
    was_read _ _ _ c.if-answer-ne2.false c.read_sheet.result c.leave.ensures.number c.leave.ensures.values c.read_sheet.ensures
