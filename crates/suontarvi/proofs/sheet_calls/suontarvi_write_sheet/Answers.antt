-- A wrong length of `used` is the answer, else the writer's by its two cases.
use Rattle.std.proofs.Common.{◌∙◌, sym}
use Rattle.refusal.proofs.Numbers.{number_ne_zero}
use Rattle.suontarvi.proofs.SheetResults.{unfit_used, used, write_refused}
use Rattle.suontarvi.proofs.sheet_calls.suontarvi_write_sheet.Goals as goal

pub returns-then-used-ne1 : goal.returns-then-used-ne1
returns-then-used-ne1 c =
    unfit_used _ _ _ _ _ c.if-used-ne1.true (λ z. number_ne_zero c.length_fault.result (sym c.from.ensures ∙ z))
    (c.from.ensures ∙ c.length_fault.ensures)

pub returns-in-Ok : goal.returns-in-Ok
returns-in-Ok c = used _ _ _ _ _ c.if-used-ne1.false c.in-Ok.ensures

pub returns-in-Err : goal.returns-in-Err
returns-in-Err c =
    rw c.from-in-Err.ensures (write_refused _ _ _ _ _ c.if-used-ne1.false (number_ne_zero c.in-Err.refusal) c.in-Err.ensures)
