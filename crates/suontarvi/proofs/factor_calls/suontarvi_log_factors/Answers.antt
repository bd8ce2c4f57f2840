-- The answer by its cases: a wrong length of `unmatched`, the count of each kind of factors, and a refusal.
use Rattle.std.proofs.Common.{◌∙◌, sym}
use Rattle.refusal.proofs.Numbers.{number_ne_zero}
use Rattle.factors_mc64.specs.declared.Scaled.TheVariants.{Applied, PartialSingular}
use Rattle.suontarvi.proofs.FactorResults.{unfit, done, refused}
use Rattle.suontarvi.proofs.factor_calls.suontarvi_log_factors.Goals as goal

pub returns-then-unmatched-ne1 : goal.returns-then-unmatched-ne1
returns-then-unmatched-ne1 c =
    unfit _ _ _ _ _ c.if-unmatched-ne1.true (λ z. number_ne_zero c.length_fault.result (sym c.from.ensures ∙ z))
    (c.from.ensures ∙ c.length_fault.ensures)

pub returns-in-Ok-Applied : goal.returns-in-Ok-Applied
returns-in-Ok-Applied c =
    let promised = rw c.in-Ok-Applied.field-0-is at c.in-Ok-Applied.ensures in
    done _ _ _ _ _ c.if-unmatched-ne1.false Applied promised.outcome

pub returns-in-Ok-PartialSingular : goal.returns-in-Ok-PartialSingular
returns-in-Ok-PartialSingular c =
    let promised = rw c.in-Ok-PartialSingular.field-0-is at c.in-Ok-PartialSingular.ensures in
    done _ _ _ _ _ c.if-unmatched-ne1.false (PartialSingular c.in-Ok-PartialSingular.count) promised.outcome

pub returns-in-Err : goal.returns-in-Err
returns-in-Err c = rw c.from-in-Err.ensures (refused _ _ _ _ _ c.if-unmatched-ne1.false c.in-Err.ensures.outcome)
