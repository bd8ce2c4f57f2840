-- Each way out by its law: the external choice, a wrong length of `info`, an unknown choice, and what the chooser answers.
use Rattle.std.proofs.Common.{◌∙◌, sym}
use Rattle.refusal.proofs.Numbers.{number_ne_zero, fault_numbered}
use Rattle.suontarvi.proofs.ScalingResults.{refused, unfit, unknown, chosen, promised}
use Rattle.suontarvi.proofs.scaling_calls.suontarvi_scaling.Goals as goal

pub returns-then-choice-eq4 : goal.returns-then-choice-eq4
returns-then-choice-eq4 c =
    promised _ _ _ _ _ _ (λ k h. c.type_inv.logs k)
    (refused _ _ _ _ _ _ c.if-choice-eq4.true (λ z. number_ne_zero c.external_fault.result (sym c.from.ensures ∙ z))
    (c.from.ensures ∙ c.external_fault.ensures))

pub returns-then-info-ne2 : goal.returns-then-info-ne2
returns-then-info-ne2 c =
    promised _ _ _ _ _ _ (λ k h. c.type_inv.logs k)
    (unfit _ _ _ _ _ _ c.if-choice-eq4.false c.if-info-ne2.true
    (λ z. number_ne_zero c.length_fault.result (sym c.from-then-info-ne2.ensures ∙ z))
    (c.from-then-info-ne2.ensures ∙ c.length_fault.ensures))

pub returns-then-choice-gt4 : goal.returns-then-choice-gt4
returns-then-choice-gt4 c =
    promised _ _ _ _ _ _ (λ k h. c.type_inv.logs k)
    (unknown _ _ _ _ _ _ c.if-choice-eq4.false c.if-info-ne2.false c.if-choice-gt4.true
    (λ z. number_ne_zero c.no_choice.result (sym c.from-then-choice-gt4.ensures ∙ z))
    (c.from-then-choice-gt4.ensures ∙ c.no_choice.ensures))

pub returns : goal.returns
returns c =
    promised _ _ _ _ _ _ (λ k h. c.type_inv.logs k)
    (chosen _ _ _ _ _ _ c.if-choice-eq4.false c.if-info-ne2.false c.if-choice-gt4.false
    c.strategy_for-strategy.ensures c.compute_scaling-done.ensures.outcome
    (c.answer.ensures ∙ c.put_info.ensures.0 ∙ sym (fault_numbered c.compute_scaling-done.result)) c.put_info.ensures.1)
