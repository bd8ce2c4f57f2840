-- A wrong length of `answer` is the answer, else the match's by its two cases.
use Rattle.std.proofs.Common.{◌∙◌, sym}
use Rattle.refusal.proofs.Numbers.{number_ne_zero}
use Rattle.suontarvi.proofs.MatchResults.{unfit, refused, matched}
use Rattle.suontarvi.proofs.match_calls.suontarvi_match.Goals as goal

pub returns-then-answer-ne-ANSWER_LENGTH : goal.returns-then-answer-ne-ANSWER_LENGTH
returns-then-answer-ne-ANSWER_LENGTH c =
    unfit _ _ _ c.if-answer-ne-ANSWER_LENGTH.true (λ z. number_ne_zero c.length_fault.result (sym c.from.ensures ∙ z))
    (c.from.ensures ∙ c.length_fault.ensures)

pub returns-in-Ok : goal.returns-in-Ok
returns-in-Ok c = rw c.put_counts.ensures (matched _ _ _ c.if-answer-ne-ANSWER_LENGTH.false c.in-Ok.ensures)

pub returns-in-Err : goal.returns-in-Err
returns-in-Err c =
    rw c.from-in-Err.ensures (refused _ _ _ c.if-answer-ne-ANSWER_LENGTH.false (number_ne_zero c.in-Err.refusal) c.in-Err.ensures)
