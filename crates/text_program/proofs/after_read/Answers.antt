-- `after_read` meets its contract: the cases of a read's answer.
use Rattle.text_program.proofs.Inputs.{failed, ended, unfinished, full}
use Rattle.text_program.proofs.after_read.Goals as goal

pub returns-in_err-more : goal.returns-in_err-more
returns-in_err-more c = rw (c.from_residual.ensures, c.in_err-more.was) (failed c.args.at)

pub returns-then-more-eq0 : goal.returns-then-more-eq0
returns-then-more-eq0 c = rw c.in_ok-more.was (ended c.args.at c.in_ok-more.more c.if-more-eq0.true)

pub returns-then-at-more-lt-BUFFER_LENGTH : goal.returns-then-at-more-lt-BUFFER_LENGTH
returns-then-at-more-lt-BUFFER_LENGTH c =
    rw c.in_ok-more.was (unfinished c.args.at c.in_ok-more.more c.if-more-eq0.false c.if-at-more-lt-BUFFER_LENGTH.true)

pub returns : goal.returns
returns c = rw c.in_ok-more.was (full c.args.at c.in_ok-more.more c.if-more-eq0.false c.if-at-more-lt-BUFFER_LENGTH.false)
