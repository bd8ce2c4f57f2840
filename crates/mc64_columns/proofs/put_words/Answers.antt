-- `put_words`: by the two sources of a log.
use mathlib.Core.Path.{sym, subst}
use Rattle.mc64_columns.specs.declared.LogSource.{LogSource}
use Rattle.mc64_columns.specs.inner.Steps.{WordsPut}
use Rattle.mc64_columns.proofs.Words.{lent_words, own_words}
use Rattle.mc64_columns.proofs.put_words.Goals as goal

pub returns-in-Lent : goal.returns-in-Lent
returns-in-Lent c =
    let a = c.args in
    subst (λ (s : LogSource). WordsPut s a.lent.now a.at a.words.now a.words.now) (sym c.in-Lent.is)
    (lent_words a.lent.now a.at a.words.now)

pub returns-in-Own : goal.returns-in-Own
returns-in-Own c =
    let a = c.args in
    subst (λ (s : LogSource). WordsPut s a.lent.now a.at a.words.now c.log_words.new.words) (sym c.in-Own.is)
    (own_words a.lent.now a.at a.words.now c.log_words.new.words c.log_words.ensures)
