-- `entry_log`: by the two sources of a log.
use mathlib.Core.Path.{◌≡◌, sym, ap, ◌∙◌, subst}
use Rattle.whole_log.specs.Log.{whole_log, double_of}
use Rattle.log_lanes.specs.inner.Lanes.{answer_of}
use Rattle.mc64_columns.specs.declared.LogSource.{LogSource}
use Rattle.mc64_columns.specs.inner.Steps.{entry_log, WordOf}
use Rattle.mc64_columns.proofs.entry_log.Goals as goal

pub returns-in-Own : goal.returns-in-Own
returns-in-Own c =
    let word : answer_of c.args.word ≡ whole_log c.args.lent =
    subst (λ (s : LogSource). WordOf s c.args.lent c.args.word) c.in-Own.is c.requires in
    c.double_of.ensures ∙ ap double_of word ∙ sym (ap (λ (s : LogSource). entry_log s c.args.lent) c.in-Own.is)
