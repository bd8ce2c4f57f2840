-- `answer_input` meets its contract: what was read is a file or a refusal.
use Rattle.std.proofs.Common.{◌∙◌, sym, ap, List, ℕ, arith}
use lib.Seq.{length-take-le}
use Rattle.text_matrix_market.specs.inner.Steps.{Lists, lists, Places}
use Rattle.text_matrix_market.specs.File.{max_entries}
use Rattle.text_report.specs.Report.{refused_text}
use Rattle.text_answer.specs.Answer.{report_written}
use Rattle.text_answer.proofs.Reports.{wrote}
use Rattle.text_answer.proofs.Files.{count_fits, entries_are, text_is, refused_text_lem}
use Rattle.text_answer.proofs.answer_input.Goals as goal
use Rattle.text_answer.proofs.answer_input.Goals.{In-Ok}

-- the lists after a file was read
abbrev left : In-Ok → Lists
left c = lists c.read_file.new.rows c.read_file.new.columns c.read_file.new.weights

places : (c : In-Ok) → Places max_entries (left c)
places c = (omega (arith, c.read_file.auto.rows), omega (arith, c.read_file.auto.columns), omega (arith, c.read_file.auto.weights))

fits : (c : In-Ok) → Places c.in-Ok.field-0.count (left c)
fits c = count_fits c.in-Ok.field-0.count c.args.input.now (left c) c.in-Ok.ensures.reading (places c)

pub slice_bounds-rows-end : goal.slice_bounds-rows-end
slice_bounds-rows-end c = (fits (goal.at.slice_bounds-rows-end c).In-Ok).0

pub slice_bounds-answer_entries-end : goal.slice_bounds-answer_entries-end
slice_bounds-answer_entries-end c = sym (length-take-le _ _ (fits (goal.at.slice_bounds-answer_entries-end c).In-Ok).0)

pub slice_bounds-cols-end : goal.slice_bounds-cols-end
slice_bounds-cols-end c = (fits (goal.at.slice_bounds-cols-end c).In-Ok).1

pub slice_bounds-answer_entries-end-in-Ok : goal.slice_bounds-answer_entries-end-in-Ok
slice_bounds-answer_entries-end-in-Ok c = sym (length-take-le _ _ (fits (goal.at.slice_bounds-answer_entries-end-in-Ok c).In-Ok).1)

pub slice_bounds-weights-end : goal.slice_bounds-weights-end
slice_bounds-weights-end c = (fits (goal.at.slice_bounds-weights-end c).In-Ok).2

pub slice_bounds-answer_entries-end-in-Ok-2 : goal.slice_bounds-answer_entries-end-in-Ok-2
slice_bounds-answer_entries-end-in-Ok-2 c = sym (length-take-le _ _ (fits (goal.at.slice_bounds-answer_entries-end-in-Ok-2 c).In-Ok).2)

pub answer_entries-requires : goal.answer_entries-requires
answer_entries-requires c =
    let at = (goal.at.answer_entries-requires c).In-Ok in
    entries_are c.in-Ok.field-0.count c.args.input.now (left at) c.in-Ok.ensures.reading (places at) c.requires

pub returns-in-Ok-clause-text : goal.returns-in-Ok-clause-text
returns-in-Ok-clause-text c =
    let at = (goal.at.returns-in-Ok-clause-text c).In-Ok in
    c.answer_entries.ensures.text
    ∙ ap (λ (text : List ℕ). report_written text c.args.output.now)
    (text_is c.in-Ok.field-0.count c.args.input.now (left at) c.in-Ok.ensures.reading (places at) c.args.form)

pub returns-in-Err-clause-text : goal.returns-in-Err-clause-text
returns-in-Err-clause-text c =
    wrote _ (ap refused_text c.from.ensures ∙ refused_text_lem c.args.form _ c.in-Err.ensures.reading) c.put_refused.ensures.text c.put_refused.ensures.length
