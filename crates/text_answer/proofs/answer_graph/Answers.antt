-- `answer_graph` meets its contract: what the match of the graph leaves in the parts of the local arrays is printed.
use Rattle.std.proofs.Common.{◌≡◌, ◌∙◌, length}
use lib.Seq.{take_at}
use Rattle.hungarian_match.proofs.LocalArrays.{part_length}
use Rattle.text_answer.proofs.Reports.{rows_printable, columns_printable, text_is, wrote}
use Rattle.text_answer.proofs.answer_graph.Goals as goal

pub put_form-requires-clause-rows : goal.put_form-requires-clause-rows
put_form-requires-clause-rows c =
    let long : length c.solve-found.new.u ≡ c.args.n = c.solve-found.auto.u ∙ part_length _ 64 _ c.requires.few in
    rows_printable c.requires c.solve-found.ensures (take_at c.solve-found.new.u _ _ long)

pub put_form-requires-clause-columns : goal.put_form-requires-clause-columns
put_form-requires-clause-columns c =
    let long : length c.solve-found.new.v ≡ c.args.n = c.solve-found.auto.v ∙ part_length _ 64 _ c.requires.few in
    columns_printable c.requires c.solve-found.ensures (take_at c.solve-found.new.v _ _ long)

pub returns-clause-text : goal.returns-clause-text
returns-clause-text c =
    let left = c.solve-found.new in
    let perm : length left.perm ≡ c.args.n = c.solve-found.auto.perm ∙ part_length _ 64 _ c.requires.few in
    let u : length left.u ≡ c.args.n = c.solve-found.auto.u ∙ part_length _ 64 _ c.requires.few in
    let v : length left.v ≡ c.args.n = c.solve-found.auto.v ∙ part_length _ 64 _ c.requires.few in
    wrote _ (text_is c.requires c.solve-found.ensures c.args.form (take_at left.perm _ _ perm) (take_at left.u _ _ u) (take_at left.v _ _ v)
    c.put_counts.ensures) c.put_form.ensures.text c.put_form.ensures.length
