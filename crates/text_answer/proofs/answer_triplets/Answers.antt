-- `answer_triplets` meets its contract: the entries are assembled in parts of the local arrays, and the kept count tells the case.
use Rattle.std.proofs.Common.{◌≡◌, ap, ◌∙◌, ◌+◌, ◌≤◌, List, ℕ, length, arith}
use lib.Seq.{take_at}
use Rattle.hungarian_match.proofs.LocalArrays.{part_length}
use Rattle.text_report.specs.Report.{refused_text}
use Rattle.text_answer.specs.Answer.{report_written}
use Rattle.text_answer.proofs.Reports.{wrote}
use Rattle.text_answer.proofs.Assembly.{repeated_text, reportable, graph_text_lem}
use Rattle.text_answer.proofs.answer_triplets.Goals as goal

pub returns-then-kept-len-clause-text : goal.returns-then-kept-len-clause-text
returns-then-kept-len-clause-text c = λ weights v.
    wrote _ (ap refused_text c.from.ensures ∙ repeated_text c.requires c.assemble-kept.ensures c.args.form c.if-kept-len.true weights)
    c.put_refused.ensures.text c.put_refused.ensures.length

pub answer_graph-requires : goal.answer_graph-requires
answer_graph-requires c =
    let left = c.assemble-kept.new in
    let auto = c.assemble-kept.auto in
    let few : c.args.n + 1 ≤ 65 = omega (arith, c.requires.held.few) in
    let short = c.requires.held.short in
    let pointers : length left.col_ptr ≡ c.args.n + 1 = auto.col_ptr ∙ part_length _ 65 _ few in
    let rows : length left.row_idx ≡ length c.args.rows.now = auto.row_idx ∙ part_length _ 512 _ short in
    let costs : length left.values ≡ length c.args.rows.now = auto.values ∙ part_length _ 512 _ short in
    reportable c.requires c.assemble-kept.ensures c.if-kept-len.false (part_length _ 512 _ short) (part_length _ 512 _ short)
    (take_at left.col_ptr _ _ pointers) (take_at left.row_idx _ _ rows) (take_at left.values _ _ costs)

pub returns-clause-text : goal.returns-clause-text
returns-clause-text c = λ weights v.
    let left = c.assemble-kept.new in
    let auto = c.assemble-kept.auto in
    let few : c.args.n + 1 ≤ 65 = omega (arith, c.requires.held.few) in
    let short = c.requires.held.short in
    let pointers : length left.col_ptr ≡ c.args.n + 1 = auto.col_ptr ∙ part_length _ 65 _ few in
    let rows : length left.row_idx ≡ length c.args.rows.now = auto.row_idx ∙ part_length _ 512 _ short in
    let costs : length left.values ≡ length c.args.rows.now = auto.values ∙ part_length _ 512 _ short in
    c.answer_graph.ensures.text
    ∙ ap (λ (text : List ℕ). report_written text c.args.output.now)
    (graph_text_lem c.requires c.assemble-kept.ensures c.if-kept-len.false (part_length _ 512 _ short) (part_length _ 512 _ short)
    (take_at left.col_ptr _ _ pointers) (take_at left.row_idx _ _ rows) (take_at left.values _ _ costs) c.args.form weights v)
