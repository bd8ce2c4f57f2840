-- `answer_symmetric` meets its contract: the graph is built in parts of the local arrays, or a pair occurs twice.
use Rattle.std.proofs.Common.{◌≡◌, ap, ◌∙◌, ◌+◌, ◌*◌, ◌≤◌, List, ℕ, length, arith}
use lib.Seq.{take_at, take-append-le}
use Rattle.hungarian_match.proofs.LocalArrays.{part_length}
use Rattle.text_report.specs.Report.{refused_text}
use Rattle.text_answer.specs.Answer.{report_written}
use Rattle.text_answer.proofs.Reports.{wrote}
use Rattle.text_answer.proofs.Mirrors.{reportable, graph_text_lem, repeated_text}
use Rattle.text_answer.proofs.answer_symmetric.Goals as goal

pub answer_graph-requires : goal.answer_graph-requires
answer_graph-requires c =
    let left = c.symmetric_graph-built.new in
    let auto = c.symmetric_graph-built.auto in
    let holds = c.in-Some.ensures.answer in
    let few : c.args.n + 1 ≤ 65 = omega (arith, c.requires.held.few) in
    let short : 2 * length c.args.rows.now ≤ 1024 = omega (arith, c.requires.held.short) in
    let pointers : length left.graph_ptr ≡ c.args.n + 1 = auto.graph_ptr ∙ part_length _ 65 _ few in
    let rows : c.in-Some.kept ≤ length left.graph_rows = omega (arith, holds.fits, auto.graph_rows ∙ part_length _ 1024 _ short) in
    let costs : c.in-Some.kept ≤ length left.cost = omega (arith, holds.fits, auto.cost ∙ part_length _ 1024 _ short) in
    reportable c.requires left.graph_ptr left.graph_rows left.cost holds (take_at left.graph_ptr _ _ pointers)
    (take-append-le c.in-Some.kept left.graph_rows _ rows) (take-append-le c.in-Some.kept left.cost _ costs)

pub returns-in-Some-clause-text : goal.returns-in-Some-clause-text
returns-in-Some-clause-text c = λ weights v.
    let left = c.symmetric_graph-built.new in
    let auto = c.symmetric_graph-built.auto in
    let holds = c.in-Some.ensures.answer in
    let few : c.args.n + 1 ≤ 65 = omega (arith, c.requires.held.few) in
    let short : 2 * length c.args.rows.now ≤ 1024 = omega (arith, c.requires.held.short) in
    let pointers : length left.graph_ptr ≡ c.args.n + 1 = auto.graph_ptr ∙ part_length _ 65 _ few in
    let rows : c.in-Some.kept ≤ length left.graph_rows = omega (arith, holds.fits, auto.graph_rows ∙ part_length _ 1024 _ short) in
    let costs : c.in-Some.kept ≤ length left.cost = omega (arith, holds.fits, auto.cost ∙ part_length _ 1024 _ short) in
    c.answer_graph.ensures.text
    ∙ ap (λ (text : List ℕ). report_written text c.args.output.now)
    (graph_text_lem c.requires left.graph_ptr left.graph_rows left.cost holds (take_at left.graph_ptr _ _ pointers)
    (take-append-le c.in-Some.kept left.graph_rows _ rows) (take-append-le c.in-Some.kept left.cost _ costs) c.args.form weights v)

pub returns-in-None-clause-text : goal.returns-in-None-clause-text
returns-in-None-clause-text c = λ weights v.
    wrote _ (ap refused_text c.from.ensures ∙ repeated_text c.requires c.args.form c.in-None.ensures.answer weights)
    c.put_refused.ensures.text c.put_refused.ensures.length
