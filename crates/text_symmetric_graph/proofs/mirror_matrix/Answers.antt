-- `mirror_matrix` meets its contract: the kept count tells the case, and what is assembled is what the building requires.
use Rattle.std.proofs.Common.{◌∙◌}
use Rattle.mc64_columns.specs.Graphs.{slices}
use Rattle.whole_graphs.proofs.Theorems.{symmetric_ready}
use Rattle.text_symmetric_graph.proofs.Calls.{some_repeated, work_same, doubles, fine, holds, leaves}
use Rattle.text_symmetric_graph.proofs.mirror_matrix.Goals as goal

pub returns-then-kept-rows-clause-answer : goal.returns-then-kept-rows-clause-answer
returns-then-kept-rows-clause-answer c = some_repeated c.requires.symmetric_values c.assemble-kept.ensures c.if-kept-rows.true

pub build-requires-clause-triangle : goal.build-requires-clause-triangle
build-requires-clause-triangle c =
    let a = c.args in
    let pre = c.requires in
    let b = c.assemble-kept.ensures in
    let lent = slices a.graph_ptr.now a.graph_rows.now a.cost.now a.cmax.now c.assemble-kept.new.work in
    let work = work_same pre.symmetric_values b ∙ pre.sized.room in
    (symmetric_ready _ lent
    (fine pre.symmetric_values b c.if-kept-rows.false pre.roomy.row_room pre.roomy.value_room lent pre.graph_room pre.cmax_len work)
    (doubles pre.symmetric_values b c.if-kept-rows.false pre.roomy.row_room pre.roomy.value_room)).0

pub returns : goal.returns
returns c =
    let a = c.args in
    let pre = c.requires in
    let b = c.assemble-kept.ensures in
    let lent = slices a.graph_ptr.now a.graph_rows.now a.cost.now a.cmax.now c.assemble-kept.new.work in
    let work = work_same pre.symmetric_values b ∙ pre.sized.room in
    record {
      answer = holds pre.symmetric_values b c.if-kept-rows.false pre.roomy.row_room pre.roomy.value_room lent pre.graph_room pre.cmax_len work _ _
          c.build.ensures;
      slices = leaves pre.symmetric_values b c.if-kept-rows.false pre.roomy.row_room pre.roomy.value_room lent pre.graph_room pre.cmax_len work _ _
          c.build.ensures;
    }
