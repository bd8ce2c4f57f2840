-- `whole_symmetric_graph`: the tests establish what the building requires, and the graph that is left has whole costs.
use Rattle.std.proofs.Common.{◌≡◌, sym, ap, ◌∙◌, rules}
use Rattle.std.specs.Prelude.{Err}
use Rattle.refusal.proofs.Numbers.{number_ne_zero}
use Rattle.sparse.specs.Matrix.{Matrix, matrix}
use Rattle.mc64_columns.specs.Columns.{value_logs}
use Rattle.mc64_columns.specs.Graphs.{Slices, slices}
use Rattle.mc64_symmetric.specs.Graph.{mirrored_columns}
use Rattle.mc64_columns.proofs.Calls.{in_list, refused, accepted}
use Rattle.whole_graphs.specs.Graphs.{symmetric_input_fault, whole_symmetric_fault, whole_symmetric_graph}
use Rattle.whole_graphs.proofs.Theorems.{Doubles, left_built, symmetric_ready, symmetric_optimal, symmetric_fault_listed}
use Rattle.whole_graphs.proofs.whole_symmetric_graph.Goals as goal
use Rattle.whole_graphs.proofs.whole_symmetric_graph.Goals.{After-lengths_fit-fit, In_ok-symmetric_fault}

-- the matrix, and what is lent for its graph
abbrev stored : After-lengths_fit-fit → Matrix
stored c = let a = c.args in matrix a.n a.col_ptr.now a.row_idx.now a.values.now

abbrev lent : After-lengths_fit-fit → Slices
lent c = let a = c.args in slices a.graph_ptr.now a.graph_rows.now a.cost.now a.cmax.now a.work.now

-- the fault of the lengths as tested is that of what is lent
same_fault : (c : After-lengths_fit-fit) → symmetric_input_fault (stored c) c.lengths_fit-fit.result ≡ whole_symmetric_fault (stored c) (lent c)
same_fault c = ap (symmetric_input_fault (stored c)) c.lengths_fit-fit.ensures

pub returns-in_err-symmetric_fault : goal.returns-in_err-symmetric_fault
unfolding whole_symmetric_graph
returns-in_err-symmetric_fault c =
    let s = (goal.at.returns-in_err-symmetric_fault c).After-lengths_fit-fit in
    let fault = c.in_err-symmetric_fault.ensures ∙ same_fault s in
    let p = refused c.args.n (mirrored_columns (stored s)) (value_logs c.args.values.now) (lent s) _ _ fault (number_ne_zero _) in
    let same : c.from_residual.result ≡ Err c.in_err-symmetric_fault.field-0.0 = search rules in
    rw same (record {
      outcome = p.0;
      answered = p.1;
      optimal = λ z. absurd (number_ne_zero _ z);
      number = in_list (symmetric_fault_listed (stored s) (lent s)) p.1;
    })

pub build-kept-requires : goal.build-kept-requires
build-kept-requires c =
    let s = (goal.at.build-kept-requires c).After-lengths_fit-fit in
    let fine = sym (c.in_ok-symmetric_fault.ensures ∙ same_fault s) in
    let r = symmetric_ready (stored s) (lent s) fine (λ k h. c.type_inv.values k) in
    record { triangle = r.0; col_ptr_len = r.1.0; graph_ptr_len = r.1.1.0; roomy = r.1.1.1 }

pub returns : goal.returns
unfolding whole_symmetric_graph
returns c =
    let s = (goal.at.returns c).After-lengths_fit-fit in
    let columns = mirrored_columns (stored s) in
    let logs = value_logs c.args.values.now in
    let fine = sym (c.in_ok-symmetric_fault.ensures ∙ same_fault s) in
    let p = accepted c.args.n columns logs (lent s) _ c.build-kept.result _ (sym fine) c.build-kept.ensures in
    record {
      outcome = p.0;
      answered = p.1;
      optimal = λ z. symmetric_optimal (stored s) (lent s) fine (λ k h. c.type_inv.values k) _
          (left_built c.args.n columns logs (lent s) _ _ _ p.0 fine);
      number = in_list (symmetric_fault_listed (stored s) (lent s)) p.1;
    }
