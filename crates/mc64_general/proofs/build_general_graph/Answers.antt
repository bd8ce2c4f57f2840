-- `build_general_graph`: the tests establish what the building requires.
use Rattle.std.proofs.Common.{◌≡◌, sym, ap, ◌∙◌, rules}
use Rattle.std.specs.Prelude.{Err}
use Rattle.refusal.proofs.Numbers.{number_ne_zero}
use Rattle.sparse.specs.Matrix.{Matrix, matrix}
use Rattle.mc64_columns.specs.Graphs.{Slices, slices}
use Rattle.mc64_columns.proofs.Calls.{refused, lengths_fitting}
use Rattle.mc64_general.specs.Graph.{kept_columns}
use Rattle.mc64_general.specs.Call.{input_fault}
use Rattle.mc64_general.proofs.Calling.{accepted, ready}
use Rattle.mc64_general.proofs.Theorems.{promised}
use Rattle.mc64_general.proofs.build_general_graph.Goals as goal
use Rattle.mc64_general.proofs.build_general_graph.Goals.{After-lengths_fit-fit}

-- the matrix, and what is lent for its graph
abbrev stored : After-lengths_fit-fit → Matrix
stored c = let a = c.args in matrix a.n a.col_ptr.now a.row_idx.now a.values.now

abbrev lent : After-lengths_fit-fit → Slices
lent c = let a = c.args in slices a.graph_ptr.now a.graph_rows.now a.cost.now a.cmax.now a.work.now

pub input_fault-requires : goal.input_fault-requires
input_fault-requires c t =
    let s = (goal.at.input_fault-requires c).After-lengths_fit-fit in
    let f = lengths_fitting _ (stored s) c.args.logs.now (lent s) (sym c.lengths_fit-fit.ensures ∙ t) in
    f.logged ∙ sym f.valued

pub returns-in_err-input_fault : goal.returns-in_err-input_fault
returns-in_err-input_fault c =
    let s = (goal.at.returns-in_err-input_fault c).After-lengths_fit-fit in
    let logs = c.args.logs.now in
    let fault = c.in_err-input_fault.ensures ∙ ap (input_fault (stored s) logs) c.lengths_fit-fit.ensures in
    let same : c.from_residual.result ≡ Err c.in_err-input_fault.field-0.0 = search rules in
    rw same (promised (stored s) logs (lent s)
    (refused c.args.n (kept_columns (stored s)) logs (lent s) _ _ fault (number_ne_zero _)))

pub build-kept-requires : goal.build-kept-requires
build-kept-requires c =
    let s = (goal.at.build-kept-requires c).After-lengths_fit-fit in
    let logs = c.args.logs.now in
    let fine = c.in_ok-input_fault.ensures ∙ ap (input_fault (stored s) logs) c.lengths_fit-fit.ensures in
    let r = ready (stored s) logs (lent s) (sym fine) in
    record { accepted = r.0; roomy = r.1; worded = (λ k h. tt, r.2) }

pub returns : goal.returns
returns c =
    let s = (goal.at.returns c).After-lengths_fit-fit in
    let logs = c.args.logs.now in
    let fine = c.in_ok-input_fault.ensures ∙ ap (input_fault (stored s) logs) c.lengths_fit-fit.ensures in
    promised (stored s) logs (lent s)
    (accepted (stored s) logs (lent s) _ c.build-kept.result _ fine c.build-kept.ensures c.fill.ensures)
