-- `whole_general_graph`: the tests establish what the building requires, and the graph that is left has whole costs.
use Rattle.std.proofs.Common.{◌≡◌, ℕ, length, replicate, sym, ap, ◌∙◌, rules, arith}
use Rattle.std.specs.Prelude.{Err}
use Rattle.refusal.proofs.Numbers.{number_ne_zero}
use Rattle.sparse.specs.Matrix.{Matrix, matrix}
use Rattle.mc64_columns.specs.Columns.{value_logs}
use Rattle.mc64_columns.specs.Graphs.{Slices, slices}
use Rattle.mc64_general.specs.Graph.{kept_columns}
use Rattle.mc64_columns.proofs.Calls.{in_list, refused}
use Rattle.mc64_general.proofs.Calling.{accepted}
use Rattle.whole_graphs.specs.Graphs.{general_input_fault, whole_general_fault, whole_general_graph}
use Rattle.whole_graphs.proofs.Theorems.{left_built, general_ready, general_optimal, general_fault_listed}
use Rattle.whole_graphs.proofs.whole_general_graph.Goals as goal
use Rattle.whole_graphs.proofs.whole_general_graph.Goals.{After-lengths_fit-fit}

-- the matrix, and what is lent for its graph
abbrev stored : After-lengths_fit-fit → Matrix
stored c = let a = c.args in matrix a.n a.col_ptr.now a.row_idx.now a.values.now

abbrev lent : After-lengths_fit-fit → Slices
lent c = let a = c.args in slices a.graph_ptr.now a.graph_rows.now a.cost.now a.cmax.now a.work.now

-- the fault of the lengths as tested is that of what is lent
same_fault : (c : After-lengths_fit-fit) → general_input_fault (stored c) c.lengths_fit-fit.result ≡ whole_general_fault (stored c) (lent c)
same_fault c = ap (general_input_fault (stored c)) c.lengths_fit-fit.ensures

pub returns-in_err-general_fault : goal.returns-in_err-general_fault
unfolding whole_general_graph
returns-in_err-general_fault c =
    let s = (goal.at.returns-in_err-general_fault c).After-lengths_fit-fit in
    let fault = c.in_err-general_fault.ensures ∙ same_fault s in
    let p = refused c.args.n (kept_columns (stored s)) (value_logs c.args.values.now) (lent s) _ _ fault (number_ne_zero _) in
    let same : c.from_residual.result ≡ Err c.in_err-general_fault.field-0.0 = search rules in
    rw same (record {
      outcome = p.0;
      answered = p.1;
      optimal = λ z. absurd (number_ne_zero _ z);
      number = in_list (general_fault_listed (stored s) (lent s)) p.1;
    })

pub put_words-requires : goal.put_words-requires
put_words-requires c =
    let s = (goal.at.put_words-requires c).After-lengths_fit-fit in
    let fine = sym (c.in_ok-general_fault.ensures ∙ same_fault s) in
    let r = general_ready (stored s) (lent s) fine (λ k h. c.type_inv.values k) in
    omega (arith, r.0.sizes.stored, r.2)

pub build-count-requires : goal.build-count-requires
build-count-requires c =
    let s = (goal.at.build-count-requires c).After-lengths_fit-fit in
    let fine = sym (c.in_ok-general_fault.ensures ∙ same_fault s) in
    let r = general_ready (stored s) (lent s) fine (λ k h. c.type_inv.values k) in
    record { accepted = r.0; roomy = r.1; worded = (c.put_words.ensures.there, omega (arith, r.2)) }

pub returns : goal.returns
unfolding whole_general_graph
returns c =
    let s = (goal.at.returns c).After-lengths_fit-fit in
    let columns = kept_columns (stored s) in
    let logs = value_logs c.args.values.now in
    let fine = sym (c.in_ok-general_fault.ensures ∙ same_fault s) in
    let long : length c.put_words.new.words ≡ length c.args.work.now = omega arith in
    let p = accepted (stored s) logs (lent s) _ c.build-count.result _ (sym fine) c.build-count.ensures
    (c.fill.ensures ∙ ap (λ (k : ℕ). replicate k 0) long) in
    record {
      outcome = p.0;
      answered = p.1;
      optimal = λ z. general_optimal (stored s) (lent s) fine (λ k h. c.type_inv.values k) _
          (left_built c.args.n columns logs (lent s) _ _ _ p.0 fine);
      number = in_list (general_fault_listed (stored s) (lent s)) p.1;
    }
