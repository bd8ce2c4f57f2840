-- `graph_test::graph_fault`: each return is the first fault of the chain.
use Rattle.std.proofs.Common.{sym, refl}
use Rattle.std.proofs.lemmas.Result.{err_from_is_err_and}
use Rattle.limits.specs.Limits.{max_general}
use Rattle.refusal.proofs.Numbers.{number_ne_zero}
use Rattle.sparse.proofs.First.{answer_first, answer_second}
use Rattle.sparse.proofs.Accepted.{sizes_accepted, pointers_accepted}
use Rattle.hungarian.specs.Test.{graph_fault}
use Rattle.hungarian_match.proofs.graph_test.graph_fault.Goals as goal

pub returns-in_err-size_fault : goal.returns-in_err-size_fault
unfolding graph_fault
returns-in_err-size_fault c =
    let p = err_from_is_err_and c.from_residual.result c.from_residual.ensures.1 in
    rw (p.1, p.2) (answer_first _ c.in_err-size_fault.ensures (number_ne_zero _))

pub pointer_fault-requires : goal.pointer_fault-requires
pointer_fault-requires c =
    c.requires ((sizes_accepted c.args.n max_general _ c.args.lengths).0 (sym c.in_ok-size_fault.ensures)).2

pub returns-in_err-pointer_fault : goal.returns-in_err-pointer_fault
unfolding graph_fault
returns-in_err-pointer_fault c =
    let r = c.from_residual-in_err-pointer_fault in
    let p = err_from_is_err_and r.result r.ensures.1 in
    rw (p.1, p.2)
    (answer_second c.in_ok-size_fault.ensures refl
    (answer_first _ c.in_err-pointer_fault.ensures (number_ne_zero _)))

pub columns_fault-requires-clause-col_ptr_len : goal.columns_fault-requires-clause-col_ptr_len
columns_fault-requires-clause-col_ptr_len c =
    c.requires ((sizes_accepted c.args.n max_general _ c.args.lengths).0 (sym c.in_ok-size_fault.ensures)).2

pub columns_fault-requires-clause-pointers : goal.columns_fault-requires-clause-pointers
columns_fault-requires-clause-pointers c =
    (pointers_accepted c.args.n c.args.col_ptr.now _).0 (sym c.in_ok-pointer_fault.ensures)

pub returns-in_err-columns_fault : goal.returns-in_err-columns_fault
unfolding graph_fault
returns-in_err-columns_fault c =
    let r = c.from_residual-in_err-columns_fault in
    let p = err_from_is_err_and r.result r.ensures.1 in
    rw (p.1, p.2)
    (answer_second c.in_ok-size_fault.ensures refl (answer_second c.in_ok-pointer_fault.ensures refl
    (answer_first _ c.in_err-columns_fault.ensures (number_ne_zero _))))

pub cost_fault-requires : goal.cost_fault-requires
cost_fault-requires c = ((sizes_accepted c.args.n max_general _ c.args.lengths).0 (sym c.in_ok-size_fault.ensures)).0

pub returns : goal.returns
unfolding graph_fault
returns c =
    answer_second c.in_ok-size_fault.ensures refl (answer_second c.in_ok-pointer_fault.ensures refl
    (answer_second c.in_ok-columns_fault.ensures refl c.cost_fault.ensures))
