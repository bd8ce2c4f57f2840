-- `layout::frame_fault` meets its contract: `lengths` is the definition's test, and the two faults follow one another.
use Rattle.std.proofs.Common.{◌≡◌, ◌+◌, length, refl, sym, ◌∙◌, ap}
use Rattle.std.proofs.lemmas.Result.{err_from_is_err_and}
use borrow.Author.Tests.{eqb-true, eq-eqb, ne_eqb}
use Rattle.refusal.proofs.Numbers.{number_ne_zero}
use Rattle.sparse.specs.Validate.{size_fault, frame_fault, matrix_lengths}
use Rattle.slices.proofs.Bools.{both}
use Rattle.sparse.proofs.Accepted.{sizes_accepted}
use Rattle.sparse.proofs.First.{answer_first, answer_second}
use Rattle.sparse.proofs.layout.frame_fault.Goals.{then-col_ptr-size, else-col_ptr-size, After-size_fault}
use Rattle.sparse.proofs.layout.frame_fault.Goals as goal

sizes_are : (c : After-size_fault) → let a = c.args in
    size_fault a.n a.limit (length a.row_idx.now) c.if-col_ptr-size.lengths
    ≡ size_fault a.n a.limit (length a.row_idx.now) (matrix_lengths a.n a.col_ptr.now a.row_idx.now a.values.now)
sizes_are c =
    ap (size_fault c.args.n c.args.limit (length c.args.row_idx.now)) (
    elim c.if-col_ptr-size.branch [
      | then-col_ptr-size w ↦ w.lengths-is ∙ rw (eq-eqb _ _ w.if-col_ptr-size.true)
      | else-col_ptr-size w ↦ w.lengths-is ∙ rw (ne_eqb _ _ w.if-col_ptr-size.false)
    ])

pub returns-in_err-size_fault : goal.returns-in_err-size_fault
unfolding frame_fault
returns-in_err-size_fault c =
    let p = err_from_is_err_and c.from_residual.result c.from_residual.ensures.1 in
    rw (p.1, p.2)
    (answer_first _ (c.in_err-size_fault.ensures ∙ sizes_are (goal.at.returns-in_err-size_fault c).After-size_fault) (number_ne_zero _))

pub pointer_fault-requires : goal.pointer_fault-requires
pointer_fault-requires c =
    let a = c.args in
    let s = (sizes_accepted a.n a.limit (length a.row_idx.now) _).0 (sym (c.in_ok-size_fault.ensures ∙ sizes_are (goal.at.pointer_fault-requires c).After-size_fault)) in
    eqb-true (length a.col_ptr.now) (a.n + 1) (both _ _ s.2).0

pub returns : goal.returns
unfolding frame_fault
returns c = answer_second (c.in_ok-size_fault.ensures ∙ sizes_are (goal.at.returns c).After-size_fault) refl c.pointer_fault.ensures
