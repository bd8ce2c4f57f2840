-- `csc::validate` meets its contract: the columns are tested where nothing else is wrong, and the number is one of the call's list.
use Rattle.std.proofs.Common.{refl, sym, subst}
use Rattle.std.proofs.lemmas.Result.{err_from_is_err_and}
use Rattle.limits.specs.Limits.{max_symmetric}
use Rattle.refusal.specs.Listed.{OneOf, symmetric_numbers}
use Rattle.refusal.proofs.Numbers.{number_ne_zero}
use Rattle.sparse.specs.Matrix.{matrix}
use Rattle.sparse.specs.Validate.{symmetric_fault}
use Rattle.sparse.proofs.First.{answer_first, answer_second}
use Rattle.sparse.proofs.Accepted.{frame_accepted}
use Rattle.sparse.proofs.Theorems.{symmetric_listed}
use Rattle.sparse.proofs.csc.validate.Goals as goal

pub returns-in_err-frame_fault : goal.returns-in_err-frame_fault
unfolding symmetric_fault
returns-in_err-frame_fault c =
    let a = c.args in
    let p = err_from_is_err_and c.from_residual.result c.from_residual.ensures.1 in
    let answer = answer_first _ c.in_err-frame_fault.ensures (number_ne_zero _) in
    rw (p.1, p.2)
    (record { answer = answer; number = subst (OneOf symmetric_numbers) (sym answer) (symmetric_listed (matrix a.n a.col_ptr.now a.row_idx.now a.values.now)).is })

pub columns_fault-requires : goal.columns_fault-requires
columns_fault-requires c =
    let a = c.args in
    let s = (frame_accepted max_symmetric (matrix a.n a.col_ptr.now a.row_idx.now a.values.now)).0 (sym c.in_ok-frame_fault.ensures) in
    record { col_ptr_len = s.0.colptrs; pointers = s.1 }

pub returns : goal.returns
unfolding symmetric_fault
returns c =
    let a = c.args in
    let answer = answer_second c.in_ok-frame_fault.ensures refl c.columns_fault.ensures in
    record { answer = answer; number = subst (OneOf symmetric_numbers) (sym answer) (symmetric_listed (matrix a.n a.col_ptr.now a.row_idx.now a.values.now)).is }
