-- A fault is refused with nothing changed; the tests establish what the steps require.
use Rattle.std.proofs.Common.{◌≡◌, sym, rules}
use Rattle.refusal.specs.Number.{number, number_of}
use Rattle.refusal.proofs.Numbers.{number_ne_zero}
use Rattle.sparse.specs.Matrix.{matrix}
use Rattle.infnorm.specs.Call.{lengths_fit}
use Rattle.infnorm.proofs.Calls.{matrix_accepted, onepass_fault, onepass_fault_lem, onepass_room, onepass_refused, onepass_done}
use Rattle.infnorm.proofs.Refusals.{onepass_promised}
use Rattle.infnorm.proofs.compute_onepass.Goals as goal
use Rattle.infnorm.proofs.compute_onepass.Goals.{In_ok-input_fault}

no_fault : (c : In_ok-input_fault) → let a = c.args in
    onepass_fault (matrix a.n a.col_ptr.now a.row_idx.now a.values.now) a.factors.now ≡ 0
no_fault c =
    let a = c.args in
    sym (onepass_fault_lem (matrix a.n a.col_ptr.now a.row_idx.now a.values.now) a.factors.now c.in_ok-input_fault.ensures c.lengths_fit-lengths.ensures)

pub returns-in_err-input_fault : goal.returns-in_err-input_fault
returns-in_err-input_fault c =
    let a = c.args in
    let m = matrix a.n a.col_ptr.now a.row_idx.now a.values.now in
    let e = c.in_err-input_fault.field-0.0 in
    let s : number_of c.from_residual.result ≡ number e = search rules in
    rw s (onepass_promised m a.factors.now
    (onepass_refused m a.factors.now (onepass_fault_lem m a.factors.now c.in_err-input_fault.ensures c.lengths_fit-lengths.ensures) (number_ne_zero e)))

pub value_maxima-requires-clause-accepted : goal.value_maxima-requires-clause-accepted
value_maxima-requires-clause-accepted c =
    let a = c.args in
    let m = matrix a.n a.col_ptr.now a.row_idx.now a.values.now in
    matrix_accepted m (lengths_fit m a.factors.now) (no_fault (goal.at.value_maxima-requires-clause-accepted c).In_ok-input_fault)

pub value_maxima-requires-clause-maxima_len : goal.value_maxima-requires-clause-maxima_len
value_maxima-requires-clause-maxima_len c =
    let a = c.args in
    onepass_room (matrix a.n a.col_ptr.now a.row_idx.now a.values.now) a.factors.now
    (no_fault (goal.at.value_maxima-requires-clause-maxima_len c).In_ok-input_fault)

pub returns : goal.returns
returns c =
    let a = c.args in
    let m = matrix a.n a.col_ptr.now a.row_idx.now a.values.now in
    onepass_promised m a.factors.now (onepass_done m a.factors.now (no_fault (goal.at.returns c).In_ok-input_fault) c.value_maxima.ensures c.scale_rows.ensures)
