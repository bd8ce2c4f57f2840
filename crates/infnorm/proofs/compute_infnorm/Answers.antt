-- A fault is refused with nothing changed; the tests establish what the steps require.
use Rattle.std.proofs.Common.{◌≡◌, sym, ◌∙◌, rules}
use Rattle.refusal.specs.Number.{number, number_of}
use Rattle.refusal.proofs.Numbers.{number_ne_zero}
use Rattle.sparse.specs.Matrix.{matrix}
use Rattle.infnorm.proofs.Calls.{infnorm_lengths, matrix_accepted, infnorm_fault, infnorm_fault_lem, infnorm_room, infnorm_refused, infnorm_done}
use Rattle.infnorm.proofs.Refusals.{infnorm_promised}
use Rattle.infnorm.proofs.compute_infnorm.Goals as goal
use Rattle.infnorm.proofs.compute_infnorm.Goals.{In_ok-input_fault}

no_fault : (c : In_ok-input_fault) → let a = c.args in
    infnorm_fault (matrix a.n a.col_ptr.now a.row_idx.now a.values.now) a.factors.now a.work.now ≡ 0
no_fault c =
    let a = c.args in
    sym (infnorm_fault_lem (matrix a.n a.col_ptr.now a.row_idx.now a.values.now) a.factors.now a.work.now c.in_ok-input_fault.ensures
    c.lengths_fit-lengths.ensures)

pub returns-in_err-input_fault : goal.returns-in_err-input_fault
returns-in_err-input_fault c =
    let a = c.args in
    let m = matrix a.n a.col_ptr.now a.row_idx.now a.values.now in
    let e = c.in_err-input_fault.field-0.0 in
    let s : number_of c.from_residual.result ≡ number e = search rules in
    rw s (infnorm_promised m a.factors.now a.work.now
    (infnorm_refused m a.factors.now a.work.now
    (infnorm_fault_lem m a.factors.now a.work.now c.in_err-input_fault.ensures c.lengths_fit-lengths.ensures) (number_ne_zero e)))

pub iterate-requires-clause-accepted : goal.iterate-requires-clause-accepted
iterate-requires-clause-accepted c =
    let a = c.args in
    let m = matrix a.n a.col_ptr.now a.row_idx.now a.values.now in
    matrix_accepted m (infnorm_lengths m a.factors.now a.work.now) (no_fault (goal.at.iterate-requires-clause-accepted c).In_ok-input_fault)

pub iterate-requires-clause-factors_len : goal.iterate-requires-clause-factors_len
iterate-requires-clause-factors_len c =
    let a = c.args in
    let room = infnorm_room (matrix a.n a.col_ptr.now a.row_idx.now a.values.now) a.factors.now a.work.now
    (no_fault (goal.at.iterate-requires-clause-factors_len c).In_ok-input_fault) in
    (c.fill.auto.list ∙ room.0, room.1)

pub returns : goal.returns
returns c =
    let a = c.args in
    let m = matrix a.n a.col_ptr.now a.row_idx.now a.values.now in
    infnorm_promised m a.factors.now a.work.now
    (infnorm_done m a.factors.now a.work.now (no_fault (goal.at.returns c).In_ok-input_fault) c.fill.ensures c.iterate.ensures c.iterate.auto.work
    c.fill-2.ensures)
