-- The matrix's fault, or at last the number's.
use Rattle.refusal.specs.Refusal.{index_range}
use Rattle.sparse.specs.Matrix.{matrix}
use Rattle.infnorm.proofs.Calls.{onepass_fault_lem}
use Rattle.scaling.specs.Choice.{no_choice}
use Rattle.scaling.proofs.Choices.{refused_first, refused_else}
use Rattle.scaling.proofs.no_choice.Goals as goal

pub returns-in-Err : goal.returns-in-Err
unfolding no_choice
returns-in-Err c =
    let a = c.args in
    refused_first _ index_range
    (onepass_fault_lem (matrix a.n a.col_ptr.now a.row_idx.now a.values.now) a.factors.now c.in-Err.ensures c.lengths_fit-lengths.ensures)

pub returns-in-Ok : goal.returns-in-Ok
unfolding no_choice
returns-in-Ok c =
    let a = c.args in
    refused_else index_range
    (onepass_fault_lem (matrix a.n a.col_ptr.now a.row_idx.now a.values.now) a.factors.now c.in-Ok.ensures c.lengths_fit-lengths.ensures)
