-- A fault changes nothing, else every factor is 1.0.
use Rattle.std.proofs.Common.{◌≡◌, ℕ, replicate, sym, ap, ◌∙◌, rules}
use Rattle.refusal.specs.Number.{number, number_of}
use Rattle.refusal.proofs.Numbers.{number_ne_zero}
use Rattle.float64.specs.Constants as Constants
use Rattle.sparse.specs.Matrix.{matrix}
use Rattle.infnorm.proofs.Calls.{onepass_fault_lem, onepass_room}
use Rattle.factors_identity.specs.Identity.{identity_factors}
use Rattle.factors_identity.proofs.Filled.{filled_refused, filled_done}
use Rattle.factors_identity.proofs.identity_factors.Goals as goal

pub returns-in_err-input_fault : goal.returns-in_err-input_fault
unfolding identity_factors
returns-in_err-input_fault c =
    let a = c.args in
    let e = c.in_err-input_fault.field-0.0 in
    let s : number_of c.from_residual.result ≡ number e = search rules in
    rw s (filled_refused (replicate a.n Constants.one) a.factors.now
    (onepass_fault_lem (matrix a.n a.col_ptr.now a.row_idx.now a.values.now) a.factors.now c.in_err-input_fault.ensures c.lengths_fit-lengths.ensures)
    (number_ne_zero e))

pub returns : goal.returns
unfolding identity_factors
returns c =
    let a = c.args in
    let m = matrix a.n a.col_ptr.now a.row_idx.now a.values.now in
    let fine = sym (onepass_fault_lem m a.factors.now c.in_ok-input_fault.ensures c.lengths_fit-lengths.ensures) in
    filled_done (replicate a.n Constants.one) a.factors.now fine
    (c.fill.ensures ∙ ap (λ (k : ℕ). replicate k Constants.one) (onepass_room m a.factors.now fine))
