-- Each choice by its own call: what the call answers and leaves, put into the chooser's slices.
use Rattle.std.proofs.Common.{◌≡◌, Err, refl, rules}
use Rattle.refusal.specs.Number.{number, numbered}
use Rattle.refusal.proofs.Numbers.{number_ne_zero}
use Rattle.sparse.specs.Matrix.{Matrix, matrix}
use Rattle.mc64_columns.specs.Graphs as Graphs
use Rattle.hungarian_match.specs.Call as Match
use Rattle.scaling.specs.declared.Scaling.{Scaling}
use Rattle.scaling.specs.declared.Scaling.TheVariants.{Applied, NotApplied}
use Rattle.scaling.specs.Choice.{Slices, slices}
use Rattle.scaling.proofs.Choices.{refused_unless, infnorm_chosen, onepass_chosen, mc64_chosen, identity_chosen, external_chosen}
use Rattle.scaling.proofs.Promises.{promised}
use Rattle.scaling.proofs.compute_scaling.Goals as goal
use Rattle.scaling.proofs.compute_scaling.Goals.{Start}

-- what is lent
abbrev lower : Start → Matrix
lower c = let a = c.args in matrix a.n a.col_ptr.now a.row_idx.now a.values.now

abbrev lent : Start → Slices
lent c =
    let a = c.args in
    slices a.factors.now a.maxima.now (Graphs.slices a.graph_ptr.now a.graph_rows.now a.cost.now a.cmax.now a.graph_work.now)
    (Match.slices a.perm.now a.u.now a.v.now a.match_work.now a.distances.now) a.factor_work.now

pub returns-in_err-compute_infnorm-in-InfNorm : goal.returns-in_err-compute_infnorm-in-InfNorm
returns-in_err-compute_infnorm-in-InfNorm c =
    let a = c.args in
    let s = (goal.at.returns-in_err-compute_infnorm-in-InfNorm c).Start in
    let e = c.in_err-compute_infnorm-in-InfNorm.field-0.0 in
    let r : numbered {A = Scaling} c.from_residual.result ≡ Err (number e) = search rules in
    rw r (promised (lower s) a.external.now a.logs.now (lent s) (λ k h. c.type_inv.logs k) a.strategy
    (infnorm_chosen (lower s) a.external.now a.logs.now (lent s) c.in-InfNorm.is (refused_unless (number e) Applied (number_ne_zero e))
    c.in_err-compute_infnorm-in-InfNorm.ensures.outcome))

pub returns-in_ok-compute_infnorm-in-InfNorm : goal.returns-in_ok-compute_infnorm-in-InfNorm
returns-in_ok-compute_infnorm-in-InfNorm c =
    let a = c.args in
    let s = (goal.at.returns-in_ok-compute_infnorm-in-InfNorm c).Start in
    promised (lower s) a.external.now a.logs.now (lent s) (λ k h. c.type_inv.logs k) a.strategy
    (infnorm_chosen (lower s) a.external.now a.logs.now (lent s) c.in-InfNorm.is refl c.in_ok-compute_infnorm-in-InfNorm.ensures.outcome)

pub returns-in_err-compute_onepass-in-OnePassInfNorm : goal.returns-in_err-compute_onepass-in-OnePassInfNorm
returns-in_err-compute_onepass-in-OnePassInfNorm c =
    let a = c.args in
    let s = (goal.at.returns-in_err-compute_onepass-in-OnePassInfNorm c).Start in
    let e = c.in_err-compute_onepass-in-OnePassInfNorm.field-0.0 in
    let r : numbered {A = Scaling} c.from_residual-in_err-compute_onepass-in-OnePassInfNorm.result ≡ Err (number e) = search rules in
    rw r (promised (lower s) a.external.now a.logs.now (lent s) (λ k h. c.type_inv.logs k) a.strategy
    (onepass_chosen (lower s) a.external.now a.logs.now (lent s) c.in-OnePassInfNorm.is (refused_unless (number e) Applied (number_ne_zero e))
    c.in_err-compute_onepass-in-OnePassInfNorm.ensures.outcome))

pub returns-in_ok-compute_onepass-in-OnePassInfNorm : goal.returns-in_ok-compute_onepass-in-OnePassInfNorm
returns-in_ok-compute_onepass-in-OnePassInfNorm c =
    let a = c.args in
    let s = (goal.at.returns-in_ok-compute_onepass-in-OnePassInfNorm c).Start in
    promised (lower s) a.external.now a.logs.now (lent s) (λ k h. c.type_inv.logs k) a.strategy
    (onepass_chosen (lower s) a.external.now a.logs.now (lent s) c.in-OnePassInfNorm.is refl c.in_ok-compute_onepass-in-OnePassInfNorm.ensures.outcome)

pub returns-in_err-scaled-in-Mc64Symmetric : goal.returns-in_err-scaled-in-Mc64Symmetric
returns-in_err-scaled-in-Mc64Symmetric c =
    let a = c.args in
    let s = (goal.at.returns-in_err-scaled-in-Mc64Symmetric c).Start in
    let e = c.in_err-scaled-in-Mc64Symmetric.field-0.0 in
    let r : numbered {A = Scaling} c.from_residual-in_err-scaled-in-Mc64Symmetric.result ≡ Err (number e) = search rules in
    rw r (promised (lower s) a.external.now a.logs.now (lent s) (λ k h. c.type_inv.logs k) a.strategy
    (mc64_chosen (lower s) a.external.now a.logs.now (lent s) c.in-Mc64Symmetric.is refl
    c.in_err-scaled-in-Mc64Symmetric.ensures.outcome))

pub returns-in_ok-scaled-in-Mc64Symmetric : goal.returns-in_ok-scaled-in-Mc64Symmetric
returns-in_ok-scaled-in-Mc64Symmetric c =
    let a = c.args in
    let s = (goal.at.returns-in_ok-scaled-in-Mc64Symmetric c).Start in
    rw c.from.ensures (promised (lower s) a.external.now a.logs.now (lent s) (λ k h. c.type_inv.logs k) a.strategy
    (mc64_chosen (lower s) a.external.now a.logs.now (lent s) c.in-Mc64Symmetric.is refl c.in_ok-scaled-in-Mc64Symmetric.ensures.outcome))

pub returns-in_err-identity_factors-in-Identity : goal.returns-in_err-identity_factors-in-Identity
returns-in_err-identity_factors-in-Identity c =
    let a = c.args in
    let s = (goal.at.returns-in_err-identity_factors-in-Identity c).Start in
    let e = c.in_err-identity_factors-in-Identity.field-0.0 in
    let r : numbered {A = Scaling} c.from_residual-in_err-identity_factors-in-Identity.result ≡ Err (number e) = search rules in
    rw r (promised (lower s) a.external.now a.logs.now (lent s) (λ k h. c.type_inv.logs k) a.strategy
    (identity_chosen (lower s) a.external.now a.logs.now (lent s) c.in-Identity.is (refused_unless (number e) NotApplied (number_ne_zero e))
    c.in_err-identity_factors-in-Identity.ensures))

pub returns-in_ok-identity_factors-in-Identity : goal.returns-in_ok-identity_factors-in-Identity
returns-in_ok-identity_factors-in-Identity c =
    let a = c.args in
    let s = (goal.at.returns-in_ok-identity_factors-in-Identity c).Start in
    promised (lower s) a.external.now a.logs.now (lent s) (λ k h. c.type_inv.logs k) a.strategy
    (identity_chosen (lower s) a.external.now a.logs.now (lent s) c.in-Identity.is refl c.in_ok-identity_factors-in-Identity.ensures)

pub returns-in-External : goal.returns-in-External
returns-in-External c =
    let a = c.args in
    let s = (goal.at.returns-in-External c).Start in
    promised (lower s) a.external.now a.logs.now (lent s) (λ k h. c.type_inv.logs k) a.strategy
    (external_chosen (lower s) a.external.now a.logs.now (lent s) c.in-External.is refl c.external_fault.ensures)
