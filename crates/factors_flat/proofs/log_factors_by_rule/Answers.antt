-- `log_factors_by_rule`: each rule's call leaves that rule's outcome.
use Rattle.sparse.specs.Matrix.{matrix}
use Rattle.matching.specs.Match.{match_of}
use Rattle.factors_mc64.specs.Calls.{slices}
use Rattle.factors_flat.specs.declared.Rule.TheVariants.{Identity, Flat}
use Rattle.factors_flat.specs.Flat.{input}
use Rattle.factors_flat.proofs.Theorems.{promised}
use Rattle.factors_flat.proofs.log_factors_by_rule.Goals as goal

pub returns-in-Identity : goal.returns-in-Identity
returns-in-Identity c =
    let a = c.args in
    promised a.matched (input (match_of a.perm.now a.u.now a.v.now a.cmax.now)
    (matrix a.n a.col_ptr.now a.row_idx.now a.values.now) a.logs.now) (slices a.factors.now a.work.now) a.rule Identity
    c.in-Identity.is c.log_factors.ensures.outcome

pub returns-in-Flat : goal.returns-in-Flat
returns-in-Flat c =
    let a = c.args in
    promised a.matched (input (match_of a.perm.now a.u.now a.v.now a.cmax.now)
    (matrix a.n a.col_ptr.now a.row_idx.now a.values.now) a.logs.now) (slices a.factors.now a.work.now) a.rule Flat
    c.in-Flat.is c.flat_factors.ensures
