-- A fault of the sizes is the answer, else the answer is the match's.
use Rattle.std.proofs.Common.{◌∙◌, refl, sym}
use Rattle.refusal.proofs.Numbers.{number_ne_zero}
use Rattle.byte_forms.proofs.ByteFactors.{factors_refused, factors_sized, factors_result}
use Rattle.suontarvi.proofs.ByteResults.{factors_number}
use Rattle.suontarvi.proofs.factor_calls.suontarvi_log_factors_bytes.Goals as goal

pub returns-in-Err : goal.returns-in-Err
returns-in-Err c =
    factors_number _ _ _ _ _ _ _ _ (factors_refused _ _ _ _ _ _ _ _ (c.from.ensures ∙ c.in-Err.ensures)
    (λ z. number_ne_zero c.in-Err.refusal (sym c.from.ensures ∙ z)))

pub read_factors-requires-clause-duals : goal.read_factors-requires-clause-duals
read_factors-requires-clause-duals c =
    let a = c.args in
    (factors_sized a.n a.matched a.perm.now a.u.now a.v.now a.cmax.now a.factors.now a.unmatched.now c.in_default.ensures refl).0

pub read_factors-requires-clause-perm_len : goal.read_factors-requires-clause-perm_len
read_factors-requires-clause-perm_len c =
    let a = c.args in
    (factors_sized a.n a.matched a.perm.now a.u.now a.v.now a.cmax.now a.factors.now a.unmatched.now c.in_default.ensures refl).1

pub read_factors-requires-clause-factors_len : goal.read_factors-requires-clause-factors_len
read_factors-requires-clause-factors_len c =
    let a = c.args in
    (factors_sized a.n a.matched a.perm.now a.u.now a.v.now a.cmax.now a.factors.now a.unmatched.now c.in_default.ensures refl).2

pub returns : goal.returns
returns c =
    factors_number _ _ _ _ _ _ _ _ (factors_result _ _ _ _ _ _ _ _ c.in_default.ensures refl
    (rw c.answer.ensures c.read_factors.ensures))
