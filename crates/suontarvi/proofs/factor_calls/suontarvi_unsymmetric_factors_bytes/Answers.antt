-- A fault of the sizes is the answer, else there are factors.
use Rattle.std.proofs.Common.{◌∙◌, refl, sym}
use Rattle.refusal.proofs.Numbers.{number_ne_zero}
use Rattle.byte_forms.proofs.ByteFactors.{sides_refused, sides_sized, sides_result}
use Rattle.suontarvi.proofs.ByteResults.{sides_number}
use Rattle.suontarvi.proofs.factor_calls.suontarvi_unsymmetric_factors_bytes.Goals as goal

pub returns-in-Err : goal.returns-in-Err
returns-in-Err c =
    sides_number _ _ _ _ _ _ (sides_refused _ _ _ _ _ _ (c.from.ensures ∙ c.in-Err.ensures)
    (λ z. number_ne_zero c.in-Err.refusal (sym c.from.ensures ∙ z)))

pub read_sides-requires-clause-duals : goal.read_sides-requires-clause-duals
read_sides-requires-clause-duals c =
    let a = c.args in
    (sides_sized a.n a.u.now a.v.now a.cmax.now a.row_factors.now a.column_factors.now c.in_default.ensures refl).0

pub read_sides-requires-clause-row_factors_len : goal.read_sides-requires-clause-row_factors_len
read_sides-requires-clause-row_factors_len c =
    let a = c.args in
    let s = sides_sized a.n a.u.now a.v.now a.cmax.now a.row_factors.now a.column_factors.now c.in_default.ensures refl in
    (s.1, s.2)

pub returns : goal.returns
returns c = sides_number _ _ _ _ _ _ (sides_result _ _ _ _ _ _ c.in_default.ensures refl c.read_sides.ensures)
