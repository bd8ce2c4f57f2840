-- The value at place k is still as it was, and may be scaled.
use Rattle.std.proofs.Common.{◌≡◌, get_or, w32, to_z, of_z, rules, arith}
use Rattle.std.proofs.Common.{le_refl}
use Rattle.exponents_apply.specs.Apply.{exponent_at}
use Rattle.exponents_apply.proofs.Writing.{place_scalable}
use Rattle.exponents_apply.proofs.scale_column.Goals as goal

pub scaled-requires-clause-column_value : goal.scaled-requires-clause-column_value
scaled-requires-clause-column_value c =
    let a = c.args in
    let k = c.loop-k.k in
    let row : to_z w32 (of_z w32 (exponent_at a.row_exponents.now (get_or a.row_idx.now k 0))) ≡ exponent_at a.row_exponents.now (get_or a.row_idx.now k 0) = search rules in
    let column : to_z w32 (of_z w32 a.column_exponent) ≡ a.column_exponent = search rules in
    rw (c.loop-k.invariant.over k (le_refl k), row, column)
    (place_scalable a.row_idx.now a.row_exponents.now a.column_exponent a.values.now a.from a.to c.requires.to_value k (omega arith) (omega arith))
