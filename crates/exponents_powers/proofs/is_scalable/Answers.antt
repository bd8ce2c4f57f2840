-- The sum of the raised exponents and the field is in range exactly if the new field is normal.
use Rattle.std.proofs.Common.{Bool, ◌&&◌, ◌||◌, ◌+◌, pos, ◌+ℤ◌, ap}
use Rattle.exponents_powers.specs.Power.{field_of, is_zero, is_normal, scalable}
use Rattle.exponents_powers.proofs.Fields.{read_raised, shifted_parts, normal_test}
use Rattle.exponents_powers.proofs.is_scalable.Goals as goal

pub returns : goal.returns
unfolding scalable
returns c =
    let a = c.args in
    let b = a.bits in
    let r = c.raised.result in
    let s = c.raised-2.result in
    ap (λ (t : Bool). is_zero b || (is_normal (pos (field_of b)) && t))
    (normal_test (pos (field_of b) +ℤ (a.row +ℤ a.column)) (field_of b + r + s)
    (shifted_parts (field_of b) r s a.row a.column
    (read_raised a.row c.ranges.row c.raised.ensures.0)
    (read_raised a.column c.ranges.column c.raised-2.ensures.0)))
