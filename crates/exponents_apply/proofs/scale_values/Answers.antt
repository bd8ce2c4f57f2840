-- Column j is without a fault, since no place of it has been written, and its own function is the definition's at its places.
use Rattle.std.proofs.Common.{◌≡◌, ◌+◌, ℤ, ◌+ℤ◌, w32, to_z, of_z, get_or, ap, ◌∙◌, rules, arith}
use Rattle.std.proofs.Common.{add-one}
use Rattle.sparse.specs.Pattern.{pattern}
use Rattle.sparse.proofs.Accepted.{pointer_below}
use Rattle.exponents_powers.specs.Power.{scaled_bits, exponents}
use Rattle.exponents_apply.specs.Apply.{exponent_at}
use Rattle.exponents_apply.proofs.Writing.{stretch_more, own_place, column_clean}
use Rattle.exponents_apply.proofs.scale_values.Goals as goal

pub scale_column-requires-clause-from_le_to : goal.scale_column-requires-clause-from_le_to
scale_column-requires-clause-from_le_to c =
    let p = c.requires.tested in
    let j = c.loop-j.j in
    let read : to_z w32 (of_z w32 (exponent_at c.args.column_exponents.now j)) ≡ exponent_at c.args.column_exponents.now j = search rules in
    (rw add-one (p.columns.pointers.rises j (omega arith)), (pointer_below p.columns.pointers (j + 1) (omega arith), rw read (p.within j (omega arith))))

pub scale_column-requires-clause-to_value : goal.scale_column-requires-clause-to_value
scale_column-requires-clause-to_value c =
    let a = c.args in
    let j = c.loop-j.j in
    let read : to_z w32 (of_z w32 (exponent_at a.column_exponents.now j)) ≡ exponent_at a.column_exponents.now j = search rules in
    rw (read, add-one)
    (column_clean (pattern a.n a.col_ptr.now a.row_idx.now) (exponents a.row_exponents.now a.column_exponents.now) a.values.now c.requires.tested.columns j
    (omega arith) c.requires.values_value c.loop-j.invariant)

pub loop-j-preserved : goal.loop-j-preserved
loop-j-preserved c =
    let a = c.args in
    let p = c.requires.tested in
    let l = c.loop-j in
    let m = pattern a.n a.col_ptr.now a.row_idx.now in
    let e = exponents a.row_exponents.now a.column_exponents.now in
    let read : to_z w32 (of_z w32 (exponent_at a.column_exponents.now l.j)) ≡ exponent_at a.column_exponents.now l.j = search rules in
    stretch_more (rw add-one (p.columns.pointers.rises l.j (omega arith)))
    (λ k x y. ap (λ (z : ℤ). scaled_bits (get_or l.values k 0) (exponent_at a.row_exponents.now (get_or a.row_idx.now k 0) +ℤ z)) read
    ∙ own_place m e a.values.now p.columns l.j (omega arith) l.invariant k x (rw add-one at y))
    l.invariant c.scale_column.ensures
