-- The sum is a natural number that an i32 holds.
use Rattle.std.proofs.Common.{◌≡◌, ℕ, ◌≤◌, ℤ, pos, ◌+ℤ◌, w32, w64, Fits, FitsSigned, to_z, of_z, sym, ap, ◌∙◌, subst, arith}
use mir.ValLaws.{to_z-of_z}
use lib.Dec.{T}
use lib.IntN.{nat_abs}
use lib.Signed.{non_neg}
use Rattle.exponents_powers.proofs.Fields.{raised_of, raised_is, raised_most, raised_fits}
use Rattle.exponents_powers.proofs.raised.Goals as goal
use Rattle.exponents_powers.proofs.raised.Goals.{Start}

-- the sum of what is read, and that sum read again
sum : (c : Start) → to_z w32 (of_z w32 c.args.exponent) +ℤ pos 67108864 ≡ pos (raised_of c.args.exponent)
sum c =
    let e = c.args.exponent in
    ap (λ (z : ℤ). z +ℤ pos 67108864) (to_z-of_z w32 e c.ranges.exponent) ∙ raised_is e c.requires

read : (c : Start) → to_z w32 (of_z w32 (to_z w32 (of_z w32 c.args.exponent) +ℤ pos 67108864)) ≡ pos (raised_of c.args.exponent)
read c =
    let e = c.args.exponent in
    ap (λ (z : ℤ). to_z w32 (of_z w32 z)) (sum c) ∙ to_z-of_z w32 (pos (raised_of e)) (raised_fits e c.requires)

pub overflow_add-result : goal.overflow_add-result
overflow_add-result c = subst (FitsSigned w32) (sym (sum c)) (raised_fits c.args.exponent c.requires)

pub overflow_cast-result : goal.overflow_cast-result
overflow_cast-result c =
    subst (λ (z : ℤ). T (non_neg z) × Fits w64 (nat_abs z)) (sym (read c)) (tt, record { fits = omega (arith, raised_most c.args.exponent c.requires) })

pub returns : goal.returns
returns c =
    let e = c.args.exponent in
    let n = ap nat_abs (read c) in
    (ap pos n ∙ sym (raised_is e c.requires), subst (λ (r : ℕ). r ≤ 134217728) (sym n) (raised_most e c.requires))
