-- The bits that the code makes are those of the limit made of the quotient's digits.
use Rattle.std.proofs.Common.{◌≡◌, ◌+◌, ◌-◌, ◌*◌, ◌/◌, ◌^◌, ◌<◌, ℕ, sym, ap, subst, arith}
use Rattle.std.specs.Int.Count.{count_leading_zeros}
use Rattle.std.specs.Float.{binary64}
use Rattle.std.specs.Float.Ieee.{of_bits}
use Rattle.float64.proofs.Bits.{no_nan}
use Rattle.cost_limit.specs.inner.Steps.{Bound}
use Rattle.cost_limit.proofs.Digits.{Power, power_of, digits_in, limit_bits, all_ones, made_bound, no_columns}
use Rattle.cost_limit.proofs.bound.Goals as goal
use Rattle.cost_limit.proofs.bound.Goals.{Else-n-eq0}

abbrev up : Else-n-eq0 → ℕ
up c = 32 - count_leading_zeros 32 (c.args.n - 1)

some : (c : Else-n-eq0) → 0 < c.args.n
some c = omega (arith, c.if-n-eq0.false)

power : (c : Else-n-eq0) → Power c.args.n (up c)
power c = power_of c.args.n (some c) c.requires.1

-- the bits that the code makes are the limit's, and they fit 64 digits
bits_are : (c : Else-n-eq0) → limit_bits c.args.e c.args.n (up c) ≡ (1022 + c.args.e - up c) * 2 ^ 52
    + 0xffff_ffff_ffff_ffff / 2 ^ (12 - up c) / c.args.n + 1
bits_are c = ap (λ (q : ℕ). (1022 + c.args.e - up c) * 2 ^ 52 + q / c.args.n + 1) (sym (all_ones (up c) (power c).small))

bits_in : (c : Else-n-eq0) → limit_bits c.args.e c.args.n (up c) < 2047 * 2 ^ 52
bits_in c = let d = digits_in (power c) (some c) c.requires.1 in omega (arith, c.requires.0, (power c).small)

pub returns-then-n-eq0 : goal.returns-then-n-eq0
unfolding of_bits
returns-then-n-eq0 c = no_columns c.args.e c.args.n c.if-n-eq0.true

pub overflow_sub-ones : goal.overflow_sub-ones
overflow_sub-ones c = (power c).small

pub overflow_add-result-2 : goal.overflow_add-result-2
overflow_add-result-2 c = omega (arith, bits_in c, bits_are c)

pub overflow_add-result-3 : goal.overflow_add-result-3
overflow_add-result-3 c = omega (arith, bits_in c, bits_are c)

pub float_from_bits-result : goal.float_from_bits-result
float_from_bits-result c = no_nan _ (omega (arith, bits_in c, bits_are c))

pub returns : goal.returns
returns c = subst (λ (b : ℕ). Bound c.args.e c.args.n (of_bits binary64 b)) (bits_are c)
    (made_bound (power c) (some c) c.requires.1 c.requires.0)
