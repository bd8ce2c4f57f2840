-- A double above zero written with 53 digits (`Scaling`): a normal one's are there, a subnormal's are moved up (`lift`).
use mathlib.Core.Path.{◌≡◌, sym, ap, ◌∙◌, subst}
use Prim.Native.Nat.{ℕ, suc, ◌+◌, ◌-◌, ◌*◌, ◌/◌, ◌%◌, ◌^◌, ◌≤◌, ◌<◌}
use native.Mathlib.Nat.{le_trans, le_of_eq, lt_of_lt_of_le, lt_of_le_of_lt, lt_of_not-le, not-le_of_lt, add_comm, mul_assoc, mul-le-mul_right}
use native.Mathlib.Decide.{dec_le}
use native.Mathlib.Omega.{arith}
use lib.Pow.{pow-add, pow_mono, shl_lt, shl_exact}
use lib.Count.{count_leading_zeros, leading_top}
use lib.Ieee.{binary64, size, of_bits}
use lib.Ieee.Digits.{size-le, size-lt}
use Rattle.float64.specs.Number.{magnitude, units_per_one}
use Rattle.float64.specs.inner.Digits.{Scaling}
use Rattle.float64.proofs.Bits.{subnormal_mag, normal_mag}

pub pow_below : (a b : ℕ) → 2 ^ a < 2 ^ b → a < b
pow_below a b h = lt_of_not-le (λ (g : b ≤ a). not-le_of_lt h (pow_mono g))

pub normal_scaling : (b : ℕ) → 2 ^ 52 ≤ b → b < 2047 * 2 ^ 52 → Scaling (magnitude (of_bits binary64 b) * units_per_one) (b % 2 ^ 52 + 2 ^ 52) (b / 2 ^ 52 + 1073)
unfolding units_per_one
normal_scaling b g h =
    let t = b % 2 ^ 52 in
    let f = b / 2 ^ 52 in
    record {
      same =
          ap (λ (n : ℕ). n * 2 ^ 1074) (normal_mag b g h ∙ ap (λ (n : ℕ). n * 2 ^ (f - 1)) (add_comm (2 ^ 52) t))
          ∙ mul_assoc (t + 2 ^ 52) (2 ^ (f - 1)) (2 ^ 1074)
          ∙ ap (λ (n : ℕ). (t + 2 ^ 52) * n) (sym (pow-add 2 (f - 1) 1074) ∙ ap (λ (n : ℕ). 2 ^ n) (omega arith));
      full = omega arith;
      short = omega arith;
      least = omega arith;
      most = omega arith;
    }

-- by how far a subnormal's digits are moved up, and that they then end at the 53rd
abbrev pub lift : ℕ → ℕ
lift b = count_leading_zeros 64 b - 11

pub record Lifted (b : ℕ) : Type 0 where
  pub top : ℕ
  pub far : lift b + top ≡ 52
  pub counted : count_leading_zeros 64 b ≡ lift b + 11
  pub from : 2 ^ top ≤ b
  pub to : b < 2 ^ (top + 1)

pub lifted : (b : ℕ) → 0 < b → b < 2 ^ 52 → Lifted b
lifted b l h = go (leading_top 64 b l (omega arith))
  where
    go : ((j : ℕ) × (count_leading_zeros 64 b + suc j ≡ 64) × (2 ^ j ≤ b) × (b < 2 ^ suc j)) → Lifted b
    go (j, e, lo, hi) =
        let s : j < 52 = pow_below j 52 (lt_of_le_of_lt lo h) in
        record { top = j; far = omega arith; counted = omega arith; from = lo; to = subst (λ (k : ℕ). b < 2 ^ k) (omega arith) hi }

pub lift_exact : (b : ℕ) → Lifted b → b * 2 ^ lift b % 2 ^ 64 ≡ b * 2 ^ lift b
lift_exact b p = shl_exact (p.top + 1) (lift b) 64 p.to (omega arith)

pub subnormal_scaling : (b : ℕ) → b < 2 ^ 52 → Lifted b → Scaling (magnitude (of_bits binary64 b) * units_per_one) (b * 2 ^ lift b) (1074 - lift b)
unfolding units_per_one
subnormal_scaling b h p =
    let u = lift b in
    let low : 1074 ≡ u + (1074 - u) = omega arith in
    let first : 52 ≡ p.top + u = omega arith in
    let last : p.top + 1 + u ≡ 53 = omega arith in
    record {
      same =
          ap (λ (n : ℕ). n * 2 ^ 1074) (subnormal_mag b h)
          ∙ ap (λ (n : ℕ). b * n) (ap (λ (n : ℕ). 2 ^ n) low ∙ pow-add 2 u (1074 - u))
          ∙ sym (mul_assoc b (2 ^ u) (2 ^ (1074 - u)));
      full = le_trans (le_of_eq (ap (λ (n : ℕ). 2 ^ n) first ∙ pow-add 2 p.top u)) (mul-le-mul_right (2 ^ u) p.from);
      short = lt_of_lt_of_le (shl_lt (p.top + 1) u p.to) (le_of_eq (ap (λ (n : ℕ). 2 ^ n) last));
      least = omega arith;
      most = omega arith;
    }

-- every pattern from 1 to below infinity's
pub scaling : (b : ℕ) → 0 < b → b < 2047 * 2 ^ 52 → (m : ℕ) × (h : ℕ) × Scaling (magnitude (of_bits binary64 b) * units_per_one) m h
scaling b l h = elim (dec_le (2 ^ 52) b) [
  | yes g ↦ (b % 2 ^ 52 + 2 ^ 52, b / 2 ^ 52 + 1073, normal_scaling b g h)
  | no f ↦ (b * 2 ^ lift b, 1074 - lift b, subnormal_scaling b (lt_of_not-le f) (lifted b l (lt_of_not-le f)))
]

-- the size of 53 digits and h zeros
pub size_is : (m h : ℕ) → 2 ^ 52 ≤ m → m < 2 ^ 53 → size (m * 2 ^ h) ≡ 53 + h
size_is m h lo hi =
    let a : size (m * 2 ^ h) ≤ 53 + h = size-le (m * 2 ^ h) (53 + h) (shl_lt 53 h hi) in
    let b : 52 + h < size (m * 2 ^ h) =
    pow_below (52 + h) (size (m * 2 ^ h)) (lt_of_le_of_lt (le_trans (le_of_eq (pow-add 2 52 h)) (mul-le-mul_right (2 ^ h) lo)) (size-lt (m * 2 ^ h))) in
    omega arith
