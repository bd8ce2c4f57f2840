-- Sizes in steps of 2 ^ unit units, from a double's digits: a size is its digits times a power of two, dividing both by that power changes nothing,
-- and digits below 2 ^ 60 reach no step that is 2 ^ 60 of them or more.
use mathlib.Core.Path.{◌≡◌, refl, sym, ap, ap₂, ◌∙◌, subst}
use mathlib.Core.Logic.{◌⊎◌, inl, inr}
use Prim.Native.Nat.{ℕ, zero, suc, ◌+◌, ◌-◌, ◌*◌, ◌/◌, ◌%◌, ◌^◌, ◌≤◌, ◌<◌, min}
use native.Mathlib.Nat.{mul-one, one-mul, mul_comm, mul_assoc, add-mul, div-eq_of_lt, div-eq_of_lt-le, div-mul-le_self, lt-div-mul-add}
use native.Mathlib.Nat.{div-lt_iff_lt-mul, div-le_of_le-mul, mul-div-mul_right, mul-le-mul_right, lt_of_not-le, lt_of_lt_of_le, mod-eq_of_lt}
use native.Mathlib.Decide.{dec_le}
use native.Mathlib.Omega.{arith}
use borrow.Author.Tests.{le-leb, lt-leb}
use lib.Pow.{pow-add, pow_pos, pow-lt, pow_mono}
use lib.Ieee.{binary64, of_bits}
use Rattle.float64.specs.Number.{magnitude}
use Rattle.float64.proofs.Bits.{subnormal_mag, normal_mag}
use Rattle.match_gap.specs.Rounding.{zero_step, floor_in, ceiling_in}
use Rattle.match_gap.specs.inner.Scans.{digits_of, scale_of, Measured, Shifted}

-- ---- the same steps after both are divided by a power of two
pub floor_scaled : (m t j : ℕ) → 0 < t → 0 < j → floor_in (t * j) (m * j) ≡ floor_in t m
floor_scaled m t j h p = mul-div-mul_right m t p

pub ceiling_scaled : (m t j : ℕ) → 0 < t → 0 < j → ceiling_in (t * j) (m * j) ≡ ceiling_in t m
ceiling_scaled m t j h p =
    let q = ceiling_in t m in
    let low : q * t ≤ m + (t - 1) = div-mul-le_self (m + (t - 1)) t in
    let high : m + (t - 1) < q * t + t = lt-div-mul-add h in
    let e : q * (t * j) ≡ q * t * j = sym (mul_assoc q t j) in
    let a : q * t * j + j ≤ m * j + t * j =
    omega (arith, mul-le-mul_right j (let x : q * t + 1 ≤ m + t = omega arith in x), add-mul (q * t) 1 j, add-mul m t j, one-mul j) in
    let b : m * j ≤ q * t * j = mul-le-mul_right j (let x : m ≤ q * t = omega arith in x) in
    let c : 0 < t * j = omega (arith, mul-le-mul_right j (let x : 1 ≤ t = h in x), one-mul j) in
    div-eq_of_lt-le (t * j) (omega (arith, e, a, c)) (omega (arith, e, b, c, add-mul q 1 (t * j), one-mul (t * j)))

-- ---- digits that reach no step
pub floor_capped : (m a b : ℕ) → m < a → m < b → floor_in a m ≡ floor_in b m
floor_capped m a b h k = div-eq_of_lt h ∙ sym (div-eq_of_lt k)

one_step : (m a : ℕ) → 0 < m → m ≤ a → ceiling_in a m ≡ 1
one_step m a p h = div-eq_of_lt-le a (omega arith) (omega arith)

pub ceiling_capped : (m a b : ℕ) → m < a → m < b → ceiling_in a m ≡ ceiling_in b m
ceiling_capped zero a b h k = div-eq_of_lt (omega arith) ∙ sym (div-eq_of_lt (omega arith))
ceiling_capped (suc m) a b h k = one_step (suc m) a (omega arith) (omega arith) ∙ sym (one_step (suc m) b (omega arith) (omega arith))

-- ---- a double's size is its digits times a power of two
pub small_digits : (bits : ℕ) → bits < 2 ^ 52 → (digits_of bits ≡ bits) × (scale_of bits ≡ 0)
unfolding digits_of scale_of
small_digits bits h = rw (lt-leb (2 ^ 52) bits h) (refl, refl)

pub large_digits : (bits : ℕ) → 2 ^ 52 ≤ bits → (digits_of bits ≡ bits % 2 ^ 52 + 2 ^ 52) × (scale_of bits ≡ bits / 2 ^ 52 - 1)
unfolding digits_of scale_of
large_digits bits h = rw (le-leb (2 ^ 52) bits h) (refl, refl)

record Digits (bits : ℕ) : Type 0 where
  size : magnitude (of_bits binary64 bits) ≡ digits_of bits * 2 ^ scale_of bits
  few : digits_of bits < 2 ^ 53
  -- the first digit is 1, or nothing is scaled
  least : (scale_of bits ≡ 0) ⊎ (2 ^ 52 ≤ digits_of bits)

digits : (bits : ℕ) → bits < 2047 * 2 ^ 52 → Digits bits
digits bits h = elim (dec_le (2 ^ 52) bits) [
  | yes l ↦
      let d = large_digits bits l in
      record {
        size = normal_mag bits l h ∙ ap₂ (λ (x y : ℕ). x * 2 ^ y) (omega (arith, d.0)) (sym d.1);
        few = omega (arith, d.0);
        least = inr (omega (arith, d.0));
      }
  | no f ↦
      let l : bits < 2 ^ 52 = lt_of_not-le f in
      let d = small_digits bits l in
      record {
        size = subnormal_mag bits l ∙ sym (mul-one bits) ∙ ap₂ (λ (x y : ℕ). x * 2 ^ y) (sym d.0) (sym d.1);
        few = omega (arith, d.0);
        least = inl d.1;
      }
]

-- ---- at most 2 ^ 49 steps
pub floor_most : (s a : ℕ) → 0 < s → a ≤ zero_step * s → floor_in s a ≤ zero_step
floor_most s a p h = div-le_of_le-mul s (omega (arith, h, mul_comm s zero_step))

pub ceiling_most : (s a : ℕ) → 0 < s → a ≤ zero_step * s → ceiling_in s a ≤ zero_step
ceiling_most s a p h = let l : ceiling_in s a < zero_step + 1 = (div-lt_iff_lt-mul p).1 (omega (arith, h)) in omega arith

-- ---- the shift
module _ (bits unit : ℕ) (m : Measured bits unit) where
  D : Digits bits
  D = digits bits m.is_finite

  -- with its first digit 1, a size of at most 2 ^ 49 steps has its last digit below the step
  high_digit : 2 ^ 52 ≤ digits_of bits → 52 + scale_of bits ≤ 49 + unit
  high_digit h = elim (dec_le (52 + scale_of bits) (49 + unit)) [
    | yes l ↦ l
    | no f ↦
        let big : 2 ^ (49 + unit) < 2 ^ (52 + scale_of bits) = pow-lt (lt_of_not-le f) in
        let a : 2 ^ 52 * 2 ^ scale_of bits ≤ digits_of bits * 2 ^ scale_of bits = mul-le-mul_right (2 ^ scale_of bits) h in
        let z : ⊥ = omega (arith, big, a, D.size, m.few, pow-add 2 49 unit, pow-add 2 52 (scale_of bits)) in
        absurd z
  ]

  pub scale_most : scale_of bits ≤ unit
  scale_most = elim D.least [
    | inl e ↦ omega (arith, e)
    | inr h ↦ omega (arith, high_digit h)
  ]

  spread : 2 ^ unit ≡ 2 ^ (unit - scale_of bits) * 2 ^ scale_of bits
  spread = ap (λ (k : ℕ). 2 ^ k) (let e : unit ≡ unit - scale_of bits + scale_of bits = omega (arith, scale_most) in e) ∙ pow-add 2 (unit - scale_of bits)
      (scale_of bits)

  down_at : floor_in (2 ^ unit) (magnitude (of_bits binary64 bits)) ≡ floor_in (2 ^ (unit - scale_of bits)) (digits_of bits)
  down_at = ap₂ floor_in spread D.size ∙ floor_scaled (digits_of bits) (2 ^ (unit - scale_of bits)) (2 ^ scale_of bits) (pow_pos (unit - scale_of bits))
      (pow_pos (scale_of bits))

  up_at : ceiling_in (2 ^ unit) (magnitude (of_bits binary64 bits)) ≡ ceiling_in (2 ^ (unit - scale_of bits)) (digits_of bits)
  up_at = ap₂ ceiling_in spread D.size ∙ ceiling_scaled (digits_of bits) (2 ^ (unit - scale_of bits)) (2 ^ scale_of bits)
      (pow_pos (unit - scale_of bits)) (pow_pos (scale_of bits))

  pub near_shift : unit - scale_of bits < 60 → Shifted bits unit (unit - scale_of bits)
  near_shift h = record { small = omega arith; down = down_at; up = up_at }

  pub far_shift : 60 ≤ unit - scale_of bits → Shifted bits unit 60
  far_shift h =
      let a : digits_of bits < 2 ^ 60 = omega (arith, D.few) in
      let b : 2 ^ 60 ≤ 2 ^ (unit - scale_of bits) = pow_mono h in
      let c : digits_of bits < 2 ^ (unit - scale_of bits) = lt_of_lt_of_le a b in
      record {
        small = omega arith;
        down = down_at ∙ floor_capped (digits_of bits) (2 ^ (unit - scale_of bits)) (2 ^ 60) c a;
        up = up_at ∙ ceiling_capped (digits_of bits) (2 ^ (unit - scale_of bits)) (2 ^ 60) c a;
      }

  -- the steps of a size that has few
  -- a shift of 60 or more is as good as one of 60
  pub capped_shift : Shifted bits unit (min (unit - scale_of bits) 60)
  capped_shift = elim (dec_le 60 (unit - scale_of bits)) [
    | yes h ↦ subst (Shifted bits unit) (let e : 60 ≡ min (unit - scale_of bits) 60 = omega (arith, h) in e) (far_shift h)
    | no f ↦ let l = lt_of_not-le f in
        subst (Shifted bits unit) (let e : unit - scale_of bits ≡ min (unit - scale_of bits) 60 = omega (arith, l) in e) (near_shift l)
  ]

  pub steps_few : (floor_in (2 ^ unit) (magnitude (of_bits binary64 bits)) ≤ zero_step) × (ceiling_in (2 ^ unit) (magnitude (of_bits binary64 bits)) ≤ zero_step)
  steps_few = (
    floor_most (2 ^ unit) (magnitude (of_bits binary64 bits)) (pow_pos unit) m.few,
    ceiling_most (2 ^ unit) (magnitude (of_bits binary64 bits))
        (pow_pos unit) m.few,
  )

-- digits and a step less one are a sum that fits
pub digits_few : (bits : ℕ) → bits < 2047 * 2 ^ 52 → digits_of bits < 2 ^ 53
digits_few bits h = (digits bits h).few

pub sum_fits : (d shift : ℕ) → d < 2 ^ 53 → shift ≤ 60 → d + (2 ^ shift - 1) < 2 ^ 64
sum_fits d shift h l = let a : 2 ^ shift ≤ 2 ^ 60 = pow_mono l in omega arith

-- 1 shifted up is a power of two that fits
pub one_shifted : (shift : ℕ) → shift ≤ 60 → 1 * 2 ^ shift % 2 ^ 64 ≡ 2 ^ shift
one_shifted shift l = let a : 2 ^ shift ≤ 2 ^ 60 = pow_mono l in ap (λ (x : ℕ). x % 2 ^ 64) (one-mul (2 ^ shift)) ∙ mod-eq_of_lt (omega arith)
