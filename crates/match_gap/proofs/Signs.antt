-- A double by its bits: the first says its sign, the others its size. The rounded places by the sign.
use mathlib.Core.Path.{◌≡◌, refl, sym, ap, ◌∙◌, subst}
use mathlib.Core.Bool.{Bool, true, false}
use Prim.Native.Nat.{ℕ, ◌+◌, ◌-◌, ◌*◌, ◌/◌, ◌%◌, ◌^◌, ◌≤◌, ◌<◌}
use native.Mathlib.Nat.{mod-eq_of_lt}
use native.Mathlib.Omega.{arith}
use lib.Dec.{T}
use lib.Ieee.{Float, nan, inf, fin, binary64, size, fits, of_bits, to_bits}
use lib.Ieee.Digits.{size-le}
use lib.Ieee.Fits.{kept-lt}
use lib.Ieee.Scale.{finite}
use Rattle.float64.specs.Number.{Number, negative, origin, magnitude}
use Rattle.float64.proofs.Scale.{mag_lt}
use Rattle.float64.proofs.Bits.{pattern, bits_are, bits_in}
use Rattle.whole_log.proofs.Theorems.{in_bits, size_of_bits}
use Rattle.match_gap.specs.Rounding.{zero_step, floor_in, ceiling_in, place_below, place_above, lower, upper}
use Rattle.match_gap.specs.inner.Scans.{Measured, InSteps}

size_of : (x : Float) → T (fits binary64 x) → T (finite x) → magnitude (of_bits binary64 (to_bits binary64 x % 2 ^ 63)) ≡ magnitude x
size_of nan t f = absurd f
size_of (inf s) t f = absurd f
size_of (fin s m e) t f = size_of_bits s m e t

module _ (x : Float) (n : Number x) where
  clear : to_bits binary64 x < 2 ^ 63 → negative x ≡ false
  clear h = go (negative x) (bits_are x n.is_finite)
    where
      go : (s : Bool) → to_bits binary64 x ≡ pattern s (magnitude x) → s ≡ false
      go true e = let z : ⊥ = omega (arith, h, e) in absurd z
      go false e = refl

  raised : 2 ^ 63 ≤ to_bits binary64 x → negative x ≡ true
  raised h = go (negative x) refl
    where
      go : (s : Bool) → negative x ≡ s → s ≡ true
      go true e = refl
      go false e = let z : ⊥ = omega (arith, h, bits_in x n e) in absurd z

  -- the bits but for the sign
  size_clear : to_bits binary64 x < 2 ^ 63 → magnitude (of_bits binary64 (to_bits binary64 x)) ≡ magnitude x
  size_clear h = ap (λ (b : ℕ). magnitude (of_bits binary64 b)) (sym (mod-eq_of_lt h)) ∙ size_of x n.double n.is_finite

  bits_few : to_bits binary64 x < 2 ^ 64
  unfolding origin
  bits_few =
      let k : size (magnitude x) ≤ 2098 = size-le (magnitude x) 2098 (mag_lt x n) in
      let l : magnitude x / 2 ^ (size (magnitude x) - 53) < 2 ^ 53 = kept-lt 53 (magnitude x) in
      go (negative x) (bits_are x n.is_finite) k l
    where
      go : (s : Bool) → to_bits binary64 x ≡ pattern s (magnitude x) → size (magnitude x) ≤ 2098 → magnitude x / 2 ^ (size (magnitude x) - 53) < 2 ^ 53
          → to_bits binary64 x < 2 ^ 64
      go true e k l = omega arith
      go false e k l = omega arith

  rest-is : 2 ^ 63 ≤ to_bits binary64 x → to_bits binary64 x % 2 ^ 63 ≡ to_bits binary64 x - 2 ^ 63
  rest-is h = omega (arith, bits_few)

  size_raised : 2 ^ 63 ≤ to_bits binary64 x → magnitude (of_bits binary64 (to_bits binary64 x - 2 ^ 63)) ≡ magnitude x
  size_raised h = ap (λ (b : ℕ). magnitude (of_bits binary64 b)) (sym (rest-is h)) ∙ size_of x n.double n.is_finite

module _ (unit : ℕ) (x : Float) (i : InSteps unit x) (u : unit ≤ 1074) where
  finite_bits : to_bits binary64 x % 2 ^ 63 < 2047 * 2 ^ 52
  finite_bits = in_bits x i.number.double i.number.is_finite

  pub measured_clear : to_bits binary64 x < 2 ^ 63 → Measured (to_bits binary64 x) unit
  measured_clear h = record {
    is_finite = subst (λ (b : ℕ). b < 2047 * 2 ^ 52) (mod-eq_of_lt h) finite_bits;
    units = u;
    few =
        subst (λ (a : ℕ). a ≤ zero_step * 2 ^ unit) (sym (size_clear x i.number h)) i.few;
  }

  pub measured_raised : 2 ^ 63 ≤ to_bits binary64 x → Measured (to_bits binary64 x - 2 ^ 63) unit
  measured_raised h = record {
    is_finite = subst (λ (b : ℕ). b < 2047 * 2 ^ 52) (rest-is x i.number h) finite_bits;
    units = u;
    few =
        subst (λ (a : ℕ). a ≤ zero_step * 2 ^ unit) (sym (size_raised x i.number h)) i.few;
  }

  -- ---- the rounded places
  pub lower_clear : to_bits binary64 x < 2 ^ 63 → zero_step + floor_in (2 ^ unit) (magnitude (of_bits binary64 (to_bits binary64 x))) ≡ lower (2 ^ unit) x
  unfolding lower place_below
  lower_clear h = rw (clear x i.number h, size_clear x i.number h) refl

  pub lower_raised : 2 ^ 63 ≤ to_bits binary64 x → zero_step - ceiling_in (2 ^ unit) (magnitude (of_bits binary64 (to_bits binary64 x - 2 ^ 63))) ≡ lower
      (2 ^ unit) x
  unfolding lower place_below
  lower_raised h = rw (raised x i.number h, size_raised x i.number h) refl

  pub upper_clear : to_bits binary64 x < 2 ^ 63 → zero_step + ceiling_in (2 ^ unit) (magnitude (of_bits binary64 (to_bits binary64 x))) ≡ upper (2 ^ unit) x
  unfolding upper place_above
  upper_clear h = rw (clear x i.number h, size_clear x i.number h) refl

  pub upper_raised : 2 ^ 63 ≤ to_bits binary64 x → zero_step - floor_in (2 ^ unit) (magnitude (of_bits binary64 (to_bits binary64 x - 2 ^ 63))) ≡ upper (2 ^ unit) x
  unfolding upper place_above
  upper_raised h = rw (raised x i.number h, size_raised x i.number h) refl
