-- A double's place, in units: its rounded places are steps below and above it, and one of them is the other of the negation. By the two roundings
-- and the cases of the sign.
use mathlib.Core.Path.{◌≡◌, refl, ◌∙◌}
use mathlib.Core.Bool.{Bool, true, false, not, cond}
use Prim.Native.Nat.{ℕ, ◌+◌, ◌-◌, ◌*◌, ◌^◌, ◌≤◌, ◌<◌}
use lib.Pow.{pow_pos}
use native.Mathlib.Nat.{mul_comm, add-mul, mul-sub, div-mul-le_self, lt-div-mul-add}
use native.Mathlib.Omega.{arith}
use lib.Ieee.{Float, nan, inf, fin, neg}
use Rattle.float64.specs.Number.{Number, negative, origin, magnitude}
use Rattle.float64.specs.inner.Keys.{place, position}
use Rattle.float64.proofs.Scale.{mag_lt}
use Rattle.float64.proofs.Sums.{number_neg}
use Rattle.match_gap.specs.inner.Scans.{InSteps}
use Rattle.match_gap.proofs.Shifts.{ceiling_most}
use Rattle.match_gap.specs.Rounding.{zero_step, floor_in, ceiling_in, place_below, place_above, lower, upper}

-- the exact place of a number of this sign and size, in units
pub placed : ℕ → Bool → ℕ → ℕ
placed s sign size = cond sign (zero_step * s - size) (zero_step * s + size)

-- the exact place of a double
pub units_at : ℕ → Float → ℕ
units_at s x = placed s (negative x) (magnitude x)

floor_below : (s a : ℕ) → floor_in s a * s ≤ a
floor_below s a = div-mul-le_self a s

ceiling_above : (s a : ℕ) → 0 < s → a ≤ ceiling_in s a * s
ceiling_above s a p = let h : a + (s - 1) < ceiling_in s a * s + s = lt-div-mul-add p in omega arith

sub_times : (q s : ℕ) → (zero_step - q) * s ≡ zero_step * s - q * s
sub_times q s = mul_comm (zero_step - q) s ∙ mul-sub s zero_step q
    ∙ (let e : s * zero_step - s * q ≡ zero_step * s - q * s = omega (arith, mul_comm s zero_step, mul_comm s q) in e)

module _ (s : ℕ) (p : 0 < s) where
  below_placed : (sign : Bool) (a : ℕ) → a ≤ zero_step * s → place_below s sign a * s ≤ placed s sign a
  unfolding place_below placed
  below_placed true a h = omega (arith, sub_times (ceiling_in s a) s, ceiling_above s a p)
  below_placed false a h = omega (arith, add-mul zero_step (floor_in s a) s, floor_below s a)

  above_placed : (sign : Bool) (a : ℕ) → a ≤ zero_step * s → placed s sign a ≤ place_above s sign a * s
  unfolding place_above placed
  above_placed true a h = omega (arith, sub_times (floor_in s a) s, floor_below s a, h)
  above_placed false a h = omega (arith, add-mul zero_step (ceiling_in s a) s, ceiling_above s a p)

  pub lower_below : (x : Float) → magnitude x ≤ zero_step * s → lower s x * s ≤ units_at s x
  unfolding lower units_at
  lower_below x h = below_placed (negative x) (magnitude x) h

  pub upper_above : (x : Float) → magnitude x ≤ zero_step * s → units_at s x ≤ upper s x * s
  unfolding upper units_at
  upper_above x h = above_placed (negative x) (magnitude x) h

-- a number that is not below zero lies its size above the place of zero
pub not-below : (s : ℕ) (x : Float) → Number x → origin ≤ position x → units_at s x ≡ zero_step * s + magnitude x
unfolding units_at placed position place
not-below s x n h = go (negative x) (magnitude x) (mag_lt x n) h
  where
    go : (sign : Bool) (a : ℕ) → a < origin → origin ≤ place sign a → placed s sign a ≡ zero_step * s + a
    go true a l h = omega arith
    go false a l h = refl

-- ---- the negation
neg_sign : (x : Float) → Number x → negative (neg x) ≡ not (negative x)
unfolding neg
neg_sign nan n = absurd n.is_finite
neg_sign (inf s) n = absurd n.is_finite
neg_sign (fin s m e) n = refl

neg_size : (x : Float) → Number x → magnitude (neg x) ≡ magnitude x
unfolding neg magnitude
neg_size nan n = absurd n.is_finite
neg_size (inf s) n = absurd n.is_finite
neg_size (fin s m e) n = refl

-- a place rounded up lies as far above the place of zero as that of the negation, rounded down, lies below it
turned : (s : ℕ) (sign : Bool) (a : ℕ) → ceiling_in s a ≤ zero_step → 2 * zero_step - place_below s (not sign) a ≡ place_above s sign a
unfolding place_below place_above
turned s true a h = omega arith
turned s false a h = omega (arith, h)

module _ {unit : ℕ} {x : Float} (i : InSteps unit x) where
  pub neg_in : InSteps unit (neg x)
  neg_in = record { number = number_neg x i.number; few = rw (neg_size x i.number) i.few }

  pub upper_by_lower : 2 * zero_step - lower (2 ^ unit) (neg x) ≡ upper (2 ^ unit) x
  unfolding lower upper
  upper_by_lower = rw (neg_sign x i.number, neg_size x i.number)
      (turned (2 ^ unit) (negative x) (magnitude x) (ceiling_most (2 ^ unit) (magnitude x) (pow_pos unit) i.few))
