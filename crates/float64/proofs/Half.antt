-- Half of a whole number below 2 ^ 53 in size is a double, so that x / 2.0 stands for exactly half of x: its size is as many half units of 1 as x has
-- units of 1.
use mathlib.Core.Path.{◌≡◌, refl, sym, ap, ◌∙◌, subst}
use mathlib.Core.Bool.{Bool, true, false}
use Prim.Native.Nat.{ℕ, ◌+◌, ◌*◌, ◌^◌, ◌<◌}
use native.Mathlib.Nat.{lt_of_lt_of_le, le_of_lt, mul-one, mul_assoc, zero-mul, mul-pos, mul-lt-mul_of_pos_right}
use native.Mathlib.Omega.{arith}
use lib.Dec.{lit<}
use lib.Pow.{pow_pos, pow-add, pow-lt}
use lib.IntN.{ℤ, pos, negsuc, nat_abs}
use lib.Ieee.{Float, nan, inf, fin, binary64, up, down, round, div, of_bits}
use lib.Ieee.Exact.{HasValue, round_exact}
use lib.Ieee.Fits.{round-fits, down_pos}
use lib.Ieee.Scale.{round_same}
use Rattle.float64.specs.Number.{Number, Whole, negative, units_per_one, origin, magnitude}
use Rattle.float64.specs.inner.Keys.{place, position}
use Rattle.float64.specs.inner.Arithmetic.{whole_limit}
use Rattle.float64.specs.Constants.{two}
use Rattle.float64.proofs.Integers.{plus, minus}
use Rattle.float64.proofs.Scale.{units_pos, own_value, mag_lt}
use Rattle.float64.proofs.Sums.{made}
use Rattle.float64.proofs.WholeNumbers.{number_whole, whole_key}

-- the number 1 / 2 in units
unfoldable half_units : ℕ
half_units = 2 ^ 1073

two_halves : units_per_one ≡ half_units * 2
unfolding units_per_one half_units
two_halves = refl

-- ---- the size of a whole number
size_at : (s : Bool) (a : ℕ) (z : ℤ) → a < origin → place s a + minus z * units_per_one ≡ origin + plus z * units_per_one → a ≡ nat_abs z * units_per_one
unfolding place
size_at true a (pos w) l h = omega (arith, zero-mul units_per_one)
size_at true a (negsuc w) l h = omega (arith, zero-mul units_per_one)
size_at false a (pos w) l h = omega (arith, zero-mul units_per_one)
size_at false a (negsuc w) l h = omega (arith, zero-mul units_per_one)

pub whole_size : (x : Float) (z : ℤ) → Whole x z → magnitude x ≡ nat_abs z * units_per_one
unfolding position
whole_size x z w = size_at (negative x) (magnitude x) z (mag_lt x (number_whole x z w)) (whole_key x z w)

-- ---- its half
-- w half units are a double
halves_value : (s : Bool) (w : ℕ) → w < whole_limit → HasValue (round binary64 s (w * half_units) units_per_one) s (w * half_units) units_per_one
unfolding units_per_one half_units
halves_value s w h = round_exact binary64 s (w * 2 ^ 1073) (2 ^ 1074) w 1073 (pow_pos 1074) h reach refl
  where
    reach : w * 2 ^ 1073 < 2 ^ 2098
    reach = lt_of_lt_of_le (mul-lt-mul_of_pos_right h (pow_pos 1073))
        (le_of_lt (subst (λ (i : ℕ). i < 2 ^ 2098) (pow-add 2 53 1073) (pow-lt {i = 53 + 1073} {j = 2098} (lit< tt))))

halved : (s : Bool) (m : ℕ) (e : ℤ) → div binary64 (fin s m e) two ≡ round binary64 s (m * up e * 1) (1 * 2 * down e)
unfolding div of_bits
halved true m e = refl
halved false m e = refl

-- the quotient as half units over a unit
half_rounds : (x : Float) (z : ℤ) → Whole x z → div binary64 x two ≡ round binary64 (negative x) (nat_abs z * half_units) units_per_one
half_rounds nan z w = absurd w.is_finite
half_rounds (inf s) z w = absurd w.is_finite
half_rounds (fin s m e) z w =
    halved s m e
    ∙ round_same binary64 s (m * up e * 1) (1 * 2 * down e) (nat_abs z * half_units) units_per_one (mul-pos (lit< tt) (down_pos e)) units_pos
    (ap (λ (a : ℕ). a * units_per_one) (mul-one (m * up e))
    ∙ (own_value (fin s m e) (number_whole (fin s m e) z w)).1
    ∙ ap (λ (a : ℕ). a * down e) (whole_size (fin s m e) z w ∙ ap (λ (a : ℕ). nat_abs z * a) two_halves ∙ sym (mul_assoc (nat_abs z) half_units 2))
    ∙ mul_assoc (nat_abs z * half_units) 2 (down e))

-- twice a place, from origin
twice_place : (s : Bool) (a b : ℕ) → b ≡ a * 2 → b < origin → 2 * place s a ≡ place s b + origin
unfolding place
twice_place true a b e h = omega arith
twice_place false a b e h = omega arith

-- x / 2.0 is finite, and twice it is x
pub half_exact : (x : Float) (z : ℤ) → Whole x z → nat_abs z < whole_limit → Number (div binary64 x two)
    × (2 * position (div binary64 x two) ≡ position x + origin)
unfolding position
half_exact x z w h =
    let n = nat_abs z in
    let q = round binary64 (negative x) (n * half_units) units_per_one in
    let r : Number q × (position q ≡ place (negative x) (n * half_units)) =
    made q (negative x) (n * half_units) (round-fits binary64 (negative x) (n * half_units) units_per_one) (halves_value (negative x) n h) in
    let e : magnitude x ≡ n * half_units * 2 = whole_size x z w ∙ ap (λ (a : ℕ). n * a) two_halves ∙ sym (mul_assoc n half_units 2) in
    rw (half_rounds x z w)
    (r.0, rw r.1 (twice_place (negative x) (n * half_units) (magnitude x) e (mag_lt x (number_whole x z w))))
