-- Every finite double is a whole number of units: `magnitude x` is its size exactly, and it is below `origin`.
-- A double's size in units is found from any fraction over `units_per_one` that it equals.
use mathlib.Core.Path.{◌≡◌, refl, sym, ap, ◌∙◌, subst}
use mathlib.Core.Bool.{Bool, ◌&&◌}
use Prim.Native.Nat.{ℕ, zero, suc, ◌-◌, ◌*◌, ◌/◌, ◌%◌, ◌^◌, ◌≤◌, ◌<◌}
use native.Mathlib.Nat.{le_of_eq, lt_of_lt_of_le, not-le_of_lt, mul_assoc, mul_comm, mul_right_comm, zero-mul, mul-div_cancel, mul-lt-mul_of_pos_right}
use native.Mathlib.Nat.{div-lt_iff_lt-mul, zero-div, lt_of_not-le, le_of_suc-le-suc}
use lib.Dec.{T, leb, ltb, eqb, leb→le, ltb→lt}
use lib.Pow.{pow-add, pow_pos, pow-lt}
use lib.IntN.{ℤ, pos, negsuc}
use lib.Ieee.{Float, nan, inf, fin, binary64, up, down, fits}
use lib.Ieee.Fits.{and_l, and_r, down_pos}
use lib.Ieee.Exact.{HasValue}
use lib.Ieee.Digits.{back}
use lib.Ieee.Scale.{finite}
use Rattle.float64.specs.Number.{Number, negative, units_per_one, origin, magnitude}

pub units_pos : 0 < units_per_one
unfolding units_per_one
units_pos = pow_pos 1074

pub mid_pos : 0 < origin
unfolding origin
mid_pos = pow_pos 2098

-- ---- what a double that fits is made of
-- the exponent is not too low, and the number is in range
low_enough : (s : Bool) (m : ℕ) (e : ℤ) → T (fits binary64 (fin s (suc m) e)) → down e ≤ units_per_one
unfolding fits units_per_one
low_enough s m e t =
    leb→le (down e) (2 ^ 1074)
    (and_r (eqb (suc m % 2) 1 && ltb (suc m) (2 ^ 53)) (leb (down e) (2 ^ 1074))
    (and_l (eqb (suc m % 2) 1 && ltb (suc m) (2 ^ 53) && leb (down e) (2 ^ 1074)) (ltb (suc m * up e) (2 ^ 1024 * down e)) t))

in_range_lem : (s : Bool) (m : ℕ) (e : ℤ) → T (fits binary64 (fin s (suc m) e)) → suc m * up e < 2 ^ 1024 * down e
unfolding fits
in_range_lem s m e t = ltb→lt (suc m * up e) (2 ^ 1024 * down e)
    (and_r (eqb (suc m % 2) 1 && ltb (suc m) (2 ^ 53) && leb (down e) (2 ^ 1074)) (ltb (suc m * up e) (2 ^ 1024 * down e)) t)

-- ---- the size in units
-- a power of two at most another divides it
exponents : (j l : ℕ) → 2 ^ j ≤ 2 ^ l → j ≤ l
exponents j l h = le_of_suc-le-suc (lt_of_not-le (λ (k : suc l ≤ j). not-le_of_lt (pow-lt k) h))

divides : (a j l : ℕ) → 2 ^ j ≤ 2 ^ l → a * 2 ^ l / 2 ^ j * 2 ^ j ≡ a * 2 ^ l
divides a j l h =
    let e : a * 2 ^ l ≡ a * 2 ^ (l - j) * 2 ^ j =
    ap (λ (x : ℕ). a * x) (ap (λ (x : ℕ). 2 ^ x) (sym (back l j (exponents j l h))) ∙ pow-add 2 (l - j) j) ∙ sym (mul_assoc a (2 ^ (l - j)) (2 ^ j)) in
    ap (λ (x : ℕ). x / 2 ^ j * 2 ^ j) e ∙ ap (λ (x : ℕ). x * 2 ^ j) (mul-div_cancel (a * 2 ^ (l - j)) (pow_pos j)) ∙ sym e

whole_units : (a : ℕ) (e : ℤ) → down e ≤ units_per_one → a * units_per_one / down e * down e ≡ a * units_per_one
unfolding units_per_one
whole_units a (pos k) h = divides a 0 1074 h
whole_units a (negsuc k) h = divides a (suc k) 1074 h

-- magnitude x is x's size over one, exactly
pub own_value : (x : Float) → Number x → HasValue x (negative x) (magnitude x) units_per_one
unfolding magnitude
own_value nan n = absurd n.is_finite
own_value (inf s) n = absurd n.is_finite
own_value (fin s zero e) n = (
  refl,
  ap (λ (x : ℕ). x * units_per_one) (zero-mul (up e)) ∙ zero-mul units_per_one
      ∙ sym (ap (λ (x : ℕ). x / down e * down e) (ap (λ (x : ℕ). x * units_per_one) (zero-mul (up e)) ∙ zero-mul units_per_one)
      ∙ ap (λ (x : ℕ). x * down e) (zero-div (down e)) ∙ zero-mul (down e)),
)
own_value (fin s (suc m) e) n = (refl, sym (whole_units (suc m * up e) e (low_enough s m e n.double)))

pub mag_of_value : (x : Float) (s : Bool) (a : ℕ) → HasValue x s a units_per_one → magnitude x ≡ a
unfolding magnitude
mag_of_value nan s a v = absurd v
mag_of_value (inf t) s a v = absurd v
mag_of_value (fin t m e) s a v = ap (λ (x : ℕ). x / down e) v.1 ∙ mul-div_cancel a (down_pos e)

pub sign_of_value : (x : Float) (s : Bool) (a c : ℕ) → HasValue x s a c → negative x ≡ s
sign_of_value nan s a c v = absurd v
sign_of_value (inf t) s a c v = absurd v
sign_of_value (fin t m e) s a c v = v.0

pub finite_of_value : (x : Float) (s : Bool) (a c : ℕ) → HasValue x s a c → T (finite x)
finite_of_value nan s a c v = absurd v
finite_of_value (inf t) s a c v = absurd v
finite_of_value (fin t m e) s a c v = tt

-- a finite double is below the first size out of range
units_below : (a d u v m : ℕ) → 0 < d → m ≡ u * v → a < v * d → 0 < u → a * u / d < m
units_below a d u v m D e h U =
    (div-lt_iff_lt-mul D).1 (lt_of_lt_of_le (mul-lt-mul_of_pos_right h U) (le_of_eq (mul_right_comm v d u ∙ ap (λ (x : ℕ). x * d) (mul_comm v u ∙ sym e))))

mid_is : origin ≡ units_per_one * 2 ^ 1024
unfolding origin units_per_one
mid_is = refl

pub mag_lt : (x : Float) → Number x → magnitude x < origin
unfolding magnitude
mag_lt nan n = absurd n.is_finite
mag_lt (inf s) n = absurd n.is_finite
mag_lt (fin s zero e) n =
    subst (λ (x : ℕ). x < origin)
    (sym (ap (λ (x : ℕ). x / down e) (ap (λ (x : ℕ). x * units_per_one) (zero-mul (up e)) ∙ zero-mul units_per_one) ∙ zero-div (down e))) mid_pos
mag_lt (fin s (suc m) e) n = units_below (suc m * up e) (down e) units_per_one (2 ^ 1024) origin (down_pos e) mid_is (in_range_lem s m e n.double) units_pos
