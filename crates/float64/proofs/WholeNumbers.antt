-- Doubles that stand for whole numbers: their keys are whole multiples of `units_per_one` from origin, sums and differences are exact up to 2 ^ 53, and
-- comparisons are those of the numbers.
-- An exact sum that is a whole number of at most 53 digits is a double itself, so rounding leaves it.
use mathlib.Core.Path.{◌≡◌, refl, sym, ap, ap₂, ◌∙◌, subst}
use mathlib.Core.Bool.{Bool, true, false}
use Prim.Native.Nat.{ℕ, zero, suc, ◌+◌, ◌*◌, ◌/◌, ◌≤◌, ◌<◌}
use native.Mathlib.Nat.{lt_of_le_of_lt, le_of_mul-le-mul_right, mul-le-mul_right, mul-lt-mul_of_pos_right, lt_of_mul-lt-mul_right, mul_right_comm}
use native.Mathlib.Nat.{mul-one, add-mul, zero-mul, eq_of_mul-eq-mul_right, zero-lt-suc, add-mul-div_right, mul-div_cancel}
use native.Mathlib.Omega.{arith}
use lib.Dec.{T, leb, ltb, lit<}
use lib.IntN.{ℤ, pos, negsuc, neg_ℤ, nat_abs, ◌+ℤ◌, ◌-ℤ◌, ◌*ℤ◌}
use lib.Signed.{lt_z, le_z}
use lib.Ieee.{Float, nan, inf, fin, binary64, up, down, round, add, sub, neg, lt, le, fits, is_nan, of_int}
use lib.Ieee.Fits.{round-fits}
use lib.Ieee.Exact.{HasValue}
use lib.Ieee.Back.{round_whole}
use lib.Ieee.Scale.{round_same}
use lib.Ieee.Positive.{num, den, den_pos}
use Rattle.float64.specs.Number.{Number, Whole, whole_of, negative, signed, units_per_one, origin, magnitude}
use Rattle.float64.specs.inner.Keys.{Ordered, place, position}
use Rattle.float64.specs.inner.Arithmetic.{Apart, WholeArithmetic, whole_limit}
use Rattle.float64.specs.Number.{IsWhole}
use Rattle.slices.proofs.Bools.{same_ltb, same_leb}
use Rattle.float64.proofs.Integers.{plus, minus, same_integer, sum_parts, neg_parts, less_parts, at_most_parts, multiple_parts}
use Rattle.float64.proofs.Scale.{units_pos, own_value, mag_lt}
use Rattle.float64.proofs.Order.{lt_key, le_key}
use Rattle.float64.proofs.Sums.{Exactly, Rounds, add_rounds, made, number_neg, key_neg, moved, moved_back}

-- ---- Whole x z, said of the position
-- n / d is x / u, so n = (p - q) * d says x = (p - q) * u
rescaled : (n x d u p q : ℕ) → 0 < d → n * u ≡ x * d → n + q * d ≡ p * d → x + q * u ≡ p * u
rescaled n x d u p q D e h =
    eq_of_mul-eq-mul_right d D (x + q * u) (p * u)
    (add-mul x (q * u) d ∙ ap₂ (λ (a b : ℕ). a + b) (sym e) (mul_right_comm q u d) ∙ sym (add-mul n (q * d) u) ∙ ap (λ (a : ℕ). a * u) h ∙ mul_right_comm p d u)

pub number_whole : (x : Float) (z : ℤ) → Whole x z → Number x
number_whole x z w = record { double = w.double; is_finite = w.is_finite }

-- from the fraction's signed parts to the position, and back
whole_place : (s : Bool) (n x d : ℕ) (z : ℤ) → 0 < d → x < origin → n * units_per_one ≡ x * d → signed s n ≡ z *ℤ pos d
    → place s x + minus z * units_per_one ≡ origin + plus z * units_per_one
unfolding place
whole_place true n x d z D m e h =
    let k : n + plus z * d ≡ minus z * d = omega (arith, neg_parts (pos n), ap plus h, ap minus h, multiple_parts z d) in
    omega (arith, rescaled n x d units_per_one (minus z) (plus z) D e k)
whole_place false n x d z D m e h =
    let k : n + minus z * d ≡ plus z * d = omega (arith, ap plus h, ap minus h, multiple_parts z d) in
    omega (arith, rescaled n x d units_per_one (plus z) (minus z) D e k)

place_whole : (s : Bool) (n x d : ℕ) (z : ℤ) → 0 < d → x < origin → n * units_per_one ≡ x * d
    → place s x + minus z * units_per_one ≡ origin + plus z * units_per_one → signed s n ≡ z *ℤ pos d
unfolding place
place_whole true n x d z D m e h =
    let k : n + plus z * d ≡ minus z * d = rescaled x n units_per_one d (minus z) (plus z) units_pos (sym e) (omega arith) in
    same_integer (neg_ℤ (pos n)) (z *ℤ pos d) (omega (arith, neg_parts (pos n), multiple_parts z d))
place_whole false n x d z D m e h =
    let k : n + minus z * d ≡ plus z * d = rescaled x n units_per_one d (plus z) (minus z) units_pos (sym e) (omega arith) in
    same_integer (pos n) (z *ℤ pos d) (omega (arith, multiple_parts z d))

-- a finite double's own fraction over its size in units
crossed : (x : Float) → Number x → num x * units_per_one ≡ magnitude x * den x
crossed nan n = absurd n.is_finite
crossed (inf s) n = absurd n.is_finite
crossed (fin s m e) n = (own_value (fin s m e) n).1

pub whole_key : (x : Float) (z : ℤ) → Whole x z → position x + minus z * units_per_one ≡ origin + plus z * units_per_one
unfolding position
whole_key x z w =
    let n : Number x = number_whole x z w in
    whole_place (negative x) (num x) (magnitude x) (den x) z (den_pos x) (mag_lt x n) (crossed x n) w.value

pub key_whole : (x : Float) (z : ℤ) → Number x → position x + minus z * units_per_one ≡ origin + plus z * units_per_one → Whole x z
unfolding position
key_whole x z n h = record {
  double = n.double;
  is_finite = n.is_finite;
  value =
      place_whole (negative x) (num x) (magnitude x) (den x) z (den_pos x) (mag_lt x n) (crossed x n) h;
}

-- ---- sums
-- w units of one round to themselves
ones_value : (s : Bool) (w : ℕ) → w ≤ whole_limit → HasValue (round binary64 s (w * units_per_one) units_per_one) s (w * units_per_one) units_per_one
ones_value s w h =
    subst (λ (x : Float). HasValue x s (w * units_per_one) units_per_one)
    (sym (round_same binary64 s (w * units_per_one) units_per_one w 1 units_pos (zero-lt-suc 0) (mul-one (w * units_per_one))))
    (over (round binary64 s w 1) (round_whole binary64 s w h))
  where
    over : (x : Float) → HasValue x s w 1 → HasValue x s (w * units_per_one) units_per_one
    over nan v = elim v [ ]
    over (inf _) v = elim v [ ]
    over (fin t m e) v = (v.0, ap (λ (a : ℕ). a * units_per_one) (sym (mul-one (m * up e)) ∙ v.1) ∙ mul_right_comm w (down e) units_per_one)

-- the exact sum's size, where the two keys add up to c's
total_is : (s : Bool) (n k : ℕ) (c : ℤ) → Exactly s n k → k + minus c * units_per_one ≡ origin + origin + plus c * units_per_one → n ≡ nat_abs c * units_per_one
total_is true n k (pos w) e h = omega (arith, zero-mul units_per_one)
total_is true n k (negsuc w) e h = omega (arith, zero-mul units_per_one)
total_is false n k (pos w) e h = omega (arith, zero-mul units_per_one)
total_is false n k (negsuc w) e h = omega (arith, zero-mul units_per_one)

limit_below : whole_limit * units_per_one < origin
unfolding units_per_one origin
limit_below = lit< tt

sum_place : (s : Bool) (n k : ℕ) (c : ℤ) → Exactly s n k → k + minus c * units_per_one ≡ origin + origin + plus c * units_per_one → n < origin
    → place s n + minus c * units_per_one ≡ origin + plus c * units_per_one
unfolding place
sum_place true n k c e h l = omega arith
sum_place false n k c e h l = omega arith

whole_sum : (r : Float) (k : ℕ) (c : ℤ) → Rounds r k → k + minus c * units_per_one ≡ origin + origin + plus c * units_per_one → nat_abs c ≤ whole_limit → Whole r c
whole_sum r k c e h l =
    let n : e.total ≡ nat_abs c * units_per_one = total_is e.sign e.total k c e.exact h in
    let x : Exactly e.sign (nat_abs c * units_per_one) k = subst (λ (a : ℕ). Exactly e.sign a k) n e.exact in
    let q : Float = round binary64 e.sign (nat_abs c * units_per_one) units_per_one in
    let m : Number q × (position q ≡ place e.sign (nat_abs c * units_per_one)) =
    made q e.sign (nat_abs c * units_per_one) (round-fits binary64 e.sign (nat_abs c * units_per_one) units_per_one) (ones_value e.sign (nat_abs c) l) in
    rw (e.rounds, n)
    (key_whole q c m.0 (rw m.1 (sum_place e.sign (nat_abs c * units_per_one) k c x h (lt_of_le_of_lt (mul-le-mul_right units_per_one l) limit_below))))

-- the keys of two whole numbers add up to their sum's
sum_key : (x y : Float) (a b : ℤ) → Whole x a → Whole y b → position x + position y + minus (a +ℤ b) * units_per_one ≡ origin + origin + plus
    (a +ℤ b) * units_per_one
sum_key x y a b p q =
    let h : plus (a +ℤ b) * units_per_one + (minus a * units_per_one + minus b * units_per_one) ≡ plus a * units_per_one + plus b * units_per_one + minus
    (a +ℤ b) * units_per_one = simp add-mul at (ap (λ (v : ℕ). v * units_per_one) (sum_parts a b)) in
    omega (arith, whole_key x a p, whole_key y b q)

pub whole_add : (x y : Float) (a b : ℤ) → Whole x a → Whole y b → nat_abs (a +ℤ b) ≤ whole_limit → Whole (add binary64 x y) (a +ℤ b)
whole_add x y a b p q l = whole_sum (add binary64 x y) (position x + position y) (a +ℤ b) (add_rounds x y (number_whole x a p) (number_whole y b q))
    (sum_key x y a b p q) l

pub whole_neg : (y : Float) (b : ℤ) → Whole y b → Whole (neg y) (neg_ℤ b)
whole_neg y b q =
    key_whole (neg y) (neg_ℤ b) (number_neg y (number_whole y b q))
    (rw ((neg_parts b).0, (neg_parts b).1) (omega (arith, key_neg y (number_whole y b q), whole_key y b q)))

-- ---- comparisons
pub ordered : (x : Float) → Number x → Ordered x
unfolding is_nan
ordered nan n = absurd n.is_finite
ordered (inf s) n = absurd n.is_finite
ordered (fin s m e) n = record { double = n.double; not_nan = tt }

-- two keys compare as the numbers' parts do, crosswise
module _ (x y p q r s u : ℕ) (U : 0 < u) (e : x + q * u ≡ origin + p * u) (f : y + s * u ≡ origin + r * u) where
  keys_apart : (x + (r + q) * u ≡ y + (p + s) * u)
  keys_apart = rw (add-mul r q u, add-mul p s u) (omega arith)

  keys_lt : ltb x y ≡ ltb (p + s) (r + q)
  keys_lt =
      same_ltb x y (p + s) (r + q)
      (λ h. lt_of_mul-lt-mul_right u (omega (arith, keys_apart)))
      (λ h. omega (arith, keys_apart, mul-lt-mul_of_pos_right h U))

  keys_le : leb x y ≡ leb (p + s) (r + q)
  keys_le =
      same_leb x y (p + s) (r + q)
      (λ h. le_of_mul-le-mul_right (omega (arith, keys_apart)) U)
      (λ h. omega (arith, keys_apart, mul-le-mul_right u h))

module _ (x y : Float) (a b : ℤ) (p : Whole x a) (q : Whole y b) where
  left : Ordered x
  left = ordered x (number_whole x a p)

  right : Ordered y
  right = ordered y (number_whole y b q)

  pub whole_lt : lt x y ≡ lt_z a b
  whole_lt = lt_key x y left right ∙ keys_lt (position x) (position y) (plus a) (minus a) (plus b) (minus b) units_per_one units_pos (whole_key x a p)
      (whole_key y b q) ∙ sym (less_parts a b)

  pub whole_le : le x y ≡ le_z a b
  whole_le = le_key x y left right ∙ keys_le (position x) (position y) (plus a) (minus a) (plus b) (minus b) units_per_one units_pos (whole_key x a p)
      (whole_key y b q) ∙ sym (at_most_parts a b)

-- a difference of multiples, divided
split : (n d p q : ℕ) → 0 < d → n + p * d ≡ q * d → n / d + p ≡ q
split n d p q D h = sym (add-mul-div_right n p D) ∙ ap (λ (a : ℕ). a / d) h ∙ mul-div_cancel q D

-- and `whole_of` finds it
quotient : (s : Bool) (n d : ℕ) (z : ℤ) → 0 < d → signed s n ≡ z *ℤ pos d → signed s (n / d) ≡ z
quotient true n d z D h =
    let k : n + plus z * d ≡ minus z * d = omega (arith, neg_parts (pos n), ap plus h, ap minus h, multiple_parts z d) in
    same_integer (neg_ℤ (pos (n / d))) z (omega (arith, neg_parts (pos (n / d)), split n d (plus z) (minus z) D k))
quotient false n d z D h =
    let k : n + minus z * d ≡ plus z * d = omega (arith, ap plus h, ap minus h, multiple_parts z d) in
    same_integer (pos (n / d)) z (omega (arith, split n d (minus z) (plus z) D k))

pub whole_of_lem : (x : Float) (z : ℤ) → Whole x z → whole_of x ≡ z
unfolding whole_of
whole_of_lem x z w = quotient (negative x) (num x) (den x) z (den_pos x) w.value

-- ---- an integer as a double
standing : (x : Float) (s : Bool) (n : ℕ) → T (fits binary64 x) → HasValue x s n 1 → Whole x (signed s n)
standing nan s n f v = absurd v
standing (inf t) s n f v = absurd v
standing (fin t m e) s n f v =
    let k : num (fin t m e) ≡ n * den (fin t m e) = sym (mul-one (m * up e)) ∙ v.1 in
    record { double = f; is_finite = tt; value = ap (λ (b : Bool). signed b (m * up e)) v.0 ∙ ap (signed s) k ∙ signed_multiple s n (down e) }
  where
    signed_multiple : (s : Bool) (a b : ℕ) → signed s (a * b) ≡ signed s a *ℤ pos b
    signed_multiple true a b =
        same_integer (neg_ℤ (pos (a * b))) (neg_ℤ (pos a) *ℤ pos b)
        (omega (
          arith,
          neg_parts (pos (a * b)),
          zero-mul b,
          multiple_parts (neg_ℤ (pos a)) b,
          ap (λ (n : ℕ). n * b) (neg_parts (pos a)).0,
          ap (λ (n : ℕ). n * b) (neg_parts (pos a)).1,
        ))
    signed_multiple false a b = refl

-- an integer of at most 53 digits is a double, which stands for it
pub integer_whole : (z : ℤ) → nat_abs z ≤ whole_limit → Whole (of_int binary64 z) z
unfolding of_int
integer_whole (pos n) h = standing (round binary64 false n 1) false n (round-fits binary64 false n 1) (round_whole binary64 false n h)
integer_whole (negsuc n) h = standing (round binary64 true (suc n) 1) true (suc n) (round-fits binary64 true (suc n) 1) (round_whole binary64 true (suc n) h)

-- ---- the instance of the record of laws
-- a whole multiple of `units_per_one` within the limit
small_enough : (k : ℕ) (c : ℤ) → k + minus c * units_per_one ≡ origin + origin + plus c * units_per_one → Apart (whole_limit * units_per_one) k (origin + origin)
    → nat_abs c ≤ whole_limit
small_enough k (pos w) h a = le_of_mul-le-mul_right (omega (arith, zero-mul units_per_one, a.above)) units_pos
small_enough k (negsuc w) h a = le_of_mul-le-mul_right (omega (arith, zero-mul units_per_one, a.under)) units_pos

exactly : (r k : ℕ) (c : ℤ) → r + minus c * units_per_one ≡ origin + plus c * units_per_one → k + minus c * units_per_one ≡ origin + origin + plus c * units_per_one
    → Apart 0 (2 * (r + origin)) (2 * k)
exactly r k c e h = record { above = omega arith; under = omega arith }

module _ (x y : Float) (p : IsWhole x) (q : IsWhole y) where
  exact_plus : Apart (whole_limit * units_per_one) (position x + position y) (origin + origin) → Whole (add binary64 x y) (p.0 +ℤ q.0)
  exact_plus a = whole_add x y p.0 q.0 p.1 q.1 (small_enough (position x + position y) (p.0 +ℤ q.0) (sum_key x y p.0 q.0 p.1 q.1) a)

  exact_plus_near : Apart (whole_limit * units_per_one) (position x + position y) (origin + origin) → Apart 0 (2 * (position (add binary64 x y) + origin))
      (2 * (position x + position y))
  exact_plus_near a = exactly (position (add binary64 x y)) (position x + position y) (p.0 +ℤ q.0)
      (whole_key (add binary64 x y) (p.0 +ℤ q.0) (exact_plus a))
      (sum_key x y p.0 q.0 p.1 q.1)

module _ (x y : Float) (p : IsWhole x) (q : IsWhole y) where
  turned : IsWhole (neg y)
  turned = (neg_ℤ q.0, whole_neg y q.0 q.1)

  opposite : position (neg y) + position y ≡ origin + origin
  opposite = key_neg y (number_whole y q.0 q.1)

  exact_minus : Apart (whole_limit * units_per_one) (position x) (position y) → IsWhole (sub binary64 x y)
  unfolding sub turned
  exact_minus a = (p.0 -ℤ q.0, exact_plus x (neg y) p turned (moved (whole_limit * units_per_one) (position y) (position (neg y)) (position x) opposite a))

  exact_minus_near : Apart (whole_limit * units_per_one) (position x) (position y) → Apart 0 (2 * (position (sub binary64 x y) + position y))
      (2 * (position x + origin))
  unfolding sub
  exact_minus_near a = moved_back 0 (position y) (position (neg y)) (position x) (position (add binary64 x (neg y))) opposite
      (exact_plus_near x (neg y) p turned (moved (whole_limit * units_per_one) (position y) (position (neg y)) (position x) opposite a))

pub whole_arithmetic : WholeArithmetic
whole_arithmetic = record {
  number = λ x p. number_whole x p.0 p.1;
  plus = λ x y p q a. (p.0 +ℤ q.0, exact_plus x y p q a);
  plus_near = exact_plus_near;
  minus = exact_minus;
  minus_near = exact_minus_near;
}

-- ---- the size of a signed number, and of a multiple
pub size_signed : (s : Bool) (n : ℕ) → nat_abs (signed s n) ≡ n
size_signed true zero = refl
size_signed true (suc n) = refl
size_signed false n = refl

pub size_multiple : (z : ℤ) (d : ℕ) → nat_abs (z *ℤ pos d) ≡ nat_abs z * d
size_multiple (pos n) d = refl
size_multiple (negsuc n) d = size_signed true (suc n * d)
