-- The tests of doubles: a size that is a multiple of 1 is a whole number's; a sum with 3 · 2 ^ 51 has no digit for a fraction, so only a whole number
-- comes back from it; sums of two duals are exact.
use mathlib.Core.Path.{◌≡◌, refl, sym, ap, ◌∙◌, subst}
use mathlib.Core.Bool.{Bool, true, false, ◌&&◌}
use Prim.Native.Nat.{ℕ, ◌+◌, ◌*◌, ◌/◌, ◌%◌, ◌^◌, ◌≤◌, ◌<◌}
use native.Mathlib.Nat.{zero-mul, suc-mul, le_refl, le_of_mul-le-mul_right, mul-le-mul_right, mod-add-div', mul-mod_left}
use native.Mathlib.Omega.{arith}
use borrow.Author.Tests.{eqb-true, eq-eqb, leb-true, le-leb}
use lib.Dec.{T, leb, eqb, lit<}
use lib.Pow.{pow-add}
use lib.IntN.{ℤ, pos, negsuc, nat_abs, ◌+ℤ◌}
use lib.Signed.{le_z}
use lib.Ieee.{Float, nan, inf, fin, binary64, fits, is_nan, of_bits, neg, add, sub, le, lt, eq}
use lib.Ieee.Bits.{is_true}
use lib.Ieee.Scale.{finite}
use Rattle.slices.proofs.Bools.{both, same_test}
use Rattle.float64.specs.Number.{Number, Whole, whole_of, negative, signed, units_per_one, origin, magnitude, IsWhole}
use Rattle.float64.specs.inner.Keys.{place, position}
use Rattle.float64.specs.inner.Arithmetic.{Apart, Arithmetic, whole_limit}
use Rattle.float64.proofs.Scale.{mag_lt, units_pos}
use Rattle.float64.proofs.Order.{le_key, eq_key}
use Rattle.float64.proofs.Bits.{spaced}
use Rattle.float64.proofs.Sums.{near_arithmetic, number_neg, key_neg}
use Rattle.float64.proofs.Integers.{plus, minus, neg_parts, sum_parts}
use Rattle.float64.proofs.WholeNumbers.{key_whole, whole_key, whole_of_lem, whole_add, whole_le, number_whole, ordered, whole_arithmetic}
use Rattle.float64.proofs.Half.{whole_size}
use Rattle.match_check.specs.Check.{is_whole, small_whole}
use Rattle.match_check.specs.Call.{FitDual}

-- ---- a whole number's size is a multiple of 1
units_place : (s : Bool) (a q : ℕ) → a ≡ q * units_per_one → a < origin → place s a + minus (signed s q) * units_per_one ≡ origin + plus (signed s q) * units_per_one
unfolding place
units_place true a q e h = rw ((neg_parts (pos q)).0, (neg_parts (pos q)).1) (omega (arith, zero-mul units_per_one))
units_place false a q e h = omega (arith, zero-mul units_per_one)

pub whole_is : (x : Float) → T (fits binary64 x) → is_whole x ≡ true → IsWhole x
unfolding is_whole position
whole_is x f h =
    let b = both (finite x) (eqb (magnitude x % units_per_one) 0) h in
    let n : Number x = record { double = f; is_finite = subst T (sym b.0) tt } in
    let r : magnitude x % units_per_one ≡ 0 = eqb-true (magnitude x % units_per_one) 0 b.1 in
    let m : magnitude x ≡ magnitude x / units_per_one * units_per_one = (let d = mod-add-div' (magnitude x) units_per_one in omega arith) in (
      signed (negative x) (magnitude x / units_per_one),
      key_whole x (signed (negative x) (magnitude x / units_per_one)) n
          (units_place (negative x) (magnitude x) (magnitude x / units_per_one) m (mag_lt x n)),
    )

pub is_whole_lem : (x : Float) → IsWhole x → is_whole x ≡ true
unfolding is_whole
is_whole_lem x w = rw (is_true (finite x) w.1.is_finite)
    (eq-eqb (magnitude x % units_per_one) 0 (ap (λ (a : ℕ). a % units_per_one) (whole_size x w.0 w.1) ∙ mul-mod_left (nat_abs w.0) units_per_one))

pub number_size : (x : Float) → IsWhole x → magnitude x ≡ nat_abs (whole_of x) * units_per_one
number_size x w = whole_size x w.0 w.1 ∙ ap (λ (z : ℤ). nat_abs z * units_per_one) (sym (whole_of_lem x w.0 w.1))

-- ---- the test of a dual says what it should
pub fit_dual : (x : Float) → T (fits binary64 x) → small_whole x ≡ true → FitDual x
unfolding small_whole
fit_dual x f h =
    let b = both (is_whole x) (leb (magnitude x) (2 ^ 50 * units_per_one)) h in
    let w = whole_is x f b.0 in
    let m : magnitude x ≤ 2 ^ 50 * units_per_one = leb-true (magnitude x) (2 ^ 50 * units_per_one) b.1 in
    record { is_whole = w; size = le_of_mul-le-mul_right (omega (arith, number_size x w)) units_pos }

pub dual_fit : (x : Float) → FitDual x → small_whole x ≡ true
unfolding small_whole
dual_fit x d = rw (is_whole_lem x d.is_whole)
    (le-leb (magnitude x) (2 ^ 50 * units_per_one) (omega (arith, number_size x d.is_whole, mul-le-mul_right units_per_one d.size)))

-- its position is near origin
record Near (x : Float) : Type 0 where
  low : origin ≤ position x + 2 ^ 50 * units_per_one
  high : position x ≤ origin + 2 ^ 50 * units_per_one

near : (x : Float) → magnitude x ≤ 2 ^ 50 * units_per_one → Near x
unfolding position place
near x m = record { low = low (negative x) (magnitude x) m; high = high (negative x) (magnitude x) m }
  where
    low : (s : Bool) (a : ℕ) → a ≤ 2 ^ 50 * units_per_one → origin ≤ place s a + 2 ^ 50 * units_per_one
    low true a h = omega arith
    low false a h = omega arith

    high : (s : Bool) (a : ℕ) → a ≤ 2 ^ 50 * units_per_one → place s a ≤ origin + 2 ^ 50 * units_per_one
    high true a h = omega arith
    high false a h = omega arith

-- both parts of an integer are at most its size, and make it up
pub sides : (z : ℤ) → (plus z ≤ nat_abs z) × (minus z ≤ nat_abs z) × (nat_abs z ≤ plus z + minus z)
sides (pos n) = omega arith
sides (negsuc n) = omega arith

-- ---- the sum of two duals, and its comparisons with a cost
sum_size : (a b : ℤ) → nat_abs a ≤ 2 ^ 50 → nat_abs b ≤ 2 ^ 50 → nat_abs (a +ℤ b) ≤ whole_limit
sum_size a b h l = go (a +ℤ b) (sum_parts a b)
  where
    go : (c : ℤ) → plus c + (minus a + minus b) ≡ plus a + plus b + minus c → nat_abs c ≤ whole_limit
    go (pos n) e = omega (arith, sides a, sides b)
    go (negsuc n) e = omega (arith, sides a, sides b)

pub whole_self : (x : Float) → IsWhole x → Whole x (whole_of x)
whole_self x w = subst (λ (z : ℤ). Whole x z) (sym (whole_of_lem x w.0 w.1)) w.1

module _ (x y c : Float) (p : FitDual x) (q : FitDual y) (r : IsWhole c) where
  exact : Whole (add binary64 x y) (whole_of x +ℤ whole_of y)
  exact = whole_add x y (whole_of x) (whole_of y) (whole_self x p.is_whole) (whole_self y q.is_whole) (sum_size (whole_of x) (whole_of y) p.size q.size)

  pub sum_at_most : le (add binary64 x y) c ≡ le_z (whole_of x +ℤ whole_of y) (whole_of c)
  sum_at_most = whole_le (add binary64 x y) c (whole_of x +ℤ whole_of y) (whole_of c) exact (whole_self c r)

  pub sum_at_least : le c (add binary64 x y) ≡ le_z (whole_of c) (whole_of x +ℤ whole_of y)
  sum_at_least = whole_le c (add binary64 x y) (whole_of c) (whole_of x +ℤ whole_of y) (whole_self c r) exact

-- a number that is not below zero
pub no_minus : (x : Float) → IsWhole x → origin ≤ position x → minus (whole_of x) ≡ 0
no_minus x w h = go (whole_of x) (whole_key x (whole_of x) (whole_self x w))
  where
    go : (z : ℤ) → position x + minus z * units_per_one ≡ origin + plus z * units_per_one → minus z ≡ 0
    go (pos n) e = refl
    go (negsuc n) e = let z : ⊥ = omega (arith, zero-mul units_per_one, suc-mul n units_per_one, units_pos) in absurd z

-- ---- the code's test of a dual
-- 2 ^ 50, its negation and 3 · 2 ^ 51
abbrev pub limit : Float
limit = of_bits binary64 0x4310_0000_0000_0000

abbrev pub lowest : Float
lowest = neg limit

abbrev pub shift : Float
shift = of_bits binary64 0x4338_0000_0000_0000

limit_number : Number limit
unfolding of_bits fits
limit_number = record { double = tt; is_finite = tt }

lowest_number : Number lowest
lowest_number = number_neg limit limit_number

shift_whole : Whole shift (pos 6755399441055744)
unfolding of_bits fits
shift_whole = record { double = tt; is_finite = tt; value = refl }

limit_key : position limit ≡ origin + 2 ^ 50 * units_per_one
unfolding of_bits position magnitude place units_per_one origin
limit_key = refl

limit_below : 2 ^ 50 * units_per_one < origin
unfolding units_per_one origin
limit_below = lit< tt

lowest_key : position lowest + 2 ^ 50 * units_per_one ≡ origin
lowest_key = omega (arith, key_neg limit limit_number, limit_key, limit_below)

shift_key : position shift ≡ origin + 6755399441055744 * units_per_one
shift_key = omega (arith, zero-mul units_per_one, whole_key shift (pos 6755399441055744) shift_whole)

-- between the limits a double is finite
place_mag : (s : Bool) (a : ℕ) → a ≤ origin → origin ≤ place s a + 2 ^ 50 * units_per_one → place s a ≤ origin + 2 ^ 50 * units_per_one → a ≤ 2 ^ 50 * units_per_one
unfolding place
place_mag true a m l h = omega arith
place_mag false a m l h = omega arith

record Between (x : Float) : Type 0 where
  number : Number x
  small : magnitude x ≤ 2 ^ 50 * units_per_one

finite_small : (x : Float) → Number x → le lowest x ≡ true → le x limit ≡ true → magnitude x ≤ 2 ^ 50 * units_per_one
unfolding position
finite_small x n a b =
    let l : position lowest ≤ position x = leb-true _ _ (sym (le_key lowest x (ordered lowest lowest_number) (ordered x n)) ∙ a) in
    let h : position x ≤ position limit = leb-true _ _ (sym (le_key x limit (ordered x n) (ordered limit limit_number)) ∙ b) in
    place_mag (negative x) (magnitude x) (omega (arith, mag_lt x n)) (omega (arith, lowest_key)) (omega (arith, limit_key))

between : (x : Float) → T (fits binary64 x) → le lowest x ≡ true → le x limit ≡ true → Between x
unfolding le lt eq is_nan of_bits neg
between nan f a b = let z : ⊥ = subst T (sym b) tt in absurd z
between (inf true) f a b = let z : ⊥ = subst T (sym a) tt in absurd z
between (inf false) f a b = let z : ⊥ = subst T (sym b) tt in absurd z
between (fin s m e) f a b =
    let n : Number (fin s m e) = record { double = f; is_finite = tt } in
    record { number = n; small = finite_small (fin s m e) n a b }

upper : (s : Bool) (a : ℕ) → origin + 2 ^ 52 * units_per_one ≤ place s a → (s ≡ false) × (2 ^ 52 * units_per_one ≤ a)
unfolding place
upper true a h = let z : ⊥ = omega (arith, units_pos) in absurd z
upper false a h = (refl, omega arith)

units_place_up : (s : Bool) (a q : ℕ) → s ≡ false → a ≡ q * units_per_one → place s a + minus (pos q) * units_per_one ≡ origin + plus (pos q) * units_per_one
unfolding place
units_place_up true a q t e = let z : ⊥ = subst T t tt in absurd z
units_place_up false a q t e = omega (arith, zero-mul units_per_one)

-- a number that is not too large, pushed up, has no fraction
module _ (x : Float) (n : Number x) (small : magnitude x ≤ 2 ^ 50 * units_per_one) where
  laws : Arithmetic Number (whole_limit * units_per_one) units_per_one
  laws = unfold units_per_one in near_arithmetic 1074 (le_refl 1074)

  shift_number : Number shift
  shift_number = number_whole shift (pos 6755399441055744) shift_whole

  pushed_near : Apart (whole_limit * units_per_one) (position x + position shift) (origin + origin)
  pushed_near = let a = near x small in record { above = omega (arith, a.high, shift_key); under = omega (arith, a.low, shift_key) }

  pushed_number : Number (add binary64 x shift)
  pushed_number = laws.plus x shift n shift_number pushed_near

  pushed_key : (origin + 2 ^ 52 * units_per_one ≤ position (add binary64 x shift)) × (position (add binary64 x shift) ≤ origin + whole_limit * units_per_one)
  pushed_key = let a = near x small in let e = laws.plus_near x shift n shift_number pushed_near in
      (omega (arith, a.low, e.under, shift_key), omega (arith, a.high, e.above, shift_key))

  pushed_whole : IsWhole (add binary64 x shift)
  unfolding position units_per_one
  pushed_whole =
      let p = upper (negative (add binary64 x shift)) (magnitude (add binary64 x shift)) pushed_key.0 in
      let c = spaced (add binary64 x shift) pushed_number p.0 1074
      (subst (λ (a : ℕ). a ≤ magnitude (add binary64 x shift)) (sym (pow-add 2 52 1074)) p.1) in (
        pos c.0,
        key_whole (add binary64 x shift) (pos c.0) pushed_number
            (units_place_up (negative (add binary64 x shift)) (magnitude (add binary64 x shift)) c.0 p.0 c.1),
      )

  -- back again: whole, and the same only if x is
  back_near : Apart (whole_limit * units_per_one) (position (add binary64 x shift)) (position shift)
  back_near = record { above = omega (arith, pushed_key, shift_key); under = omega (arith, pushed_key, shift_key) }

  back_whole : IsWhole (sub binary64 (add binary64 x shift) shift)
  back_whole = whole_arithmetic.minus (add binary64 x shift) shift pushed_whole (pos 6755399441055744, shift_whole) back_near

  back_number : Number (sub binary64 (add binary64 x shift) shift)
  back_number = whole_arithmetic.number _ back_whole

  back_test : eq (sub binary64 (add binary64 x shift) shift) x ≡ eqb (position (sub binary64 (add binary64 x shift) shift)) (position x)
  back_test = eq_key _ x (ordered _ back_number) (ordered x n)

  whole_if : eq (sub binary64 (add binary64 x shift) shift) x ≡ true → IsWhole x
  whole_if t =
      let e : position (sub binary64 (add binary64 x shift) shift) ≡ position x = eqb-true _ _ (sym back_test ∙ t) in (
        back_whole.0,
        key_whole x back_whole.0 n
            (subst (λ (a : ℕ). a + minus back_whole.0 * units_per_one ≡ origin + plus back_whole.0 * units_per_one) e
            (whole_key _ back_whole.0 back_whole.1)),
      )

  if_whole : IsWhole x → eq (sub binary64 (add binary64 x shift) shift) x ≡ true
  if_whole w =
      let a = whole_arithmetic.plus_near x shift w (pos 6755399441055744, shift_whole) pushed_near in
      let b = whole_arithmetic.minus_near (add binary64 x shift) shift pushed_whole (pos 6755399441055744, shift_whole) back_near in
      back_test ∙ eq-eqb (position (sub binary64 (add binary64 x shift) shift)) (position x) (omega (arith, a.above, a.under, b.above, b.under))

pub test_is : (x : Float) → T (fits binary64 x) → ((le lowest x && le x limit) && eq (sub binary64 (add binary64 x shift) shift) x) ≡ small_whole x
unfolding small_whole
test_is x f = same_test _ _ forth back
  where
    forth : T ((le lowest x && le x limit) && eq (sub binary64 (add binary64 x shift) shift) x) → T (is_whole x && leb (magnitude x) (2 ^ 50 * units_per_one))
    forth t =
        let a = both (le lowest x && le x limit) _ (is_true _ t) in
        let b = both (le lowest x) _ a.0 in
        let w = between x f b.0 b.1 in
        let q : (is_whole x && leb (magnitude x) (2 ^ 50 * units_per_one)) ≡ true =
        rw (is_whole_lem x (whole_if x w.number w.small a.1)) (le-leb (magnitude x) (2 ^ 50 * units_per_one) w.small) in
        subst T (sym q) tt

    back : T (is_whole x && leb (magnitude x) (2 ^ 50 * units_per_one)) → T ((le lowest x && le x limit) && eq (sub binary64 (add binary64 x shift) shift) x)
    back t =
        let a = both (is_whole x) _ (is_true _ t) in
        let w = whole_is x f a.0 in
        let n = number_whole x w.0 w.1 in
        let m : magnitude x ≤ 2 ^ 50 * units_per_one = leb-true (magnitude x) (2 ^ 50 * units_per_one) a.1 in
        let k = near x m in
        let l : le lowest x ≡ true = le_key lowest x (ordered lowest lowest_number) (ordered x n) ∙ le-leb (position lowest) (position x)
        (omega (arith, k.low, lowest_key)) in
        let h : le x limit ≡ true = le_key x limit (ordered x n) (ordered limit limit_number) ∙ le-leb (position x) (position limit)
        (omega (arith, k.high, limit_key)) in
        let e : eq (sub binary64 (add binary64 x shift) shift) x ≡ true = if_whole x n m w in
        let q : ((le lowest x && le x limit) && eq (sub binary64 (add binary64 x shift) shift) x) ≡ true = rw (l, h, e) refl in
        subst T (sym q) tt
