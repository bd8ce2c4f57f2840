-- The largest number of few enough steps: two comparisons with it are the test of a double's size. Keys order doubles, and its position is 2 ^ 49 steps
-- above zero's.
use mathlib.Core.Path.{◌≡◌, refl, sym, ap, ap₂, ◌∙◌, subst}
use mathlib.Core.Bool.{Bool, true, false, not, ◌&&◌}
use Prim.Native.Nat.{ℕ, ◌+◌, ◌-◌, ◌*◌, ◌/◌, ◌%◌, ◌^◌, ◌≤◌, ◌<◌}
use native.Mathlib.Omega.{arith}
use borrow.Author.Tests.{leb-true, le-leb, lt-leb}
use lib.Dec.{T, leb}
use lib.Pow.{pow-add, pow-lt}
use lib.Ieee.{Float, nan, inf, fin, binary64, fits, is_nan, of_bits, nan_bits, to_bits, neg, le, lt, eq}
use lib.Ieee.Bits.{is_true, of_bits-fits, nan_bits_is, to_bits-of_bits}
use lib.Ieee.Scale.{finite}
use Rattle.slices.proofs.Bools.{both, same_test}
use Rattle.float64.specs.Number.{Number, negative, origin, magnitude}
use Rattle.float64.specs.inner.Keys.{Ordered, place, position}
use Rattle.float64.proofs.Scale.{mag_lt}
use Rattle.float64.proofs.Bits.{pattern, bits_are, normal_mag, no_nan}
use Rattle.float64.proofs.Order.{le_key}
use Rattle.float64.proofs.Sums.{number_neg, key_neg}
use Rattle.float64.proofs.WholeNumbers.{ordered}
use Rattle.match_gap.specs.Rounding.{zero_step, step, in_steps}

-- a limit, its sign and its size
pub record Limit (digits : ℕ) (limit : Float) : Type 0 where
  pub number : Number limit
  pub positive : negative limit ≡ false
  pub size : magnitude limit ≡ zero_step * step digits

module _ (digits : ℕ) (limit : Float) (l : Limit digits limit) where
  high : position limit ≡ origin + zero_step * step digits
  unfolding position place
  high = rw l.positive (ap (λ (a : ℕ). origin + a) l.size)

  inside : zero_step * step digits < origin
  inside = subst (λ (a : ℕ). a < origin) l.size (mag_lt limit l.number)

  low : position (neg limit) + zero_step * step digits ≡ origin
  low = omega (arith, key_neg limit l.number, high, inside)

  size_between : (s : Bool) (a : ℕ) → a < origin → (place s a ≤ origin + zero_step * step digits) × (origin ≤ place s a + zero_step * step digits)
      → a ≤ zero_step * step digits
  unfolding place
  size_between true a m h = omega (arith, h)
  size_between false a m h = omega (arith, h)

  between_size : (s : Bool) (a : ℕ) → a ≤ zero_step * step digits → (place s a ≤ origin + zero_step * step digits) × (origin ≤ place s a + zero_step * step digits)
  unfolding place
  between_size true a h = (omega arith, omega arith)
  between_size false a h = (omega arith, omega arith)

  finite_test : (x : Float) → Number x → (le (neg limit) x && le x limit) ≡ leb (magnitude x) (zero_step * step digits)
  unfolding position
  finite_test x n =
      same_test _ _
      (λ t.
      let b = both (le (neg limit) x) (le x limit) (is_true _ t) in
      let o : position (neg limit) ≤ position x =
      leb-true _ _ (sym (le_key (neg limit) x (ordered (neg limit) (number_neg limit l.number)) (ordered x n)) ∙ b.0) in
      let u : position x ≤ position limit = leb-true _ _ (sym (le_key x limit (ordered x n) (ordered limit l.number)) ∙ b.1) in
      let q : leb (magnitude x) (zero_step * step digits) ≡ true =
      le-leb _ _ (size_between (negative x) (magnitude x) (mag_lt x n) (omega (arith, u, high), omega (arith, o, low))) in
      subst T (sym q) tt)
      (λ t.
      let b = between_size (negative x) (magnitude x) (leb-true _ _ (is_true _ t)) in
      let o : le (neg limit) x ≡ true = le_key (neg limit) x (ordered (neg limit) (number_neg limit l.number)) (ordered x n)
      ∙ le-leb (position (neg limit)) (position x) (omega (arith, b.1, low)) in
      let u : le x limit ≡ true = le_key x limit (ordered x n) (ordered limit l.number) ∙ le-leb (position x) (position limit) (omega (arith, b.0, high)) in
      let q : (le (neg limit) x && le x limit) ≡ true = rw (o, u) refl in
      subst T (sym q) tt)

  and-false : (b : Bool) → (b && false) ≡ false
  and-false true = refl
  and-false false = refl

  ordered_inf : (s : Bool) → T (fits binary64 (inf s)) → Ordered (inf s)
  unfolding is_nan
  ordered_inf s f = record { double = f; not_nan = tt }

  -- what is not finite is beyond the limits
  pub limit_test : (x : Float) → T (fits binary64 x) → (le (neg limit) x && le x limit) ≡ in_steps (step digits) x
  unfolding in_steps
  limit_test nan f = let e : le nan limit ≡ false = (unfold le lt eq in refl) in rw e (and-false (le (neg limit) nan))
  limit_test (inf true) f =
      let e : le (neg limit) (inf true) ≡ false = le_key (neg limit) (inf true) (ordered (neg limit) (number_neg limit l.number))
      (ordered_inf true f) ∙ lt-leb (position (neg limit)) (position (inf true)) (let k : position (inf true) ≡ 0 =
      (unfold position place magnitude in omega arith) in
      omega (arith, k, low, inside)) in
      rw e refl
  limit_test (inf false) f =
      let e : le (inf false) limit ≡ false = le_key (inf false) limit (ordered_inf false f) (ordered limit l.number) ∙ lt-leb (position (inf false))
      (position limit) (let k : position (inf false) ≡ origin + origin = (unfold position place magnitude in refl) in omega (arith, k, high, inside)) in
      rw e (and-false (le (neg limit) (inf false)))
  limit_test (fin s m e) f = finite_test (fin s m e) (record { double = f; is_finite = tt })

-- ---- a pattern of bits that is below infinity's
finite_of : (x : Float) → T (not (is_nan x)) → magnitude x < origin → T (finite x)
unfolding magnitude is_nan
finite_of nan n h = absurd n
finite_of (inf s) n h = let z : ⊥ = omega arith in absurd z
finite_of (fin s m e) n h = tt

module _ (b : ℕ) (h : b < 2047 * 2 ^ 52) (few : magnitude (of_bits binary64 b) < origin) where
  not_nan_lem : T (not (is_nan (of_bits binary64 b)))
  not_nan_lem = subst (λ (t : Bool). T (not t)) (nan_bits_is binary64 b) (no_nan b h)

  number_of : Number (of_bits binary64 b)
  number_of = record { double = of_bits-fits binary64 b; is_finite = finite_of (of_bits binary64 b) not_nan_lem few }

  no_sign : negative (of_bits binary64 b) ≡ false
  no_sign = go (negative (of_bits binary64 b)) (bits_are (of_bits binary64 b) number_of.is_finite)
    where
      go : (s : Bool) → to_bits binary64 (of_bits binary64 b) ≡ pattern s (magnitude (of_bits binary64 b)) → s ≡ false
      go true e = let z : ⊥ = omega (arith, h, e, to_bits-of_bits binary64 b (omega arith) not_nan_lem) in absurd z
      go false e = refl

-- ---- the code's limit: the power of two 49 - digits, by its exponent field
module _ (digits : ℕ) (h : digits ≤ 50) where
  field_in : (2 ^ 52 ≤ (1072 - digits) * 2 ^ 52) × ((1072 - digits) * 2 ^ 52 < 2047 * 2 ^ 52)
  field_in = (omega arith, omega arith)

  pub code_bits : (1072 - digits) * 2 ^ 52 % 2 ^ 64 ≡ (1072 - digits) * 2 ^ 52
  code_bits = omega arith

  size_is : magnitude (of_bits binary64 ((1072 - digits) * 2 ^ 52)) ≡ zero_step * step digits
  unfolding step
  size_is =
      let b = (1072 - digits) * 2 ^ 52 in
      let f : b / 2 ^ 52 - 1 ≡ 1071 - digits = omega arith in
      let z : 2 ^ 52 + b % 2 ^ 52 ≡ 2 ^ 52 = omega arith in
      normal_mag b field_in.0 field_in.1
      ∙ ap₂ (λ (x y : ℕ). x * 2 ^ y) z f
      ∙ sym (pow-add 2 52 (1071 - digits))
      ∙ ap (λ (x : ℕ). 2 ^ x) (let e : 52 + (1071 - digits) ≡ 49 + (1074 - digits) = omega arith in e)
      ∙ pow-add 2 49 (1074 - digits)

  in_range_lem : magnitude (of_bits binary64 ((1072 - digits) * 2 ^ 52)) < origin
  unfolding origin step
  in_range_lem =
      let a : 2 ^ (49 + (1074 - digits)) < 2 ^ 2098 = pow-lt (let l : 49 + (1074 - digits) < 2098 = omega arith in l) in
      subst (λ (x : ℕ). x < 2 ^ 2098) (sym (size_is ∙ sym (pow-add 2 49 (1074 - digits)))) a

  pub code_number : T (not (nan_bits binary64 ((1072 - digits) * 2 ^ 52)))
  code_number = no_nan ((1072 - digits) * 2 ^ 52) field_in.1

  pub code_limit : Limit digits (of_bits binary64 ((1072 - digits) * 2 ^ 52))
  code_limit = record {
    number = number_of ((1072 - digits) * 2 ^ 52) field_in.1 in_range_lem;
    positive = no_sign ((1072 - digits) * 2 ^ 52) field_in.1 in_range_lem;
    size = size_is;
  }
