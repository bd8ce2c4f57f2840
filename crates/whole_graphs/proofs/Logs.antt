-- The logs of values: that of a finite value other than zero stands for a whole number and is in range, for as many columns as a matrix may have.
use mathlib.Core.Path.{◌≡◌, refl, sym, ap₂, ◌∙◌, subst}
use mathlib.Core.Bool.{Bool, true, false, ◌&&◌, true≢false}
use Prim.Native.Nat.{ℕ, zero, suc, ◌+◌, ◌*◌, ◌^◌, ◌≤◌, ◌<◌}
use native.Mathlib.Nat.{zero-mul, mul-le-mul_right}
use native.Mathlib.Omega.{arith}
use borrow.Author.Tests.{lt-ltb}
use lib.Dec.{T, eqb}
use lib.IntN.{ℤ}
use lib.Ieee.{Float, nan, inf, fin, binary64, up, down, fits, eq, of_int, of_bits}
use lib.Ieee.Scale.{finite}
use Rattle.std.specs.Prelude.{Result, Ok, Err}
use Rattle.float64.specs.Number.{Whole, negative, magnitude, origin, units_per_one}
use Rattle.float64.specs.inner.Keys.{place, position}
use Rattle.float64.specs.Constants as Constants
use Rattle.float64.proofs.Integers.{plus, minus}
use Rattle.float64.proofs.Scale.{units_pos, mag_lt}
use Rattle.float64.proofs.WholeNumbers.{number_whole, whole_key}
use Rattle.cost_limit.specs.Range.{times_below, in_log_range}
use Rattle.whole_log.specs.Log.{whole_log, double_of}
use Rattle.whole_log.proofs.Theorems.{log_small, log_whole}
use Rattle.mc64_columns.proofs.Whole.{Short}

-- ---- the range of logs
size_most : (s : Bool) (a p q b : ℕ) → place s a + q ≡ origin + p → a < origin → p ≤ b → q ≤ b → a ≤ b
unfolding place
size_most true a p q b e l h g = omega arith
size_most false a p q b e l h g = omega arith

whole_size : (x : Float) (z : ℤ) → Whole x z → plus z ≤ 2 ^ 27 → minus z ≤ 2 ^ 27 → magnitude x ≤ 2 ^ 27 * units_per_one
unfolding position
whole_size x z w h g =
    size_most (negative x) (magnitude x) (plus z * units_per_one) (minus z * units_per_one) (2 ^ 27 * units_per_one) (whole_key x z w) (mag_lt x (number_whole x z w))
    (mul-le-mul_right units_per_one h) (mul-le-mul_right units_per_one g)

short_in_range : (n : ℕ) (x : Float) (z : ℤ) → n ≤ 4096 → Whole x z → plus z ≤ 2 ^ 27 → minus z ≤ 2 ^ 27 → in_log_range n x ≡ true
unfolding in_log_range times_below
short_in_range n x z few w h g =
    let a : n * magnitude x ≤ 4096 * magnitude x = mul-le-mul_right (magnitude x) few in
    let b : n * magnitude x < 2 ^ 47 * units_per_one = omega (arith, a, whole_size x z w h g, units_pos) in
    ap₂ (λ (u v : Bool). u && v) (is_finite (finite x) w.is_finite) (lt-ltb (n * magnitude x) (2 ^ 47 * units_per_one) b)
  where
    is_finite : (b : Bool) → T b → b ≡ true
    is_finite true t = refl
    is_finite false t = absurd t

-- ---- the log of a value
-- a finite value that does not equal zero has one
has_log : (x : Float) → T (finite x) → eq x Constants.zero ≡ false → (p : ℤ) × (whole_log x ≡ Ok p)
unfolding whole_log eq of_bits
has_log nan f h = absurd f
has_log (inf s) f h = absurd f
has_log (fin true zero e) f h = absurd (true≢false (sym (both (zero-mul (up e)) (zero-mul (down e))) ∙ h))
  where
    both : {a b : ℕ} → a ≡ 0 → b ≡ 0 → (eqb (a * 1) b && eqb (a * 1) 0) ≡ true
    both p q = ap₂ (λ (a b : ℕ). eqb (a * 1) b && eqb (a * 1) 0) p q
has_log (fin false zero e) f h = absurd (true≢false (sym (both (zero-mul (up e)) (zero-mul (down e))) ∙ h))
  where
    both : {a b : ℕ} → a ≡ 0 → b ≡ 0 → (eqb (a * 1) b && true) ≡ true
    both p q = ap₂ (λ (a b : ℕ). eqb (a * 1) b && true) p q
has_log (fin s (suc m) e) f h = (_, refl)

pub value_log : (n : ℕ) (x : Float) → n ≤ 4096 → T (fits binary64 x) → T (finite x) → eq x Constants.zero ≡ false
    → Short (double_of (whole_log x)) × (in_log_range n (double_of (whole_log x)) ≡ true)
value_log n x few t f h =
    let l = has_log x f h in
    let r = log_small x l.0 t l.1 in
    let w = log_whole x l.0 t l.1 in
    subst (λ (y : Result ℤ ℕ). Short (double_of y) × (in_log_range n (double_of y) ≡ true)) (sym l.1) (
      record { number = l.0; whole = w; up = omega arith; down = omega arith },
      short_in_range n (of_int binary64 l.0) l.0 few w (omega arith)
          (omega arith),
    )

-- every log is a double
pub log_double : (x : Float) → T (fits binary64 x) → T (fits binary64 (double_of (whole_log x)))
log_double x t = go (whole_log x) (λ p e. (log_whole x p t e).double)
  where
    go : (a : Result ℤ ℕ) → ((p : ℤ) → a ≡ Ok p → T (fits binary64 (of_int binary64 p))) → T (fits binary64 (double_of a))
    go (Ok p) g = g p refl
    go (Err number) g = unfold fits in tt
