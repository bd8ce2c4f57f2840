-- One log factor, exactly: of whole duals up to 2 ^ 50 and a whole largest log up to 2 ^ 47 in size, twice the factor is the sum of the duals minus
-- the log, unless the factor is held.
-- Sums of whole numbers up to 2 ^ 53 are exact, and so is half of one. Keys are places in units (float64), so that all is linear.
use mathlib.Core.Path.{◌≡◌, refl, sym, ap, ◌∙◌, subst}
use mathlib.Core.Bool.{Bool, true, false, cond, ◌&&◌, false≢true}
use mathlib.Core.List.{[], ◌∷◌, ◌++◌}
use mathlib.Core.Logic.{◌≢◌}
use Prim.Native.Nat.{ℕ, zero, suc, ◌+◌, ◌*◌, ◌^◌, ◌≤◌, ◌<◌}
use native.Mathlib.Nat.{mul-le-mul_right, zero-mul, le_of_mul-le-mul_right, not-suc-le-zero}
use native.Mathlib.Decide.{ℕ_discrete}
use native.Mathlib.Omega.{arith}
use lib.IntN.{ℤ, pos, negsuc, nat_abs}
use lib.ListN.{length, get_or, length-append, get_or-append}
use lib.Ieee.{Float, nan, binary64, add, sub, lt}
use lib.Ieee.Bits.{is_true}
use lib.Ieee.Scale.{finite}
use Rattle.slices.proofs.Lists.{get_d_last}
use Rattle.float64.specs.Number.{Number, Whole, whole_of, units_per_one, origin, IsWhole}
use Rattle.float64.specs.inner.Keys.{position}
use Rattle.float64.specs.inner.Arithmetic.{Apart, whole_limit}
use Rattle.float64.specs.Constants.{log_huge, minus_log_huge, zero as fzero}
use Rattle.float64.specs.Functions.{clamp_log}
use Rattle.float64.proofs.Scale.{units_pos}
use Rattle.float64.proofs.Integers.{plus, minus}
use Rattle.float64.proofs.WholeNumbers.{whole_key, whole_of_lem, whole_arithmetic}
use Rattle.factors_mc64.specs.Factors.{doubles_of, argument, log_factor}
use Rattle.float64.proofs.Half.{half_exact}

-- x is at most b in size
abbrev pub Within : ℕ → Float → Type 0
Within b x = Apart (b * units_per_one) (position x) origin

pub within_number : (b : ℕ) (x : Float) → IsWhole x → nat_abs (whole_of x) ≤ b → Within b x
within_number b x (z, w) h = go z (whole_key x z w) (subst (λ (y : ℤ). nat_abs y ≤ b) (whole_of_lem x z w) h)
  where
    go : (z : ℤ) → position x + minus z * units_per_one ≡ origin + plus z * units_per_one → nat_abs z ≤ b → Within b x
    go (pos a) e l = let k = mul-le-mul_right units_per_one l in
        record { above = omega (arith, zero-mul units_per_one); under = omega (arith, zero-mul units_per_one) }
    go (negsuc a) e l = let k = mul-le-mul_right units_per_one l in
        record { above = omega (arith, zero-mul units_per_one); under = omega (arith, zero-mul units_per_one) }

number_within : (b : ℕ) (x : Float) (z : ℤ) → Whole x z → Within b x → nat_abs z ≤ b
number_within b x z w a = go z (whole_key x z w)
  where
    go : (z : ℤ) → position x + minus z * units_per_one ≡ origin + plus z * units_per_one → nat_abs z ≤ b
    go (pos c) e = le_of_mul-le-mul_right (omega (arith, zero-mul units_per_one, a.above)) units_pos
    go (negsuc c) e = le_of_mul-le-mul_right (omega (arith, zero-mul units_per_one, a.under)) units_pos

-- ---- the argument
module _ (u v c : Float) (wu : IsWhole u) (wv : IsWhole v) (wc : IsWhole c) (bu : Within (2 ^ 50) u) (bv : Within (2 ^ 50) v) (bc : Within (2 ^ 47) c) where
  sum_fits : Apart (whole_limit * units_per_one) (position u + position v) (origin + origin)
  sum_fits = record { above = omega (arith, bu.above, bv.above); under = omega (arith, bu.under, bv.under) }

  sum_near : Apart 0 (2 * (position (add binary64 u v) + origin)) (2 * (position u + position v))
  sum_near = whole_arithmetic.plus_near u v wu wv sum_fits

  sum_whole : IsWhole (add binary64 u v)
  sum_whole = whole_arithmetic.plus u v wu wv sum_fits

  rest-fits : Apart (whole_limit * units_per_one) (position (add binary64 u v)) (position c)
  rest-fits = record {
    above = omega (arith, sum_near.above, bu.above, bv.above, bc.under);
    under = omega (arith, sum_near.under, bu.under, bv.under, bc.above);
  }

  rest : Float
  rest = sub binary64 (add binary64 u v) c

  rest_near : Apart 0 (2 * (position rest + position c)) (2 * (position (add binary64 u v) + origin))
  unfolding rest
  rest_near = whole_arithmetic.minus_near (add binary64 u v) c sum_whole wc rest-fits

  rest_whole : IsWhole rest
  unfolding rest
  rest_whole = whole_arithmetic.minus (add binary64 u v) c sum_whole wc rest-fits

  rest_within : Within (2 ^ 52) rest
  rest_within = record {
    above = omega (arith, rest_near.above, sum_near.above, bu.above, bv.above, bc.under);
    under = omega (arith, rest_near.under, sum_near.under, bu.under, bv.under, bc.above);
  }

  pub argument_exact : Number (argument u v c) × (2 * position (argument u v c) + position c ≡ position u + position v + origin)
  unfolding rest
  argument_exact =
      let h : nat_abs rest_whole.0 < whole_limit = omega (arith, number_within (2 ^ 52) rest rest_whole.0 rest_whole.1 rest_within) in
      let e = half_exact rest rest_whole.0 rest_whole.1 h in
      (e.0, omega (arith, e.1, rest_near.above, rest_near.under, sum_near.above, sum_near.under))

-- ---- the factor
-- a double that is held at no end is as it was
clamp_free : (x : Float) → clamp_log x ≢ log_huge → clamp_log x ≢ minus_log_huge → clamp_log x ≡ x
unfolding clamp_log
clamp_free x = go (lt x minus_log_huge) (lt log_huge x)
  where
    go : (a b : Bool) → cond a minus_log_huge (cond b log_huge x) ≢ log_huge → cond a minus_log_huge (cond b log_huge x) ≢ minus_log_huge
        → cond a minus_log_huge (cond b log_huge x) ≡ x
    go true b h k = absurd (k refl)
    go false true h k = absurd (h refl)
    go false false h k = refl

pub factor_free : (u v c : Float) → Number c → Number (argument u v c) → log_factor true u v c ≢ log_huge → log_factor true u v c ≢ minus_log_huge
    → log_factor true u v c ≡ argument u v c
unfolding log_factor
factor_free u v c p q h k = go (finite c) (finite (argument u v c)) (is_true (finite c) p.is_finite) (is_true (finite (argument u v c)) q.is_finite) h k
  where
    go : (a b : Bool) → a ≡ true → b ≡ true → cond (a && (true && b)) (clamp_log (argument u v c)) fzero ≢ log_huge → cond (a && (true && b))
        (clamp_log (argument u v c)) fzero ≢ minus_log_huge
        → cond (a && (true && b)) (clamp_log (argument u v c)) fzero ≡ argument u v c
    go true true e f h k = clamp_free (argument u v c) h k
    go true false e f h k = absurd (false≢true f)
    go false b e f h k = absurd (false≢true e)

-- ---- the list of factors
pub doubles_length : (f : ℕ → Float) (n : ℕ) → length (doubles_of f n) ≡ n
unfolding doubles_of
doubles_length f zero = refl
doubles_length f (suc n) = length-append (doubles_of f n) (f n ∷ []) ∙ omega (arith, doubles_length f n)

pub doubles_at : (f : ℕ → Float) (n i : ℕ) → i < n → get_or (doubles_of f n) i nan ≡ f i
unfolding doubles_of
doubles_at f zero i h = absurd (not-suc-le-zero h)
doubles_at f (suc n) i h = go (doubles_at f n i) (ℕ_discrete i n)
  where
    go : (i < n → get_or (doubles_of f n) i nan ≡ f i) → Dec (i ≡ n) → get_or (doubles_of f n ++ (f n ∷ [])) i nan ≡ f i
    go g (yes e) = rw e (ap (λ (k : ℕ). get_or (doubles_of f n ++ (f n ∷ [])) k nan) (sym (doubles_length f n)) ∙ get_d_last (doubles_of f n) (f n) nan)
    go g (no e) = get_or-append (doubles_of f n) (f n ∷ []) nan i (omega (arith, doubles_length f n)) ∙ g (omega arith)
