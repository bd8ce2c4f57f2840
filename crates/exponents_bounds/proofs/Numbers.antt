-- Whole numbers and their floors: the logarithm of a kept value, small factors that have an exponent, and the bounds of one value put as the
-- definition says them.
use Rattle.std.proofs.Common.{Result, Ok, Err}
use mathlib.Core.Path.{◌≡◌, refl, sym, ap, ap₂, ◌∙◌, subst}
use mathlib.Core.Bool.{Bool, true, false, not, cond, ◌&&◌, false≢true}
use mathlib.Core.List.{List, [], ◌∷◌, map}
use Prim.Native.Nat.{ℕ, suc, ◌+◌, ◌*◌, ◌/◌, ◌^◌, ◌≤◌, ◌<◌}
use native.Mathlib.Nat.{mul_assoc, mul_comm, zero-mul, le_of_eq, lt_of_lt_of_le, lt_of_le_of_lt}
use native.Mathlib.Omega.{arith}
use borrow.Author.Tests.{le-leb, leb-true, eqb-true, not-true}
use lib.Dec.{T}
use lib.Pow.{pow-add, pow_pos}
use lib.IntN.{ℤ, pos, negsuc, nat_abs, neg_ℤ, ◌+ℤ◌}
use lib.Signed.{◌≤ℤ◌}
use lib.Ieee.{Float, nan, binary64, fits, lt, eq, ne, neg, sub, up, down, of_bits}
use lib.Ieee.Bits.{is_true}
use lib.Ieee.Scale.{finite}
use lib.ListN.{length, get_or, get_or-map}
use Rattle.slices.proofs.Bools.{both}
use Rattle.float64.specs.Number.{Number, Whole, whole_of, negative, units_per_one, origin, magnitude}
use Rattle.float64.specs.inner.Keys.{place, position}
use Rattle.float64.specs.Constants as Constants
use Rattle.float64.proofs.Integers.{plus, minus, sum_parts, neg_parts, at_most_parts}
use Rattle.float64.proofs.Scale.{mag_lt}
use Rattle.float64.proofs.Order.{eq_key}
use Rattle.float64.proofs.WholeNumbers.{number_whole, whole_key, whole_add, whole_neg, whole_of_lem, ordered}
use Rattle.whole_log.specs.Log.{whole_log, double_of, Bounds, Logarithm, Answer}
use Rattle.whole_log.proofs.Theorems.{log_correct, log_small, log_whole}
use Rattle.mc64_columns.specs.Columns.{largest, largest_from}
use Rattle.mc64_columns.proofs.Whole.{Short}
use Rattle.mc64_general.specs.Graph.{is_kept, largest_log}
use Rattle.whole_graphs.proofs.Logs.{value_log}
use Rattle.exponents_powers.specs.Power.{within_limit}
use Rattle.exponents_powers.proofs.Exact.{up_is, down_is}
use Rattle.exponents.specs.Exponent.{floor_of, exponent_of, factor_fits}
use Rattle.exponents.proofs.Moved.{is_whole_lem}
use Rattle.exponents.proofs.Bounds.{below_two, above_quarter}
use Rattle.exponents_apply.specs.Apply.{exponent_at}
use Rattle.exponents_bounds.specs.Bounds.{BelowTwo, AboveQuarter, Scaled}

-- ---- the logarithm of a kept value
-- a double that stands for a number of the size of a logarithm
pub record Logged (x : Float) : Type 0 where
  pub whole : Whole x (whole_of x)
  pub up : plus (whole_of x) ≤ 67108863
  pub down : minus (whole_of x) ≤ 70385664

pub record ValueLog (x log : Float) : Type 0 where
  pub logged : Logged log
  pub logarithm : Logarithm x (whole_of log)

pub kept_log : (x : Float) → T (fits binary64 x) → is_kept x ≡ true → ValueLog x (double_of (whole_log x))
unfolding is_kept ne
kept_log x t k =
    let b = both (finite x) _ k in
    go (whole_log x) refl (value_log 0 x (omega arith) t (subst T (sym b.0) tt) (not-true (eq x Constants.zero) b.1)).0
  where
    go : (a : Result ℤ ℕ) → whole_log x ≡ a → Short (double_of a) → ValueLog x (double_of a)
    go (Ok p) e s =
        let r = log_small x p t e in
        let w = log_whole x p t e in
        let q : whole_of (double_of (Ok p)) ≡ p = whole_of_lem (double_of (Ok p)) p w in
        record {
          logged = record { whole = subst (Whole (double_of (Ok p))) (sym q) w; up = omega (arith, r.1, ap plus q); down = omega (arith, r.0, ap minus q) };
          logarithm = subst (Logarithm x) (sym q) (subst (λ (a : Result ℤ ℕ). Answer x a) e (log_correct x t));
        }
    go (Err number) e s = absurd s.whole.is_finite

-- the largest of a list is one of it
larger_logged : (top : Float) (l : List Float) → Logged top → ((k : ℕ) → k < length l → Logged (get_or l k nan)) → Logged (largest_from top l)
unfolding largest_from
larger_logged top [] p q = p
larger_logged top (c ∷ l) p q = larger_logged (cond (lt top c) c top) l (go (lt top c)) (λ k h. q (suc k) (omega arith))
  where
    go : (b : Bool) → Logged (cond b c top)
    go true = q 0 (omega arith)
    go false = p

pub largest_logged : (l : List Float) → 0 < length l → ((k : ℕ) → k < length l → Logged (get_or l k nan)) → Logged (largest l)
unfolding largest
largest_logged [] h q = absurd (omega arith)
largest_logged (c ∷ l) h q = larger_logged c l (q 0 (omega arith)) (λ k g. q (suc k) (omega arith))

pub largest_of_some : (l : List Float) → 0 < length l → largest_log l ≡ largest l
unfolding largest_log
largest_of_some [] h = absurd (omega arith)
largest_of_some (c ∷ l) h = refl

-- ---- a finite value that is not kept is a zero
zero_whole : Whole Constants.zero (pos 0)
unfolding of_bits fits
zero_whole = record { double = tt; is_finite = tt; value = refl }

zero_key : position Constants.zero ≡ origin
zero_key = omega (arith, whole_key Constants.zero (pos 0) zero_whole, zero-mul units_per_one)

key_is : (x : Float) → position x ≡ place (negative x) (magnitude x)
unfolding position
key_is x = refl

at_mid : (s : Bool) (a : ℕ) → a < origin → place s a ≡ origin → a ≡ 0
unfolding place
at_mid true a l e = omega arith
at_mid false a l e = omega arith

dropped_zero : (x : Float) → T (fits binary64 x) → finite x ≡ true → is_kept x ≡ false → magnitude x ≡ 0
unfolding is_kept ne
dropped_zero x t f k =
    let n : Number x = record { double = t; is_finite = subst T (sym f) tt } in
    let o = ordered Constants.zero (number_whole Constants.zero (pos 0) zero_whole) in
    let q : position x ≡ position Constants.zero = eqb-true _ _ (sym (eq_key x Constants.zero (ordered x n) o) ∙ equal (finite x) (eq x Constants.zero) f k) in
    at_mid (negative x) (magnitude x) (mag_lt x n) (sym (key_is x) ∙ q ∙ zero_key)
  where
    equal : (f z : Bool) → f ≡ true → (f && not z) ≡ false → z ≡ true
    equal true true g h = refl
    equal true false g h = absurd (false≢true (sym h))
    equal false z g h = absurd (false≢true g)

-- so one of some size is kept
pub some_kept : (x : Float) → T (fits binary64 x) → finite x ≡ true → 0 < magnitude x → is_kept x ≡ true
some_kept x t f h = go (is_kept x) refl
  where
    go : (b : Bool) → is_kept x ≡ b → is_kept x ≡ true
    go true e = e
    go false e = let z : ⊥ = omega (arith, h, dropped_zero x t f e) in absurd z

-- ---- whole numbers
pub parts_within : (z : ℤ) (b : ℕ) → nat_abs z ≤ b → (plus z ≤ b) × (minus z ≤ b)
parts_within (pos n) b h = (h, omega arith)
parts_within (negsuc n) b h = (omega arith, h)

size_within : (z : ℤ) (b : ℕ) → plus z ≤ b → minus z ≤ b → nat_abs z ≤ b
size_within (pos n) b h g = h
size_within (negsuc n) b h g = g

-- an integer whose parts differ by less than b each way
pub size_apart : (z : ℤ) (a c b : ℕ) → plus z + a ≡ c + minus z → a ≤ b → c ≤ b → nat_abs z ≤ b
size_apart (pos n) a c b e h g = omega arith
size_apart (negsuc n) a c b e h g = omega arith

-- a difference of numbers up to 2 ^ 52 is exact
pub difference_whole : (x y : Float) (a b : ℤ) → Whole x a → Whole y b → (plus a ≤ 2 ^ 52) × (minus a ≤ 2 ^ 52) → (plus b ≤ 2 ^ 52)
    × (minus b ≤ 2 ^ 52) → Whole (sub binary64 x y) (a +ℤ neg_ℤ b)
unfolding sub
difference_whole x y a b p q h g =
    whole_add x (neg y) a (neg_ℤ b) p (whole_neg y b q)
    (size_apart (a +ℤ neg_ℤ b) (minus a + plus b) (plus a + minus b) (2 ^ 53) (omega (arith, sum_parts a (neg_ℤ b), neg_parts b))
    (omega (arith, h.1, g.0)) (omega (arith, h.0, g.1)))

-- ---- a factor up to 2 ^ 42 has an exponent
floor_within : (z : ℤ) → plus z ≤ 4398046511104 → minus z ≤ 4398046511104 → within_limit (floor_of z) ≡ true
unfolding floor_of within_limit
floor_within (pos n) h g = le-leb (n / 65536) 67108864 (omega arith)
floor_within (negsuc n) h g = ap (λ (t : Bool). t && true) (le-leb (n / 65536) 67108863 (omega arith))

pub small_fits : (x : Float) (z : ℤ) → Whole x z → plus z ≤ 4398046511104 → minus z ≤ 4398046511104 → factor_fits x ≡ true
unfolding factor_fits exponent_of
small_fits x z w h g = ap₂ (λ (a b : Bool). a && b) (is_whole_lem x z w) (ap (λ (y : ℤ). within_limit (floor_of y)) (whole_of_lem x z w) ∙ floor_within z h g)

no_exponent : exponent_of nan ≡ pos 0
unfolding exponent_of floor_of whole_of
no_exponent = refl

pub exponent_is : (l : List Float) (i : ℕ) → exponent_at (map exponent_of l) i ≡ floor_of (whole_of (get_or l i nan))
unfolding exponent_of
exponent_is l i = ap (λ (d : ℤ). get_or (map exponent_of l) i d) (sym no_exponent) ∙ get_or-map exponent_of l i nan

-- ---- one value
units_is : units_per_one ≡ 2 ^ 1074
unfolding units_per_one
units_is = refl

one_unit : (d : ℕ) → 2 ^ (d + 1074) ≡ units_per_one * 2 ^ d
one_unit d = pow-add 2 d 1074 ∙ ap (λ (x : ℕ). 2 ^ d * x) (sym units_is) ∙ mul_comm (2 ^ d) units_per_one

two_units : (d : ℕ) → 2 ^ (d + 1074 + 1) ≡ 2 * (units_per_one * 2 ^ d)
two_units d = pow-add 2 (d + 1074) 1 ∙ mul_comm (2 ^ (d + 1074)) 2 ∙ ap (λ (x : ℕ). 2 * x) (one_unit d)

four_times : (X e : ℕ) → X * 2 ^ (e + 2) ≡ 4 * (X * 2 ^ e)
four_times X e = ap (λ (x : ℕ). X * x) (pow-add 2 e 2) ∙ sym (mul_assoc X (2 ^ e) 4) ∙ mul_comm (X * 2 ^ e) 4

-- a zero
zero_below : (X : ℕ) (shift : ℤ) → X ≡ 0 → Scaled BelowTwo X shift
zero_below X shift e =
    let some : 0 < units_per_one * down shift = rw (down_is shift) (lt_of_lt_of_le (pow_pos (minus shift + 1074)) (le_of_eq (one_unit (minus shift)))) in
    let none : X * up shift ≡ 0 = ap (λ (x : ℕ). x * up shift) e ∙ zero-mul (up shift) in
    omega (arith, some, none)

-- and so a finite value is below 2 that is below 2 if it is kept
pub below_if_kept : (x : Float) (shift : ℤ) → T (fits binary64 x) → finite x ≡ true → (is_kept x ≡ true → Scaled BelowTwo (magnitude x) shift)
    → Scaled BelowTwo (magnitude x) shift
below_if_kept x shift t f kept = go (is_kept x) refl
  where
    go : (b : Bool) → is_kept x ≡ b → Scaled BelowTwo (magnitude x) shift
    go true e = kept e
    go false e = zero_below (magnitude x) shift (dropped_zero x t f e)

-- the logarithm of x, q of a size in units of 2 ^ -1074, makes at most 0 with the potentials a and f of its row and column
pub record LogAtMost (x : Float) (a f : ℤ) : Type 0 where
  pub q : ℕ
  pub bounds : Bounds q (magnitude x ^ 65536)
  pub sum : q + (plus a + plus f) ≤ 1074 * 65536 + (minus a + minus f)

-- it makes 0
pub record LogTight (x : Float) (a f : ℤ) : Type 0 where
  pub q : ℕ
  pub bounds : Bounds q (magnitude x ^ 65536)
  pub sum : q + (plus a + plus f) ≡ 1074 * 65536 + (minus a + minus f)

-- a value x with the logarithm p, in a column whose largest log is t, and duals a and b of its row and column whose sum is at most t - p, or equal to it
module _ (x : Float) (p : ℤ) (L : Logarithm x p) (a b t : ℤ) where
  abbrev factor : ℤ
  factor = b +ℤ neg_ℤ t

  abbrev shift : ℤ
  shift = floor_of a +ℤ floor_of factor

  pub log_at_most : (a +ℤ b) ≤ℤ (t +ℤ neg_ℤ p) → LogAtMost x a factor
  log_at_most h =
      let l : plus (a +ℤ b) + minus (t +ℤ neg_ℤ p) ≤ plus (t +ℤ neg_ℤ p) + minus (a +ℤ b) =
      leb-true _ _ (sym (at_most_parts (a +ℤ b) (t +ℤ neg_ℤ p)) ∙ is_true _ h.le) in
      let q : plus (p +ℤ pos (1074 * 65536)) ≡ L.q = ap plus L.shifted in
      let z : minus (p +ℤ pos (1074 * 65536)) ≡ 0 = ap minus L.shifted in
      record {
        q = L.q;
        bounds = L.bounds;
        sum = omega (arith, l, q, z, sum_parts a b, sum_parts t (neg_ℤ p), sum_parts b (neg_ℤ t), sum_parts p (pos (1074 * 65536)), neg_parts p, neg_parts t);
      }

  pub log_tight : a +ℤ b ≡ t +ℤ neg_ℤ p → LogTight x a factor
  log_tight h =
      let k : plus (a +ℤ b) ≡ plus (t +ℤ neg_ℤ p) = ap plus h in
      let l : minus (a +ℤ b) ≡ minus (t +ℤ neg_ℤ p) = ap minus h in
      let q : plus (p +ℤ pos (1074 * 65536)) ≡ L.q = ap plus L.shifted in
      let z : minus (p +ℤ pos (1074 * 65536)) ≡ 0 = ap minus L.shifted in
      record {
        q = L.q;
        bounds = L.bounds;
        sum = omega (arith, k, l, q, z, sum_parts a b, sum_parts t (neg_ℤ p), sum_parts b (neg_ℤ t), sum_parts p (pos (1074 * 65536)), neg_parts p, neg_parts t);
      }

  pub scaled_below : (a +ℤ b) ≤ℤ (t +ℤ neg_ℤ p) → Scaled BelowTwo (magnitude x) shift
  scaled_below h =
      let r = log_at_most h in
      rw (up_is shift, down_is shift)
      (lt_of_lt_of_le (below_two (magnitude x) r.q a factor r.bounds.below r.sum) (le_of_eq (two_units (minus shift))))

  pub scaled_above : a +ℤ b ≡ t +ℤ neg_ℤ p → Scaled AboveQuarter (magnitude x) shift
  scaled_above h =
      let r = log_tight h in
      rw (up_is shift, down_is shift)
      (lt_of_le_of_lt (le_of_eq (sym (one_unit (minus shift))))
      (lt_of_lt_of_le (above_quarter (magnitude x) r.q a factor r.bounds.at_most r.sum) (le_of_eq (four_times (magnitude x) (plus shift)))))
