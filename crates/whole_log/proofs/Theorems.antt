-- The logarithm of a double. The computed one is within the bounds that its contract states (`log_correct`) and in range (`log_small`), and the code's
-- digits are the definition's (`leading_digits`).
use mathlib.Core.Path.{◌≡◌, refl, sym, ap, ap₂, ◌∙◌, subst}
use mathlib.Core.Bool.{Bool, true, false, not, true≢false}
use mathlib.Core.Logic.{inl, inr}
use Prim.Native.Nat.{ℕ, zero, suc, ◌+◌, ◌-◌, ◌*◌, ◌/◌, ◌%◌, ◌^◌, ◌≤◌, ◌<◌}
use native.Mathlib.Nat.{le_trans, le_of_eq, lt_of_lt_of_le, lt_of_le_of_lt, add-mul, one-mul, mul_comm, mul_assoc, mul-le-mul_right}
use native.Mathlib.Nat.{mul-lt-mul_of_pos_right, le_of_mul-le-mul_right, lt_of_mul-lt-mul_right, eq_of_mul-eq-mul_right, div-mul-le_self}
use native.Mathlib.Nat.{lt-div-mul-add, le-div_iff_mul-le, div-lt_iff_lt-mul, mul-div-mul_right, zero-mul, zero-div, eq-zero-or-pos}
use native.Mathlib.Omega.{arith}
use lib.Dec.{T}
use Rattle.std.specs.Prelude.{Result, Ok, Err}
use lib.IntN.{ℤ, pos, negsuc, nat_abs, ◌+ℤ◌, ◌-ℤ◌}
use mir.Syntax.{w32}
use mir.Val.{SFits, to_z}
use mir.ValLaws.{to_z_pos}
use lib.Pow.{pow-add, pow_pos}
use lib.Ieee.{Float, nan, inf, fin, binary64, up, down, size, fits, is_nan, of_bits, to_bits, of_int}
use lib.Ieee.Digits.{size-lt, size-le, size_reaches}
use lib.Ieee.Bits.{of_bits-to_bits}
use lib.Ieee.Scale.{finite}
use Rattle.refusal.specs.Refusal.{accepted, value_not_finite}
use Rattle.refusal.specs.Listed.{listed, OneOf, log_numbers}
use Rattle.float64.specs.Number.{Number, Whole, origin, magnitude, units_per_one}
use Rattle.float64.specs.inner.Digits.{Scaling}
use Rattle.float64.proofs.Scale.{mag_lt}
use Rattle.float64.proofs.Bits.{pattern, bits_are, bits_in, some_bits}
use Rattle.float64.proofs.Normalised.{pow_below}
use Rattle.float64.proofs.WholeNumbers.{integer_whole}
use Rattle.float64.proofs.Integers.{plus, minus, same_integer, sum_parts, sub_parts}
use Rattle.refusal.specs.Number.{fault_of}
use Rattle.whole_log.specs.Log.{value_of, log_fault, leading, log_from, log_of, from_units, whole_log, Bounds, Answer}
use Rattle.whole_log.proofs.Squares.{Held, log_from_lem, log_range}

-- ---- a whole number above 0

opened : (n : ℕ) → log_of n ≡ log_from 16 (leading n) (size n - 1)
unfolding log_of
opened n = refl

-- the logarithm e of n, whole
record Size (n e : ℕ) : Type 0 where
  is : size n ≡ e + 1
  from : 2 ^ e ≤ n
  to : n < 2 ^ (e + 1)

sized : (n : ℕ) → 0 < n → Size n (size n - 1)
sized n h =
    let some : 0 < size n = pow_below 0 (size n) (lt_of_le_of_lt (omega arith) (size-lt n)) in
    let e : size n ≡ size n - 1 + 1 = omega arith in
    record { is = e; from = size_reaches n (size n - 1) (omega arith); to = subst (λ (k : ℕ). n < 2 ^ k) e (size-lt n) }

held : (n e : ℕ) → Size n e → Held 1 (n * 2 ^ 31 / 2 ^ e) e n
held n e s =
    let P = pow_pos e in
    let A = n * 2 ^ 31 in
    record {
      full = (le-div_iff_mul-le P).1 (le_trans (le_of_eq (mul_comm (2 ^ 31) (2 ^ e))) (mul-le-mul_right (2 ^ 31) s.from));
      short = (div-lt_iff_lt-mul P).1
          (lt_of_lt_of_le (mul-lt-mul_of_pos_right s.to (pow_pos 31)) (le_of_eq (ap (λ (x : ℕ). x * 2 ^ 31) (pow-add 2 e 1) ∙ omega arith)));
      low = div-mul-le_self A (2 ^ e);
      high = lt_of_lt_of_le (lt-div-mul-add P) (le_of_eq (sym (add-mul (A / 2 ^ e) 1 (2 ^ e) ∙ ap (λ (x : ℕ). A / 2 ^ e * 2 ^ e + x) (one-mul (2 ^ e)))));
    }

pub log_bounds : (n : ℕ) → 0 < n → Bounds (log_of n) (n ^ 65536)
log_bounds n h =
    let e = size n - 1 in
    subst (λ (q : ℕ). Bounds q (n ^ 65536)) (sym (opened n)) (log_from_lem 16 1 (leading n) e n (held n e (sized n h)) (omega arith))

pub log_most : (n k : ℕ) → 0 < n → n < 2 ^ k → log_of n < k * 65536
log_most n k h l =
    let e = size n - 1 in
    let H = held n e (sized n h) in
    let r = log_range 16 (leading n) e H.full H.short in
    let s : size n ≤ k = size-le n k l in
    let some = (sized n h).is in
    omega (arith, opened n)

in_units : (x : Float) → Number x → magnitude x < 2 ^ 2098
unfolding origin
in_units x n = mag_lt x n

-- ---- a double's digits

-- 2 ^ 1022 taken out of both sides of a scaling
left : (n : ℕ) → n * 2 ^ 52 * 2 ^ 1022 ≡ n * units_per_one
unfolding units_per_one
left n = mul_assoc n (2 ^ 52) (2 ^ 1022) ∙ ap (λ (x : ℕ). n * x) (sym (pow-add 2 52 1022))

right : (m h : ℕ) → 1022 ≤ h → m * 2 ^ h ≡ m * 2 ^ (h - 1022) * 2 ^ 1022
right m h l = ap (λ (x : ℕ). m * x) (ap (λ (x : ℕ). 2 ^ x) (omega arith) ∙ pow-add 2 (h - 1022) 1022) ∙ sym (mul_assoc m (2 ^ (h - 1022)) (2 ^ 1022))

pub leading_digits : (n m h : ℕ) → Scaling (n * units_per_one) m h → (leading n ≡ m / 2 ^ 21) × (size n - 1 ≡ h - 1022)
leading_digits n m h s =
    let f = h - 1022 in
    let e : n * 2 ^ 52 ≡ m * 2 ^ f = eq_of_mul-eq-mul_right (2 ^ 1022) (pow_pos 1022) (n * 2 ^ 52) (m * 2 ^ f) (left n ∙ s.same ∙ right m h s.least) in
    let a : 2 ^ f ≤ n = le_of_mul-le-mul_right {k = 2 ^ 52}
    (le_trans (le_of_eq (mul_comm (2 ^ f) (2 ^ 52))) (le_trans (mul-le-mul_right (2 ^ f) s.full) (le_of_eq (sym e)))) (pow_pos 52) in
    let b : n < 2 ^ (f + 1) =
    lt_of_mul-lt-mul_right (2 ^ 52)
    (lt_of_le_of_lt (le_of_eq e)
    (lt_of_lt_of_le (mul-lt-mul_of_pos_right s.short (pow_pos f))
    (le_of_eq (sym (ap (λ (x : ℕ). x * 2 ^ 52) (pow-add 2 f 1) ∙ omega arith))))) in
    let z : size n ≤ f + 1 = size-le n (f + 1) b in
    let y : f < size n = pow_below f (size n) (lt_of_le_of_lt a (size-lt n)) in
    let k : size n - 1 ≡ f = omega arith in (
      ap (λ (x : ℕ). n * 2 ^ 31 / 2 ^ x) k
          ∙ sym (mul-div-mul_right (n * 2 ^ 31) (2 ^ f) (pow_pos 21))
          ∙ ap₂ (λ (x y : ℕ). x / y) (mul_assoc n (2 ^ 31) (2 ^ 21) ∙ e) (mul_comm (2 ^ f) (2 ^ 21))
          ∙ mul-div-mul_right m (2 ^ 21) (pow_pos f),
      k,
    )

pub log_digits : (n m h : ℕ) → Scaling (n * units_per_one) m h → log_from 16 (m / 2 ^ 21) (h - 1022) ≡ log_of n
log_digits n m h s = let d = leading_digits n m h s in sym (opened n ∙ ap₂ (λ (x y : ℕ). log_from 16 x y) d.0 d.1)

-- ---- a double by its bits without the sign

number_abs : (s : Bool) (m : ℕ) (e : ℤ) → T (fits binary64 (fin s m e)) → Number (fin false m e)
unfolding fits
number_abs s zero e t = record { double = t; is_finite = tt }
number_abs s (suc m) e t = record { double = t; is_finite = tt }

same_mag : (s : Bool) (m : ℕ) (e : ℤ) → magnitude (fin s m e) ≡ magnitude (fin false m e)
unfolding magnitude
same_mag s m e = refl

unsigned : (s : Bool) (n b : ℕ) → b ≡ pattern false n → b < 2047 * 2 ^ 52 → pattern s n % 2 ^ 63 ≡ b
unsigned true n b h l = omega arith
unsigned false n b h l = omega arith

-- the bits but for the sign are those of the double without its sign
pub size_bits : (s : Bool) (m : ℕ) (e : ℤ) → T (fits binary64 (fin s m e)) → let b = to_bits binary64 (fin false m e) in
    (to_bits binary64 (fin s m e) % 2 ^ 63 ≡ b) × (b < 2047 * 2 ^ 52)
size_bits s m e t =
    let x = fin false m e in
    let l = bits_in x (number_abs s m e t) refl in (
      ap (λ (b : ℕ). b % 2 ^ 63) (bits_are (fin s m e) tt) ∙ ap (λ (n : ℕ). pattern s n % 2 ^ 63) (same_mag s m e)
          ∙ unsigned s (magnitude x) (to_bits binary64 x) (bits_are x tt) l,
      l,
    )

pub size_of_bits : (s : Bool) (m : ℕ) (e : ℤ) → T (fits binary64 (fin s m e)) → magnitude (of_bits binary64 (to_bits binary64 (fin s m e) % 2 ^ 63))
    ≡ magnitude (fin s m e)
size_of_bits s m e t = ap (λ (b : ℕ). magnitude (of_bits binary64 b)) (size_bits s m e t).0
    ∙ ap magnitude (of_bits-to_bits binary64 (fin false m e) (number_abs s m e t).double) ∙ sym (same_mag s m e)

nothing : (s : Bool) (e : ℤ) → magnitude (fin s zero e) ≡ 0
unfolding magnitude
nothing s e = ap (λ (n : ℕ). n / down e) (ap (λ (n : ℕ). n * units_per_one) (zero-mul (up e)) ∙ zero-mul units_per_one) ∙ zero-div (down e)

no_pattern : pattern false 0 ≡ 0
unfolding size
no_pattern = refl

zero_bits : (s : Bool) (e : ℤ) → T (fits binary64 (fin s zero e)) → to_bits binary64 (fin s zero e) % 2 ^ 63 ≡ 0
zero_bits s e t = (size_bits s zero e t).0 ∙ bits_are (fin false zero e) tt ∙ ap (pattern false) (nothing false e) ∙ no_pattern

-- ---- the answers

pub found_answer : (x : Float) → T (fits binary64 x) → T (finite x) → 0 < to_bits binary64 x % 2 ^ 63
    → Ok (from_units (log_of (magnitude (of_bits binary64 (to_bits binary64 x % 2 ^ 63))))) ≡ whole_log x
unfolding whole_log
found_answer nan t f l = absurd f
found_answer (inf s) t f l = absurd f
found_answer (fin s zero e) t f l = absurd (let z = zero_bits s e t in omega arith)
found_answer (fin s (suc m) e) t f l = ap (λ (n : ℕ). Ok (from_units (log_of n))) (size_of_bits s (suc m) e t)

pub zero_answer : (x : Float) → T (fits binary64 x) → to_bits binary64 x % 2 ^ 63 ≤ 0 → T (finite x) → Err value_not_finite ≡ whole_log x
unfolding whole_log
zero_answer nan t l f = refl
zero_answer (inf s) t l f = refl
zero_answer (fin s zero e) t l f = refl
zero_answer (fin s (suc m) e) t l f = absurd (let b = (size_bits s (suc m) e t).0 in let p = some_bits m e (number_abs s (suc m) e t).double in omega arith)

pub infinite_answer : (x : Float) → finite x ≡ false → Err value_not_finite ≡ whole_log x
unfolding whole_log
infinite_answer nan h = refl
infinite_answer (inf s) h = refl
infinite_answer (fin s m e) h = absurd (true≢false h)

pub in_bits : (x : Float) → T (fits binary64 x) → T (finite x) → to_bits binary64 x % 2 ^ 63 < 2047 * 2 ^ 52
in_bits nan t f = absurd f
in_bits (inf s) t f = absurd f
in_bits (fin s m e) t f = let b = size_bits s m e t in omega arith

pub finite_no_nan : (x : Float) → T (finite x) → T (not (is_nan x))
unfolding is_nan
finite_no_nan nan f = absurd f
finite_no_nan (inf s) f = tt
finite_no_nan (fin s m e) f = tt

-- ---- what is promised

above_zero : (s : Bool) (m : ℕ) (e : ℤ) → T (fits binary64 (fin s (suc m) e)) → 0 < magnitude (fin s (suc m) e)
above_zero s m e t = elim (eq-zero-or-pos (magnitude (fin s (suc m) e))) [
  | inl z ↦
      let x = fin false (suc m) e in
      let b : to_bits binary64 x ≡ 0 = bits_are x tt ∙ ap (pattern false) (sym (same_mag s (suc m) e) ∙ z) ∙ no_pattern in
      let p = some_bits m e (number_abs s (suc m) e t).double in
      absurd (omega arith)
  | inr p ↦ p
]

units_shifted : (q : ℕ) → from_units q +ℤ pos (1074 * 65536) ≡ pos q
units_shifted q =
    let p = from_units q in
    same_integer (p +ℤ pos (1074 * 65536)) (pos q) (omega (arith, sub_parts q (1074 * 65536), sum_parts p (pos (1074 * 65536))))

pub log_correct : (x : Float) → T (fits binary64 x) → Answer x (whole_log x)
unfolding whole_log
log_correct nan t = refl
log_correct (inf s) t = refl
log_correct (fin s zero e) t = refl
log_correct (fin s (suc m) e) t =
    let x = fin s (suc m) e in
    record { q = log_of (magnitude x); shifted = units_shifted (log_of (magnitude x)); bounds = log_bounds (magnitude x) (above_zero s m e t) }

-- the computed answer is a logarithm exactly if nothing is wrong with x
pub number_is : (x : Float) → fault_of (whole_log x) ≡ log_fault x
unfolding whole_log
number_is nan = refl
number_is (inf s) = refl
number_is (fin s zero e) = refl
number_is (fin s (suc m) e) = refl

-- 0 and 9 are the numbers answered
pub log_listed : (x : Float) → OneOf log_numbers (fault_of (whole_log x))
unfolding whole_log listed
log_listed nan = refl
log_listed (inf s) = refl
log_listed (fin s zero e) = refl
log_listed (fin s (suc m) e) = refl

-- whatever is the computed answer has the promised number and bounds, and its number is listed
pub promised : (x : Float) {r : Result ℤ ℕ} → T (fits binary64 x) → r ≡ whole_log x → record {
  log : r ≡ whole_log x;
  fault : fault_of r ≡ log_fault x;
  bounds : Answer x r;
  number : OneOf log_numbers (fault_of r);
}
promised x t e = record {
  log = e;
  fault = ap fault_of e ∙ number_is x;
  bounds = subst (λ (a : Result ℤ ℕ). Answer x a) (sym e) (log_correct x t);
  number = subst (λ (a : Result ℤ ℕ). OneOf log_numbers (fault_of a)) (sym e) (log_listed x);
}

-- ---- the range of all logarithms: from -70,385,664 to 67,108,863

pub units_range : (q : ℕ) → q < 2098 * 65536 → (minus (from_units q) ≤ 70385664) × (plus (from_units q) ≤ 67108863)
units_range q h = let p = from_units q in go p (sub_parts q (1074 * 65536))
  where
    go : (p : ℤ) → plus p + 1074 * 65536 ≡ q + minus p → (minus p ≤ 70385664) × (plus p ≤ 67108863)
    go (pos n) e = omega arith
    go (negsuc n) e = omega arith

pub log_small : (x : Float) (p : ℤ) → T (fits binary64 x) → whole_log x ≡ Ok p → (minus p ≤ 70385664) × (plus p ≤ 67108863)
unfolding whole_log
log_small nan p t h = let z : value_not_finite ≡ accepted = ap fault_of h in absurd (omega arith)
log_small (inf s) p t h = let z : value_not_finite ≡ accepted = ap fault_of h in absurd (omega arith)
log_small (fin s zero e) p t h = let z : value_not_finite ≡ accepted = ap fault_of h in absurd (omega arith)
log_small (fin s (suc m) e) p t h =
    let x = fin s (suc m) e in
    let same : from_units (log_of (magnitude x)) ≡ p = ap value_of h in
    subst (λ (z : ℤ). (minus z ≤ 70385664) × (plus z ≤ 67108863)) same
    (units_range (log_of (magnitude x)) (log_most (magnitude x) 2098 (above_zero s m e t) (in_units x (record { double = t; is_finite = tt }))))

-- so it fits an i32, and the code's difference is the definition's
small_i32 : (p : ℤ) → (minus p ≤ 70385664) × (plus p ≤ 67108863) → SFits w32 p
small_i32 (pos n) h = record { sfits = omega arith }
small_i32 (negsuc n) h = record { sfits = omega arith }

pub fits_i32 : (q : ℕ) → q < 2098 * 65536 → SFits w32 (from_units q)
fits_i32 q h = small_i32 (from_units q) (units_range q h)

pub in_i32 : (x : Float) (p : ℤ) → T (fits binary64 x) → whole_log x ≡ Ok p → SFits w32 p
in_i32 x p t h = small_i32 p (log_small x p t h)

pub difference : (q : ℕ) → q < 2098 * 65536 → to_z w32 q -ℤ pos 70385664 ≡ from_units q
difference q h = ap (λ (z : ℤ). z -ℤ pos 70385664) (to_z_pos w32 q (omega arith))

-- as a double it stands for itself
pub log_whole : (x : Float) (p : ℤ) → T (fits binary64 x) → whole_log x ≡ Ok p → Whole (of_int binary64 p) p
log_whole x p t h = integer_whole p (small p (log_small x p t h))
  where
    small : (p : ℤ) → (minus p ≤ 70385664) × (plus p ≤ 67108863) → nat_abs p ≤ 2 ^ 53
    small (pos n) h = omega arith
    small (negsuc n) h = omega arith
