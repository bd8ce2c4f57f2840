-- General laws of finite doubles, by their size in units (`magnitude`): what a pattern of bits stands for, that sign and size make the double, and how far
-- apart large ones are.
use mathlib.Core.Path.{◌≡◌, refl, sym, ap, ◌∙◌, subst}
use mathlib.Core.Bool.{Bool, true, false, not, cond, false≢true}
use mathlib.Core.Logic.{inl, inr}
use Prim.Native.Nat.{ℕ, zero, suc, ◌+◌, ◌-◌, ◌*◌, ◌/◌, ◌%◌, ◌^◌, ◌≤◌, ◌<◌}
use native.Mathlib.Nat.{le_of_eq, lt_of_lt_of_le, lt_of_le_of_lt, lt_of_not-le, not-le_of_lt, mul-one, mul_assoc, mod-eq_of_lt, eq-zero-or-pos}
use native.Mathlib.Decide.{dec_le}
use native.Mathlib.Omega.{arith}
use lib.Dec.{T, leb, ltb, eqb, ltb→lt, not_T, eqb→eq}
use lib.Arith.{lt→nleb}
use lib.Pow.{pow-add, pow_mono, shl_lt}
use lib.IntN.{ℤ, pos}
use lib.Ieee.{Float, nan, inf, fin, binary64, size, odd, fits, is_nan, of_fields, of_bits, nan_bits, to_bits, lt}
use lib.Ieee.Digits.{size-le}
use lib.Ieee.Fits.{kept-lt}
use lib.Ieee.Exact.{HasValue, odd_sign}
use lib.Ieee.Scale.{finite}
use lib.Ieee.Bits.{of_bits-to_bits, nan_bits_above, is_false, cond_no}
use Rattle.float64.specs.Number.{Number, negative, units_per_one, origin, magnitude}
use Rattle.float64.proofs.Scale.{mag_of_value, mag_lt}

-- ---- sign and size make the double

-- the bits of the double with the sign s that is n units in size
abbrev pub pattern : Bool → ℕ → ℕ
pattern s n = cond s (2 ^ 63) 0 + (size n - 53) * 2 ^ 52 + n / 2 ^ (size n - 53)

pub bits_are : (x : Float) → T (finite x) → to_bits binary64 x ≡ pattern (negative x) (magnitude x)
unfolding to_bits magnitude units_per_one
bits_are nan t = absurd t
bits_are (inf s) t = absurd t
bits_are (fin s m e) t = refl

pub same_double : (x y : Float) → Number x → Number y → negative x ≡ negative y → magnitude x ≡ magnitude y → x ≡ y
same_double x y p q s e =
    sym (of_bits-to_bits binary64 x p.double)
    ∙ ap (of_bits binary64) (bits_are x p.is_finite ∙ ap (λ (b : Bool). pattern b (magnitude x)) s ∙ ap (pattern (negative y)) e
    ∙ sym (bits_are y q.is_finite))
    ∙ of_bits-to_bits binary64 y q.double

-- ---- the bits of a number that is not negative are below those of infinity

pub bits_in : (x : Float) → Number x → negative x ≡ false → to_bits binary64 x < 2047 * 2 ^ 52
unfolding origin
bits_in x p s =
    let n = magnitude x in
    let e : to_bits binary64 x ≡ pattern false n = bits_are x p.is_finite ∙ ap (λ (b : Bool). pattern b n) s in
    let k : size n ≤ 2098 = size-le n 2098 (mag_lt x p) in
    let l : n / 2 ^ (size n - 53) < 2 ^ 53 = kept-lt 53 n in
    omega arith

-- ---- and not 0 where it is above zero

zero_bits : of_bits binary64 0 ≡ fin false 0 (pos 0)
unfolding of_bits
zero_bits = refl

pub some_bits : (m : ℕ) (e : ℤ) → T (fits binary64 (fin false (suc m) e)) → 0 < to_bits binary64 (fin false (suc m) e)
some_bits m e t = elim (eq-zero-or-pos (to_bits binary64 (fin false (suc m) e))) [
  | inl z ↦
      let same : fin false (suc m) e ≡ fin false 0 (pos 0) = sym (of_bits-to_bits binary64 (fin false (suc m) e) t) ∙ ap (of_bits binary64) z ∙ zero_bits in
      let n : suc m ≡ 0 = cc in
      absurd (omega arith)
  | inr p ↦ p
]

-- ---- what a pattern stands for

read : (b : ℕ) → b < 2 ^ 63 → of_bits binary64 b ≡ of_fields binary64 false (b / 2 ^ 52) (b % 2 ^ 52)
unfolding of_bits
read b h =
    ap (λ (s : Bool). of_fields binary64 s (b % 2 ^ 63 / 2 ^ 52) (b % 2 ^ 52)) (is_false (leb (2 ^ 63) b) (lt→nleb (2 ^ 63) b h))
    ∙ ap (λ (r : ℕ). of_fields binary64 false (r / 2 ^ 52) (b % 2 ^ 52)) (mod-eq_of_lt h)

subnormal_value : (t x : ℕ) → x ≡ 0 → HasValue (of_fields binary64 false x t) false t (2 ^ 1074)
unfolding of_fields
subnormal_value t zero e = subst (λ (a : ℕ). HasValue (odd 53 false t 0 1074) false a (2 ^ 1074)) (mul-one t) (odd_sign 53 false t 0 1074)
subnormal_value t (suc x) e = absurd (let z : suc x ≡ 0 = e in omega arith)

normal_value : (t x : ℕ) → 0 < x → x < 2047 → HasValue (of_fields binary64 false x t) false ((2 ^ 52 + t) * 2 ^ (x - 1)) (2 ^ 1074)
unfolding of_fields
normal_value t zero l h = absurd (omega arith)
normal_value t (suc x) l h =
    let d : Float = odd 53 false (2 ^ 52 + t) x 1074 in
    let p : x ≡ suc x - 1 = omega arith in
    subst (λ (y : Float). HasValue y false ((2 ^ 52 + t) * 2 ^ (suc x - 1)) (2 ^ 1074))
    (sym (cond_no (eqb (suc x) 2047) (cond (eqb t 0) (inf false) nan) d
    (not_T (eqb (suc x) 2047) (λ u. let e : suc x ≡ 2047 = eqb→eq (suc x) 2047 u in omega arith))))
    (subst (λ (k : ℕ). HasValue d false ((2 ^ 52 + t) * 2 ^ k) (2 ^ 1074)) p (odd_sign 53 false (2 ^ 52 + t) x 1074))

pub subnormal_mag : (b : ℕ) → b < 2 ^ 52 → magnitude (of_bits binary64 b) ≡ b
unfolding units_per_one
subnormal_mag b h =
    ap magnitude (read b (omega arith)) ∙ mag_of_value (of_fields binary64 false (b / 2 ^ 52) (b % 2 ^ 52)) false (b % 2 ^ 52)
    (subnormal_value (b % 2 ^ 52) (b / 2 ^ 52) (omega arith)) ∙ mod-eq_of_lt h

pub normal_mag : (b : ℕ) → 2 ^ 52 ≤ b → b < 2047 * 2 ^ 52 → magnitude (of_bits binary64 b) ≡ (2 ^ 52 + b % 2 ^ 52) * 2 ^ (b / 2 ^ 52 - 1)
unfolding units_per_one
normal_mag b g h =
    ap magnitude (read b (omega arith))
    ∙ mag_of_value (of_fields binary64 false (b / 2 ^ 52) (b % 2 ^ 52)) false ((2 ^ 52 + b % 2 ^ 52) * 2 ^ (b / 2 ^ 52 - 1))
    (normal_value (b % 2 ^ 52) (b / 2 ^ 52) (omega arith) (omega arith))

pub no_nan : (b : ℕ) → b < 2047 * 2 ^ 52 → T (not (nan_bits binary64 b))
no_nan b h = subst (λ (t : Bool). T (not t)) (sym (nan_bits_above binary64 b))
    (not_T (ltb (2047 * 2 ^ 52) (b % 2 ^ 63)) (λ u. let l = ltb→lt (2047 * 2 ^ 52) (b % 2 ^ 63) u in let e : b % 2 ^ 63 ≡ b =
    mod-eq_of_lt (omega arith) in omega arith))

-- ---- a size of 2 ^ (52 + k) units or more is a multiple of 2 ^ k

digits : (z : Float) → Number z → negative z ≡ false → (m : ℕ) × (j : ℕ) × (magnitude z ≡ m * 2 ^ j) × (m < 2 ^ 53)
digits z p s =
    let b = to_bits binary64 z in
    let e : magnitude z ≡ magnitude (of_bits binary64 b) = ap magnitude (sym (of_bits-to_bits binary64 z p.double)) in
    elim (dec_le (2 ^ 52) b) [
      | yes g ↦ (2 ^ 52 + b % 2 ^ 52, b / 2 ^ 52 - 1, e ∙ normal_mag b g (bits_in z p s), omega arith)
      | no f ↦ (b, 0, e ∙ subnormal_mag b (lt_of_not-le f) ∙ sym (mul-one b), let l = lt_of_not-le f in omega arith)
    ]

pub spaced : (z : Float) → Number z → negative z ≡ false → (k : ℕ) → 2 ^ (52 + k) ≤ magnitude z → (c : ℕ) × (magnitude z ≡ c * 2 ^ k)
spaced z p s k h = go (digits z p s)
  where
    go : ((m : ℕ) × (j : ℕ) × (magnitude z ≡ m * 2 ^ j) × (m < 2 ^ 53)) → (c : ℕ) × (magnitude z ≡ c * 2 ^ k)
    go (m, j, e, l) = elim (dec_le k j) [
      | yes g ↦ (
        m * 2 ^ (j - k),
        e ∙ ap (λ (x : ℕ). m * x) (ap (λ (x : ℕ). 2 ^ x) (omega arith) ∙ pow-add 2 (j - k) k)
            ∙ sym (mul_assoc m (2 ^ (j - k)) (2 ^ k)),
      )
      | no f ↦
          let g : j < k = lt_of_not-le f in
          absurd (not-le_of_lt (lt_of_le_of_lt (le_of_eq e) (lt_of_lt_of_le (shl_lt 53 j l) (pow_mono (omega arith)))) h)
    ]

-- ---- a number that is less than another is no NaN

pub less_no_nan : (x y : Float) → lt x y ≡ true → T (not (is_nan x))
unfolding lt is_nan
less_no_nan nan y h = absurd (false≢true h)
less_no_nan (inf s) y h = tt
less_no_nan (fin s m e) y h = tt
