-- The limit that `bound` makes is one (`made_bound`), and so is infinity for no columns (`no_columns`).
-- Its 53 digits q are the least with 2 ^ (52 + t) ≤ q · n, 2 ^ t being the least power of two from n up. Doubles of the limit's size are multiples of
-- 2 ^ k units, so none lies between 2 ^ e / n and the limit.
use mathlib.Core.Path.{◌≡◌, refl, sym, ap, ◌∙◌, subst}
use mathlib.Core.Bool.{Bool, true, false, not, cond, true≢false}
use Prim.Native.Nat.{ℕ, zero, suc, ◌+◌, ◌-◌, ◌*◌, ◌/◌, ◌%◌, ◌^◌, ◌≤◌, ◌<◌}
use native.Mathlib.Nat.{le_trans, le_of_eq, lt_of_lt_of_le, lt_of_le_of_lt, lt_of_not-le, not-le_of_lt, mul-le-mul_right, mul-lt-mul_of_pos_right}
use native.Mathlib.Nat.{mul-lt-mul_of_pos_left, mul-pos, le_of_mul-le-mul_right, lt_of_mul-lt-mul_right, lt_of_mul-lt-mul_left, div-mul-le_self}
use native.Mathlib.Nat.{lt-div-mul-add, zero-mul}
use native.Mathlib.Decide.{dec_le}
use native.Mathlib.Omega.{arith}
use lib.Dec.{T, leb, ltb, eqb, eqb→eq, not_T}
use lib.Arith.{lt→nleb}
use lib.Pow.{pow-add, pow_pos, pow_mono, ones_split, ones_lt, high}
use lib.Count.{count_leading_zeros, leading_length}
use lib.Ieee.{Float, nan, inf, fin, binary64, odd, is_nan, neg, of_fields, of_bits}
use lib.Ieee.Bits.{is_false, cond_no, of_bits-fits, nan_bits_is}
use lib.Ieee.Fits.{inf-fits}
use lib.Ieee.Exact.{odd_sign}
use Rattle.float64.specs.Number.{Number, negative, units_per_one, origin, magnitude}
use Rattle.float64.proofs.Scale.{units_pos, mag_lt, sign_of_value}
use Rattle.float64.proofs.Sums.{number_neg}
use Rattle.float64.proofs.Bits.{normal_mag, no_nan, spaced}
use Rattle.slices.proofs.Bools.{same_ltb}
use Rattle.cost_limit.specs.inner.Steps.{Bound}

-- ---- the least power of two from n up, by its exponent
pub record Power (n t : ℕ) : Type 0 where
  pub under : n ≤ 2 ^ t
  pub over : 2 ^ t < 2 * n
  pub small : t ≤ 12

pub power_of : (n : ℕ) → 0 < n → n ≤ 4096 → Power n (32 - count_leading_zeros 32 (n - 1))
power_of n some few = go (leading_length 32 (n - 1) (omega arith))
  where
    go : ((t : ℕ) × (count_leading_zeros 32 (n - 1) + t ≡ 32) × (n - 1 < 2 ^ t) × (2 ^ t ≤ 2 * (n - 1) + 1)) → Power n (32 - count_leading_zeros 32 (n - 1))
    go (t, e, u, o) =
        let same : t ≡ 32 - count_leading_zeros 32 (n - 1) = omega arith in
        let s : t < 13 = lt_of_not-le (λ (g : 13 ≤ t). not-le_of_lt (lt_of_le_of_lt o (omega arith)) (pow_mono g)) in
        subst (Power n) same (record { under = omega arith; over = omega arith; small = omega arith })

-- ---- the digits
abbrev pub digits : ℕ → ℕ → ℕ
digits n t = (2 ^ (52 + t) - 1) / n + 1

record Digits (n t q : ℕ) : Type 0 where
  enough : 2 ^ (52 + t) ≤ q * n
  least : (c : ℕ) → c < q → c * n < 2 ^ (52 + t)
  full : 2 ^ 52 ≤ q
  short : q < 2 ^ 53

digits_of : {n t : ℕ} → Power n t → 0 < n → n ≤ 4096 → Digits n t (digits n t)
digits_of {n} {t} p some few =
    let d = (2 ^ (52 + t) - 1) / n in
    let S : 2 ^ (52 + t) ≡ 2 ^ 52 * 2 ^ t = pow-add 2 52 t in
    let P : 0 < 2 ^ (52 + t) = pow_pos (52 + t) in
    let lo : d * n ≤ 2 ^ (52 + t) - 1 = div-mul-le_self (2 ^ (52 + t) - 1) n in
    let hi : 2 ^ (52 + t) - 1 < d * n + n = lt-div-mul-add some in
    let enough : 2 ^ (52 + t) ≤ (d + 1) * n = omega arith in
    let short : d < 2 ^ 53 - 1 = lt_of_mul-lt-mul_right n (omega (arith, p.over)) in
    record {
      enough = enough;
      least = λ c h. let l : c * n ≤ d * n = mul-le-mul_right n (let g : c ≤ d = omega arith in g) in omega arith;
      full = le_of_mul-le-mul_right (omega (arith, p.under)) some;
      short = omega arith;
    }

-- ---- the size that the digits bound: a multiple of 2 ^ k where it is large
-- m has no digits beyond its 53rd, if it is as large as the limit
abbrev pub Spaced : ℕ → ℕ → Type 0
Spaced k m = 2 ^ (52 + k) ≤ m → (c : ℕ) × (m ≡ c * 2 ^ k)

size_test : {n t q : ℕ} → Power n t → Digits n t q → 0 < n → (k m : ℕ) → Spaced k m → ltb m (q * 2 ^ k) ≡ ltb (n * m) (2 ^ (52 + t) * 2 ^ k)
size_test {n} {t} {q} p d some k m far = same_ltb m (q * 2 ^ k) (n * m) (2 ^ (52 + t) * 2 ^ k) up down
  where
    many : (c : ℕ) × (m ≡ c * 2 ^ k) → m < q * 2 ^ k → n * m < 2 ^ (52 + t) * 2 ^ k
    many (c, e) h =
        let l : c < q = lt_of_mul-lt-mul_right (2 ^ k) (lt_of_le_of_lt (le_of_eq (sym e)) h) in
        let g : c * n * 2 ^ k < 2 ^ (52 + t) * 2 ^ k = mul-lt-mul_of_pos_right (d.least c l) (pow_pos k) in
        let s : n * m ≡ c * n * 2 ^ k = ap (λ (x : ℕ). n * x) e ∙ omega arith in
        omega arith

    few : m < 2 ^ (52 + k) → n * m < 2 ^ (52 + t) * 2 ^ k
    few h =
        let a : n * m < n * 2 ^ (52 + k) = mul-lt-mul_of_pos_left h some in
        let b : n * 2 ^ (52 + k) ≤ 2 ^ t * 2 ^ (52 + k) = mul-le-mul_right (2 ^ (52 + k)) p.under in
        let c : 2 ^ t * 2 ^ (52 + k) ≡ 2 ^ (52 + t) * 2 ^ k = ap (λ (x : ℕ). 2 ^ t * x) (pow-add 2 52 k) ∙ omega arith ∙ ap (λ (x : ℕ). x * 2 ^ k)
        (sym (pow-add 2 52 t)) in
        omega arith

    up : m < q * 2 ^ k → n * m < 2 ^ (52 + t) * 2 ^ k
    up h = elim (dec_le (2 ^ (52 + k)) m) [ yes l ↦ many (far l) h | no f ↦ few (lt_of_not-le f) ]

    down : n * m < 2 ^ (52 + t) * 2 ^ k → m < q * 2 ^ k
    down h =
        let a : 2 ^ (52 + t) * 2 ^ k ≤ q * n * 2 ^ k = mul-le-mul_right (2 ^ k) d.enough in
        lt_of_mul-lt-mul_left n (lt_of_lt_of_le h (le_trans a (le_of_eq (let e : q * n * 2 ^ k ≡ n * (q * 2 ^ k) = omega arith in e))))

-- ---- a double's size
mag-neg : (x : Float) → magnitude (neg x) ≡ magnitude x
unfolding neg magnitude
mag-neg nan = refl
mag-neg (inf s) = refl
mag-neg (fin s m e) = refl

neg_negative : (x : Float) → negative x ≡ true → negative (neg x) ≡ false
unfolding neg
neg_negative nan e = absurd (true≢false (sym e))
neg_negative (inf s) e = rw e refl
neg_negative (fin s m k) e = rw e refl

pub spaced_size : (x : Float) → Number x → (k : ℕ) → Spaced k (magnitude x)
spaced_size x p k = go (negative x) refl
  where
    go : (s : Bool) → negative x ≡ s → Spaced k (magnitude x)
    go false e h = spaced x p e k h
    go true e h = subst (λ (m : ℕ). (c : ℕ) × (m ≡ c * 2 ^ k)) (mag-neg x) (spaced (neg x) (number_neg x p) (neg_negative x e) k (rw (mag-neg x) h))

-- ---- the sign of a pattern of bits
field_sign : (x t : ℕ) → x < 2047 → negative (of_fields binary64 false x t) ≡ false
unfolding of_fields
field_sign zero t h = sign_of_value (odd 53 false t 0 1074) false (t * 2 ^ 0) (2 ^ 1074) (odd_sign 53 false t 0 1074)
field_sign (suc x) t h =
    let d : Float = odd 53 false (2 ^ 52 + t) x 1074 in
    ap negative (cond_no (eqb (suc x) 2047) (cond (eqb t 0) (inf false) nan) d
    (not_T (eqb (suc x) 2047) (λ u. let e : suc x ≡ 2047 = eqb→eq (suc x) 2047 u in omega arith)))
    ∙ sign_of_value d false ((2 ^ 52 + t) * 2 ^ x) (2 ^ 1074) (odd_sign 53 false (2 ^ 52 + t) x 1074)

bits_sign : (b : ℕ) → b < 2047 * 2 ^ 52 → negative (of_bits binary64 b) ≡ false
unfolding of_bits
bits_sign b h =
    ap (λ (s : Bool). negative (of_fields binary64 s (b % 2 ^ 63 / 2 ^ 52) (b % 2 ^ 52))) (is_false (leb (2 ^ 63) b) (lt→nleb (2 ^ 63) b (omega arith)))
    ∙ field_sign (b % 2 ^ 63 / 2 ^ 52) (b % 2 ^ 52) (omega arith)

-- ---- the limit
-- the code's quotient is of 2 ^ (52 + t) - 1
pub all_ones : (t : ℕ) → t ≤ 12 → 0xffff_ffff_ffff_ffff / 2 ^ (12 - t) ≡ 2 ^ (52 + t) - 1
all_ones t h =
    let e : 0xffff_ffff_ffff_ffff ≡ 2 ^ (52 + t + (12 - t)) - 1 = ap (λ (x : ℕ). 2 ^ x - 1) (let z : 64 ≡ 52 + t + (12 - t) = omega arith in z) in
    ap (λ (x : ℕ). x / 2 ^ (12 - t)) (e ∙ ones_split (52 + t) (12 - t)) ∙ high (2 ^ (52 + t) - 1) (12 - t) (ones_lt (12 - t))

abbrev pub limit_bits : ℕ → ℕ → ℕ → ℕ
limit_bits e n t = (1022 + e - t) * 2 ^ 52 + (2 ^ (52 + t) - 1) / n + 1

-- the digits are where the code takes them to be
pub digits_in : {n t : ℕ} → Power n t → 0 < n → n ≤ 4096 → (2 ^ 52 ≤ digits n t) × (digits n t < 2 ^ 53)
digits_in p some few = let d = digits_of p some few in (d.full, d.short)

module _ {e n t : ℕ} (p : Power n t) (some : 0 < n) (few : n ≤ 4096) (mild : e ≤ 48) where
  abbrev b : ℕ
  b = limit_bits e n t

  abbrev q : ℕ
  q = digits n t

  abbrev k : ℕ
  k = 1022 + e - t

  d : Digits n t q
  d = digits_of p some few

  range : (2 ^ 52 ≤ b) × (b < 2047 * 2 ^ 52)
  range = omega (arith, d.full, d.short, p.small)

  size_is : magnitude (of_bits binary64 b) ≡ q * 2 ^ k
  size_is =
      normal_mag b range.0 range.1
      ∙ ap (λ (x : ℕ). x * 2 ^ (b / 2 ^ 52 - 1)) (let z : 2 ^ 52 + b % 2 ^ 52 ≡ q = omega (arith, d.full, d.short) in z)
      ∙ ap (λ (x : ℕ). q * 2 ^ x) (let z : b / 2 ^ 52 - 1 ≡ k = omega (arith, d.full, d.short) in z)

  power-is : 2 ^ (52 + t) * 2 ^ k ≡ 2 ^ e * units_per_one
  unfolding units_per_one
  power-is = sym (pow-add 2 (52 + t) k) ∙ ap (λ (x : ℕ). 2 ^ x) (let z : 52 + t + k ≡ e + 1074 = omega (arith, p.small) in z) ∙ pow-add 2 e 1074

  pub made_bound : Bound e n (of_bits binary64 (limit_bits e n t))
  made_bound = record {
    ordered = record { double = of_bits-fits binary64 b; not_nan = subst (λ (s : Bool). T (not s)) (nan_bits_is binary64 b) (no_nan b range.1) };
    sign = bits_sign b range.1;
    same = λ x g. ap (ltb (magnitude x)) size_is ∙ size_test p d some k (magnitude x) (spaced_size x g k) ∙ ap (ltb (n * magnitude x)) power-is;
  }

-- ---- no columns
pub no_columns : (e n : ℕ) → n ≡ 0 → Bound e n (inf false)
unfolding is_nan magnitude
no_columns e n z = record {
  ordered = record { double = inf-fits binary64 false; not_nan = tt };
  sign = refl;
  same = λ x g. same_ltb (magnitude x) origin (n * magnitude x) (2 ^ e * units_per_one) (λ h. all x) (λ h. mag_lt x g);
}
  where
    all : (x : Float) → n * magnitude x < 2 ^ e * units_per_one
    all x = lt_of_le_of_lt (le_of_eq (ap (λ (i : ℕ). i * magnitude x) z ∙ zero-mul (magnitude x))) (mul-pos (pow_pos e) units_pos)
