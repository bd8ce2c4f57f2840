-- What exponents made of a match do to one value, in exact numbers: from the bounds of its logarithm in units of 1 / N, a value times 2 ^ (sum of two
-- floors) is below 2 where
-- the factors' sum is at most minus the logarithm, and above 1 / 4 where it is equal. Powers are monotone, so a bound on N-th powers is one on the numbers.
use mathlib.Core.Path.{◌≡◌, sym, ap, ap₂, ◌∙◌}
use Prim.Native.Nat.{ℕ, zero, suc, ◌+◌, ◌*◌, ◌^◌, ◌≤◌, ◌<◌}
use native.Mathlib.Nat.{pow-zero, pow-suc, mul_assoc, mul_comm, mul-suc, add-mul, le_trans, le_of_eq, lt_of_le_of_lt, lt_of_lt_of_le, lt_of_not-le}
use native.Mathlib.Nat.{lt_irrefl, mul-le-mul_right, mul-lt-mul_of_pos_right, pow-le-pow_left}
use native.Mathlib.Decide.{dec_le}
use native.Mathlib.Omega.{arith}
use lib.Pow.{pow-add, pow_mono, pow-lt, pow_pos}
use lib.IntN.{ℤ, pos, negsuc, ◌+ℤ◌}
use Rattle.float64.proofs.Integers.{plus, minus, sum_parts}
use Rattle.exponents.specs.Exponent.{floor_of}

-- ---- powers of products and of powers
swap : (a b c d : ℕ) → a * b * (c * d) ≡ a * c * (b * d)
swap a b c d = mul_assoc a b (c * d) ∙ ap (λ (x : ℕ). a * x) (sym (mul_assoc b c d) ∙ ap (λ (x : ℕ). x * d) (mul_comm b c) ∙ mul_assoc c b d)
    ∙ sym (mul_assoc a c (b * d))

pub product_power : (a b n : ℕ) → (a * b) ^ n ≡ a ^ n * b ^ n
product_power a b zero = pow-zero (a * b) ∙ sym (ap₂ (λ (x y : ℕ). x * y) (pow-zero a) (pow-zero b))
product_power a b (suc n) =
    pow-suc (a * b) n ∙ ap (λ (x : ℕ). x * (a * b)) (product_power a b n) ∙ swap (a ^ n) (b ^ n) a b
    ∙ sym (ap₂ (λ (x y : ℕ). x * y) (pow-suc a n) (pow-suc b n))

pub power_power : (a i n : ℕ) → (a ^ i) ^ n ≡ a ^ (i * n)
power_power a i zero = pow-zero (a ^ i) ∙ sym (pow-zero a) ∙ ap (λ (e : ℕ). a ^ e) (let z : 0 ≡ i * 0 = omega arith in z)
power_power a i (suc n) =
    pow-suc (a ^ i) n ∙ ap (λ (x : ℕ). x * a ^ i) (power_power a i n) ∙ sym (pow-add a (i * n) i) ∙ ap (λ (e : ℕ). a ^ e)
    (let z : i * n + i ≡ i * suc n = sym (mul-suc i n) in z)

-- the N-th power of X * 2 ^ i
scaled_power : (X i N : ℕ) → (X * 2 ^ i) ^ N ≡ X ^ N * 2 ^ (i * N)
scaled_power X i N = product_power X (2 ^ i) N ∙ ap (λ (x : ℕ). X ^ N * x) (power_power 2 i N)

-- ---- a bound on N-th powers
module _ (X q N : ℕ) where
  pub below : 2 ≤ N → X ^ N < 2 ^ (q + 2) → (i j : ℕ) → q + i * N ≤ j * N → X * 2 ^ i < 2 ^ (j + 1)
  below t h i j e = go (dec_le (2 ^ (j + 1)) (X * 2 ^ i))
    where
      go : Dec (2 ^ (j + 1) ≤ X * 2 ^ i) → X * 2 ^ i < 2 ^ (j + 1)
      go (no k) = lt_of_not-le k
      go (yes k) =
          let a : 2 ^ ((j + 1) * N) ≤ X ^ N * 2 ^ (i * N) =
          le_trans (le_of_eq (sym (power_power 2 (j + 1) N))) (le_trans (pow-le-pow_left k N) (le_of_eq (scaled_power X i N))) in
          let b : X ^ N * 2 ^ (i * N) < 2 ^ (q + 2 + i * N) =
          lt_of_lt_of_le (mul-lt-mul_of_pos_right h (pow_pos (i * N))) (le_of_eq (sym (pow-add 2 (q + 2) (i * N)))) in
          let c : q + 2 + i * N ≤ (j + 1) * N = rw (add-mul j 1 N) (omega arith) in
          absurd (lt_irrefl _ (lt_of_le_of_lt a (lt_of_lt_of_le b (pow_mono c))))

  pub above : 2 ^ q ≤ X ^ N → (i j : ℕ) → j * N < q + i * N → 2 ^ j < X * 2 ^ i
  above h i j e = go (dec_le (X * 2 ^ i) (2 ^ j))
    where
      go : Dec (X * 2 ^ i ≤ 2 ^ j) → 2 ^ j < X * 2 ^ i
      go (no k) = lt_of_not-le k
      go (yes k) =
          let a : X ^ N * 2 ^ (i * N) ≤ 2 ^ (j * N) =
          le_trans (le_of_eq (sym (scaled_power X i N))) (le_trans (pow-le-pow_left k N) (le_of_eq (power_power 2 j N))) in
          let b : 2 ^ (q + i * N) ≤ X ^ N * 2 ^ (i * N) = le_trans (le_of_eq (pow-add 2 q (i * N))) (mul-le-mul_right (2 ^ (i * N)) h) in
          absurd (lt_irrefl _ (lt_of_lt_of_le (pow-lt e) (le_trans b a)))

-- ---- floors
-- 65,536 times the floor is at most the number, and more than it less 65,536
pub floor_below : (z : ℤ) → plus (floor_of z) * 65536 + minus z ≤ plus z + minus (floor_of z) * 65536
unfolding floor_of
floor_below (pos n) = omega arith
floor_below (negsuc n) = omega arith

pub floor_above : (z : ℤ) → plus z + minus (floor_of z) * 65536 < plus (floor_of z) * 65536 + 65536 + minus z
unfolding floor_of
floor_above (pos n) = omega arith
floor_above (negsuc n) = omega arith

-- ---- one value of X units of 2 ^ -1074, with the logarithm q - 1074 * 65,536, and the exponents of factors a and b
module _ (X q : ℕ) (a b : ℤ) where
  abbrev shift : ℤ
  shift = floor_of a +ℤ floor_of b

  pub below_two : X ^ 65536 < 2 ^ (q + 2) → q + (plus a + plus b) ≤ 1074 * 65536 + (minus a + minus b) → X * 2 ^ plus shift < 2 ^ (minus shift + 1074 + 1)
  below_two h e =
      below X q 65536 (omega arith) h (plus shift) (minus shift + 1074)
      (omega (arith, floor_below a, floor_below b, sum_parts (floor_of a) (floor_of b)))

  pub above_quarter : 2 ^ q ≤ X ^ 65536 → q + (plus a + plus b) ≡ 1074 * 65536 + (minus a + minus b) → 2 ^ (minus shift + 1074) < X * 2 ^ (plus shift + 2)
  above_quarter h e =
      above X q 65536 h (plus shift + 2) (minus shift + 1074)
      (omega (arith, floor_above a, floor_above b, sum_parts (floor_of a) (floor_of b)))
