-- One digit and all sixteen, of plain numbers. A number Y with the leading digits m and the logarithm e lies from m * 2 ^ e to below (m + d) * 2 ^ e,
-- both over 2 ^ 31 (`Held`).
-- A square keeps that with 3 * d + 1 for d (`step`), and after all the room d is still far below what the bounds leave (`log_from_lem`).
use mathlib.Core.Path.{◌≡◌, sym, ap, ◌∙◌, subst}
use Prim.Native.Nat.{ℕ, zero, suc, ◌+◌, ◌*◌, ◌/◌, ◌%◌, ◌^◌, ◌≤◌, ◌<◌}
use native.Mathlib.Nat.{le_trans, le_of_eq, lt_of_lt_of_le, lt_of_le_of_lt, add-mul, mul-add, add_assoc}
use native.Mathlib.Nat.{mul_comm, mul_assoc, mul-one, one-mul}
use native.Mathlib.Nat.{two-mul, mul-mul-mul_comm, mul-le-mul, mul-le-mul_left, mul-le-mul_right, le_of_mul-le-mul_right}
use native.Mathlib.Nat.{lt_of_mul-lt-mul_right, div-mul-le_self, lt-div-mul-add, le-div_iff_mul-le, div-lt_iff_lt-mul, pow-suc, pow-zero}
use native.Mathlib.Omega.{arith}
use lib.Pow.{pow-add, pow_pos}
use Rattle.float64.proofs.Squares.{square_lt, root_lt}
use Rattle.whole_log.specs.Log.{digit_of, squared, log_from, Bounds}

pub record Held (d m e Y : ℕ) : Type 0 where
  pub full : 2 ^ 31 ≤ m
  pub short : m < 2 ^ 32
  pub low : m * 2 ^ e ≤ Y * 2 ^ 31
  pub high : Y * 2 ^ 31 < (m + d) * 2 ^ e

-- the digit b of m: how large m and its square are
record Cut (m b : ℕ) : Type 0 where
  bit : b ≤ 1
  near : 2 * m + 2 ^ 28 ≤ 3 * 2 ^ (31 + b)
  from : 2 ^ 31 * 2 ^ (31 + b) ≤ m * m
  to : m * m < 2 ^ 32 * 2 ^ (31 + b)

cut : (m : ℕ) → 2 ^ 31 ≤ m → m < 2 ^ 32 → Cut m (digit_of m)
cut m lo hi = go (digit_of m) (omega arith)
  where
    least : 2 ^ 62 ≤ m * m
    least = mul-le-mul lo lo

    most : m * m < 2 ^ 64
    most = square_lt m (2 ^ 32) hi

    go : (b : ℕ) → m * m / 2 ^ 63 ≡ b → Cut m b
    go zero h =
        let l : m < 3037000500 = root_lt m 3037000500 (omega (arith, least)) in
        record { bit = omega arith; near = omega arith; from = omega (arith, least); to = omega arith }
    go (suc zero) h = record { bit = omega arith; near = omega arith; from = omega arith; to = omega (arith, most) }
    go (suc (suc b)) h = absurd (omega (arith, most))

-- the square of a number with room d above it
grown : (m d D : ℕ) → 0 < D → 2 * m + d ≤ 3 * D → (m + d) * (m + d) ≤ (m * m / D + (3 * d + 1)) * D
grown m d D P h =
    let e : (m + d) * (m + d) ≡ m * m + (2 * m + d) * d = simp (mul-add, add-mul, mul_comm, add_assoc, two-mul) in
    let a : (2 * m + d) * d ≤ 3 * D * d = mul-le-mul_right d h in
    let b : m * m < m * m / D * D + D = lt-div-mul-add P in
    let c : (m * m / D + (3 * d + 1)) * D ≡ m * m / D * D + (3 * D * d + D) = add-mul (m * m / D) (3 * d + 1) D ∙ omega arith in
    omega arith

-- ---- the two bounds of a square: c, P and B stand for 2 ^ 31, 2 ^ e and 2 ^ digit
square_low : (N m Y c P B : ℕ) → 0 < c → m * P ≤ Y * c → N * (c * B) ≤ m * m → N * (P * P * B) ≤ Y * Y * c
square_low N m Y c P B C h g =
    le_of_mul-le-mul_right {k = c}
    (le_trans (le_of_eq (move N c P B))
    (le_trans (mul-le-mul_right (P * P) g)
    (le_trans (le_of_eq (mul-mul-mul_comm m m P P))
    (le_trans (mul-le-mul h h) (le_of_eq (mul-mul-mul_comm Y c Y c ∙ sym (mul_assoc (Y * Y) c c)))))))
    C
  where
    move : (N c P B : ℕ) → N * (P * P * B) * c ≡ N * (c * B) * (P * P)
    move N c P B = omega arith

square_high : (K w Y c P B : ℕ) → 0 < c → Y * c < w * P → w * w ≤ K * (c * B) → Y * Y * c < K * (P * P * B)
square_high K w Y c P B C h g =
    lt_of_mul-lt-mul_right c
    (lt_of_le_of_lt (le_of_eq (mul_assoc (Y * Y) c c ∙ mul-mul-mul_comm Y Y c c))
    (lt_of_lt_of_le (square_lt (Y * c) (w * P) h)
    (le_trans (le_of_eq (mul-mul-mul_comm w P w P)) (le_trans (mul-le-mul_right (P * P) g) (le_of_eq (move K c P B))))))
  where
    move : (N c P B : ℕ) → N * (c * B) * (P * P) ≡ N * (P * P * B) * c
    move N c P B = omega arith

-- 2 ^ (2 * e + b)
doubled : (e b : ℕ) → 2 ^ (2 * e + b) ≡ 2 ^ e * 2 ^ e * 2 ^ b
doubled e b = pow-add 2 (2 * e) b ∙ ap (λ (x : ℕ). x * 2 ^ b) (ap (λ (x : ℕ). 2 ^ x) (two-mul e) ∙ pow-add 2 e e)

pub squared_in : (m : ℕ) → 2 ^ 31 ≤ m → m < 2 ^ 32 → (digit_of m ≤ 1) × (2 ^ 31 ≤ squared m) × (squared m < 2 ^ 32)
squared_in m lo hi =
    let k = cut m lo hi in
    (k.bit, (le-div_iff_mul-le (pow_pos (31 + digit_of m))).1 k.from, (div-lt_iff_lt-mul (pow_pos (31 + digit_of m))).1 k.to)

pub step : (d m e Y : ℕ) → Held d m e Y → d ≤ 2 ^ 28 → Held (3 * d + 1) (squared m) (2 * e + digit_of m) (Y * Y)
step d m e Y h r =
    let b = digit_of m in
    let k = cut m h.full h.short in
    let i = squared_in m h.full h.short in
    let D : 2 ^ (31 + b) ≡ 2 ^ 31 * 2 ^ b = pow-add 2 31 b in
    record {
      full = i.1;
      short = i.2;
      low =
          le_trans (le_of_eq (ap (λ (x : ℕ). squared m * x) (doubled e b)))
          (square_low (squared m) m Y (2 ^ 31) (2 ^ e) (2 ^ b) (pow_pos 31) h.low
          (le_trans (le_of_eq (ap (λ (x : ℕ). squared m * x) (sym D))) (div-mul-le_self (m * m) (2 ^ (31 + b)))));
      high =
          lt_of_lt_of_le
          (square_high (squared m + (3 * d + 1)) (m + d) Y (2 ^ 31) (2 ^ e) (2 ^ b) (pow_pos 31) h.high
          (le_trans (grown m d (2 ^ (31 + b)) (pow_pos (31 + b)) (omega (arith, k.near))) (le_of_eq (ap (λ (x : ℕ). (squared m + (3 * d + 1)) * x) D))))
          (le_of_eq (ap (λ (x : ℕ). (squared m + (3 * d + 1)) * x) (sym (doubled e b))));
    }

-- ---- all digits

square_pow : (Y n : ℕ) → (Y * Y) ^ n ≡ Y ^ (n + n)
square_pow Y n = go n ∙ sym (pow-add Y n n)
  where
    go : (n : ℕ) → (Y * Y) ^ n ≡ Y ^ n * Y ^ n
    go zero = pow-zero (Y * Y) ∙ sym (ap (λ (x : ℕ). x * x) (pow-zero Y))
    go (suc n) = pow-suc (Y * Y) n ∙ ap (λ (x : ℕ). x * (Y * Y)) (go n) ∙ mul-mul-mul_comm (Y ^ n) (Y ^ n) Y Y ∙ sym (ap (λ (x : ℕ). x * x) (pow-suc Y n))

twice_power : (Y k : ℕ) → (Y * Y) ^ (2 ^ k) ≡ Y ^ (2 ^ suc k)
twice_power Y k = square_pow Y (2 ^ k) ∙ ap (λ (x : ℕ). Y ^ x) (sym (two-mul (2 ^ k)) ∙ mul_comm 2 (2 ^ k) ∙ sym (pow-suc 2 k))

three_pos : (k : ℕ) → 1 ≤ 3 ^ k
three_pos zero = le_of_eq (sym (pow-zero 3))
three_pos (suc k) = le_trans (three_pos k) (le_trans (omega arith) (le_of_eq (sym (pow-suc 3 k))))

-- what is left of the room: 2 * d + 1 triples with each digit
room : (k d : ℕ) → (2 * d + 1) * 3 ^ k ≤ 3 ^ 17 → 2 * d + 1 ≤ 3 ^ 17
room k d h = le_trans (le_trans (le_of_eq (sym (mul-one (2 * d + 1)))) (mul-le-mul_left (2 * d + 1) (three_pos k))) h

pub log_from_lem : (k d m e Y : ℕ) → Held d m e Y → (2 * d + 1) * 3 ^ k ≤ 3 ^ 17 → Bounds (log_from k m e) (Y ^ (2 ^ k))
unfolding log_from
log_from_lem zero d m e Y h r =
    let one_power : Y ^ (2 ^ 0) ≡ Y = pow-suc Y 0 ∙ ap (λ (x : ℕ). x * Y) (pow-zero Y) ∙ one-mul Y in
    let l = room 0 d r in
    subst (Bounds e) (sym one_power)
    (record {
      at_most = le_of_mul-le-mul_right {k = 2 ^ 31}
          (le_trans (le_of_eq (mul_comm (2 ^ e) (2 ^ 31))) (le_trans (mul-le-mul_right (2 ^ e) h.full) h.low)) (pow_pos 31);
      below =
          lt_of_mul-lt-mul_right (2 ^ 31)
          (lt_of_lt_of_le h.high
          (le_trans (mul-le-mul_right {n = 2 ^ 33} (2 ^ e) (omega (arith, h.short)))
          (le_of_eq (omega arith ∙ ap (λ (x : ℕ). x * 2 ^ 31) (sym (pow-add 2 e 2))))));
    })
log_from_lem (suc k) d m e Y h r =
    subst (Bounds (log_from k (squared m) (2 * e + digit_of m))) (twice_power Y k)
    (log_from_lem k (3 * d + 1) (squared m) (2 * e + digit_of m) (Y * Y) (step d m e Y h (omega (arith, room (suc k) d r))) (tripled r))
  where
    tripled : (2 * d + 1) * 3 ^ suc k ≤ 3 ^ 17 → (2 * (3 * d + 1) + 1) * 3 ^ k ≤ 3 ^ 17
    tripled r = le_trans (le_of_eq
        (ap (λ (x : ℕ). x * 3 ^ k) (omega arith) ∙ mul_assoc (2 * d + 1) 3 (3 ^ k) ∙ ap (λ (x : ℕ). (2 * d + 1) * x)
        (mul_comm 3 (3 ^ k) ∙ sym (pow-suc 3 k)))) r

pub wider : (k e b : ℕ) → b ≤ 1 → (2 * e + b + 1) * 2 ^ k ≤ (e + 1) * 2 ^ suc k
wider k e b h = le_trans (mul-le-mul_right {n = (e + 1) * 2} (2 ^ k) (omega arith))
    (le_of_eq (mul_assoc (e + 1) 2 (2 ^ k) ∙ ap (λ (x : ℕ). (e + 1) * x) (mul_comm 2 (2 ^ k) ∙ sym (pow-suc 2 k))))

-- no digit leads out of the range
pub log_range : (k m e : ℕ) → 2 ^ 31 ≤ m → m < 2 ^ 32 → log_from k m e + 1 ≤ (e + 1) * 2 ^ k
unfolding log_from
log_range zero m e lo hi = omega arith
log_range (suc k) m e lo hi =
    let i = squared_in m lo hi in
    le_trans (log_range k (squared m) (2 * e + digit_of m) i.1 i.2) (wider k e (digit_of m) i.0)

-- a number of 32 digits is h * 2 ^ 16 + l, and its square is put together from h * h, h * l and l * l
pub record Halves (m : ℕ) : Type 0 where
  pub whole : m / 2 ^ 16 * (m / 2 ^ 16) * 2 ^ 32 + m / 2 ^ 16 * (m % 2 ^ 16) * 2 ^ 17 + m % 2 ^ 16 * (m % 2 ^ 16) ≡ m * m
  pub short : m * m < 2 ^ 64

joined : (h l : ℕ) → h * h * 2 ^ 32 + h * l * 2 ^ 17 + l * l ≡ (h * 2 ^ 16 + l) * (h * 2 ^ 16 + l)
joined h l = sym (add-mul (h * 2 ^ 16) l (h * 2 ^ 16 + l) ∙ ap (λ (x : ℕ). x + l * (h * 2 ^ 16 + l)) (mul-add (h * 2 ^ 16) (h * 2 ^ 16) l)
    ∙ ap (λ (x : ℕ). h * 2 ^ 16 * (h * 2 ^ 16) + h * 2 ^ 16 * l + x) (mul-add l (h * 2 ^ 16) l) ∙ omega arith)

pub halves : (m : ℕ) → m < 2 ^ 32 → Halves m
halves m s =
    let e : m / 2 ^ 16 * 2 ^ 16 + m % 2 ^ 16 ≡ m = omega arith in
    record {
      whole = joined (m / 2 ^ 16) (m % 2 ^ 16) ∙ ap (λ (x : ℕ). x * x) e;
      short = square_lt m (2 ^ 32) s;
    }
