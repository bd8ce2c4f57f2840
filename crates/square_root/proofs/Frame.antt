-- A double above zero written with 53 digits (`Scaling`), and the definition's root of it: its size (`rounded`), and its bits, which the code returns
-- (`root_bits_lem`).
use mathlib.Core.Path.{◌≡◌, refl, sym, ap, ◌∙◌, subst}
use mathlib.Core.Bool.{Bool, true, false, cond}
use Prim.Native.Nat.{ℕ, zero, suc, ◌+◌, ◌-◌, ◌*◌, ◌/◌, ◌%◌, ◌^◌, ◌≤◌, ◌<◌}
use native.Mathlib.Nat.{le_of_lt, lt_of_lt_of_le, lt_of_le_of_lt, two-mul, mul_assoc, mul-div_cancel, mod-eq_of_lt}
use native.Mathlib.Omega.{arith}
use lib.Dec.{T, ltb}
use lib.Pow.{pow-add, pow_pos, pow_mono, shl_lt}
use lib.Ieee.{Float, inf, binary64, size, odd, fits, units, of_bits}
use lib.Ieee.Fits.{odd-fits, inf-fits}
use lib.Ieee.Exact.{HasValue, units_val}
use lib.Ieee.Bits.{of_bits-to_bits}
use Rattle.float64.specs.Number.{Number, negative, magnitude, units_per_one}
use Rattle.float64.proofs.Squares.{root_lt}
use Rattle.square_root.specs.Root.{square, whole_root, root_of}
use Rattle.float64.specs.inner.Digits.{Scaling}
use Rattle.square_root.specs.inner.Steps.{WholeRoot}
use Rattle.square_root.proofs.Whole.{root_unique, root_found}
use Rattle.float64.proofs.Scale.{mag_of_value, sign_of_value, finite_of_value}
use Rattle.float64.proofs.Bits.{pattern, bits_are}
use Rattle.float64.proofs.Normalised.{size_is}

-- ---- a double's square, scaled

pub scaled_square : (x : Float) {m h : ℕ} → Scaling (magnitude x * units_per_one) m h → Scaling (square x) m h
unfolding square
scaled_square x s = s

-- ---- 53 digits and h zeros

doubled : (m p : ℕ) → 2 ^ 52 ≤ m → m < 2 ^ 53 → p < 2 → (2 ^ 52 ≤ m * 2 ^ p) × (m * 2 ^ p ≤ 2 ^ 54 - 2)
doubled m zero lo hi h = omega arith
doubled m (suc zero) lo hi h = omega arith
doubled m (suc (suc p)) lo hi h = absurd (omega arith)

-- the number under the root, with one digit more in its root than a double has
abbrev pub radicand : ℕ → ℕ → ℕ
radicand m h = m * 2 ^ (h % 2) * 2 ^ 54

pub radicand_in : {A m h : ℕ} → Scaling A m h → (2 ^ 52 ≤ m * 2 ^ (h % 2)) × (m * 2 ^ (h % 2) ≤ 2 ^ 54 - 2)
radicand_in {A} {m} {h} s = doubled m (h % 2) s.full s.short (omega arith)

pub shifted : {A m h : ℕ} → Scaling A m h → m * 2 ^ (h % 2) % 2 ^ 64 ≡ m * 2 ^ (h % 2)
shifted s = let r = radicand_in s in mod-eq_of_lt (omega arith)

-- its whole root, halved and rounded up, has 53 digits
pub root_in : {A m h q : ℕ} → Scaling A m h → WholeRoot (radicand m h) q → (2 ^ 52 ≤ (q + 1) / 2) × ((q + 1) / 2 < 2 ^ 53)
root_in {A} {m} {h} {q} s w =
    let r = radicand_in s in
    let a : 2 ^ 53 < q + 1 = root_lt (2 ^ 53) (q + 1) (lt_of_le_of_lt (omega arith) w.less) in
    let b : q < 2 ^ 54 - 1 = root_lt q (2 ^ 54 - 1) (lt_of_le_of_lt w.at_most (omega arith)) in
    omega arith

cut : {A m h : ℕ} → Scaling A m h → A ≡ radicand m h * 2 ^ (2 * ((h - 54) / 2))
cut {A} {m} {h} s =
    let j = (h - 54) / 2 in
    let p = h % 2 in
    s.same
    ∙ ap (λ (x : ℕ). m * x) (ap (λ (x : ℕ). 2 ^ x) (omega arith) ∙ pow-add 2 (p + 54) (2 * j) ∙ ap (λ (x : ℕ). x * 2 ^ (2 * j)) (pow-add 2 p 54))
    ∙ sym (mul_assoc m (2 ^ p * 2 ^ 54) (2 ^ (2 * j)))
    ∙ ap (λ (x : ℕ). x * 2 ^ (2 * j)) (sym (mul_assoc m (2 ^ p) (2 ^ 54)))

-- ---- the definition's root

opened : (A : ℕ) → root_of A ≡ units binary64 false ((whole_root 54 (A / 2 ^ (2 * ((size A - 107) / 2))) + 1) / 2) ((size A - 107) / 2 + 1)
unfolding root_of
opened A = refl

root_is : {A m h q : ℕ} → Scaling A m h → WholeRoot (radicand m h) q → root_of A ≡ units binary64 false ((q + 1) / 2) ((h - 54) / 2 + 1)
root_is {A} {m} {h} {q} s w =
    let j = (h - 54) / 2 in
    let z : size A ≡ 53 + h = ap size s.same ∙ size_is m h s.full s.short in
    let e : (size A - 107) / 2 ≡ j = omega arith in
    let n : A / 2 ^ (2 * j) ≡ radicand m h = ap (λ (x : ℕ). x / 2 ^ (2 * j)) (cut s) ∙ mul-div_cancel (radicand m h) (pow_pos (2 * j)) in
    let r = radicand_in s in
    let u : whole_root 54 (radicand m h) ≡ q = root_unique (root_found 54 (radicand m h) (omega arith)) w in
    opened A
    ∙ ap (λ (i : ℕ). units binary64 false ((whole_root 54 (A / 2 ^ (2 * i)) + 1) / 2) (i + 1)) e
    ∙ ap (λ (x : ℕ). units binary64 false ((whole_root 54 x + 1) / 2) (j + 1)) n
    ∙ ap (λ (x : ℕ). units binary64 false ((x + 1) / 2) (j + 1)) u

-- a number of 53 digits with k zeros, as a double
module _ (y k : ℕ) (lo : 2 ^ 52 ≤ y) (hi : y < 2 ^ 53) (room : k ≤ 2045) where
  in_range_lem : y * 2 ^ k < 2 ^ 2098
  in_range_lem = lt_of_lt_of_le (shl_lt 53 k hi) (pow_mono {j = 2098} (omega arith))

  value : HasValue (units binary64 false y k) false (y * 2 ^ k) (2 ^ 1074)
  value = units_val binary64 false y k in_range_lem

  is_number : Number (units binary64 false y k)
  unfolding units
  is_number = record { double = go (ltb (y * 2 ^ k) (2 ^ 2098)); is_finite = finite_of_value (units binary64 false y k) false (y * 2 ^ k) (2 ^ 1074) value }
    where
      go : (b : Bool) → T (fits binary64 (cond b (odd 54 false y k 1074) (inf false)))
      go true = odd-fits binary64 54 false y k (omega arith) (le_of_lt hi) in_range_lem
      go false = inf-fits binary64 false

  from_bits : of_bits binary64 (k * 2 ^ 52 + y) ≡ units binary64 false y k
  unfolding units_per_one
  from_bits =
      let d = units binary64 false y k in
      let z : size (y * 2 ^ k) - 53 ≡ k = let e = size_is y k lo hi in omega arith in
      sym
      (sym (of_bits-to_bits binary64 d is_number.double)
      ∙ ap (of_bits binary64)
      (bits_are d is_number.is_finite
      ∙ ap (λ (b : Bool). pattern b (magnitude d)) (sign_of_value d false (y * 2 ^ k) (2 ^ 1074) value)
      ∙ ap (pattern false) (mag_of_value d false (y * 2 ^ k) value)
      ∙ ap (λ (i : ℕ). 0 + i * 2 ^ 52 + y * 2 ^ k / 2 ^ i) z
      ∙ ap (λ (i : ℕ). 0 + k * 2 ^ 52 + i) (mul-div_cancel y (pow_pos k))
      ∙ omega arith))

pub root_bits_lem : {A m h q : ℕ} → Scaling A m h → WholeRoot (radicand m h) q → root_of A ≡ of_bits binary64 ((h - 52) / 2 * 2 ^ 52 + (q + 1) / 2)
root_bits_lem {A} {m} {h} {q} s w =
    let r = root_in s w in
    let k : (h - 54) / 2 + 1 ≡ (h - 52) / 2 = omega (arith, s.least) in
    root_is s w
    ∙ ap (units binary64 false ((q + 1) / 2)) k
    ∙ sym (from_bits ((q + 1) / 2) ((h - 52) / 2) r.0 r.1 (omega (arith, s.most)))

-- The root r of A: half of the whole root q of n, rounded up, times 2 ^ k units, for 4 * A = n * 2 ^ (2 * k).
pub record Rounded (A : ℕ) (r : Float) : Type 0 where
  pub n : ℕ
  pub q : ℕ
  pub k : ℕ
  pub whole : WholeRoot n q
  pub four : n % 4 ≡ 0
  pub large : 2 ^ 106 ≤ n
  pub full : 2 ^ 52 ≤ (q + 1) / 2
  pub scale : 4 * A ≡ n * (2 ^ k * 2 ^ k)
  pub number : Number r
  pub sign : negative r ≡ false
  pub size : magnitude r ≡ (q + 1) / 2 * 2 ^ k

pub rounded : {A m h : ℕ} → Scaling A m h → Rounded A (root_of A)
unfolding units_per_one
rounded {A} {m} {h} s =
    let n = radicand m h in
    let j = (h - 54) / 2 in
    let r = radicand_in s in
    let w : WholeRoot n (whole_root 54 n) = root_found 54 n (omega arith) in
    let q = whole_root 54 n in
    let y = (q + 1) / 2 in
    let b = root_in s w in
    let l : j + 1 ≤ 2045 = omega (arith, s.most) in
    let v = value y (j + 1) b.0 b.1 l in
    let d = units binary64 false y (j + 1) in
    let e : root_of A ≡ d = root_is s w in
    record {
      n = n;
      q = q;
      k = j + 1;
      whole = w;
      four = omega arith;
      large = omega arith;
      full = b.0;
      scale =
          ap (λ (x : ℕ). 4 * x) (cut s ∙ ap (λ (x : ℕ). n * 2 ^ x) (two-mul j) ∙ ap (λ (x : ℕ). n * x) (pow-add 2 j j))
          ∙ omega arith
          ∙ ap (λ (x : ℕ). n * x) (sym (ap (λ (x : ℕ). x * x) (pow-add 2 j 1)));
      number = subst Number (sym e) (is_number y (j + 1) b.0 b.1 l);
      sign = ap negative e ∙ sign_of_value d false (y * 2 ^ (j + 1)) (2 ^ 1074) v;
      size = ap magnitude e ∙ mag_of_value d false (y * 2 ^ (j + 1)) v;
    }
