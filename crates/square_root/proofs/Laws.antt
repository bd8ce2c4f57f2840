-- The two accounts of the root agree: the computed answer is an answer as IEEE 754 requires it (`sqrt_correct`), and there is at most
-- one (`answer_unique`). Its number is 0 or 11 (`root_listed`).
use mathlib.Core.Path.{◌≡◌, refl, sym, ap, ◌∙◌, subst}
use mathlib.Core.Bool.{true, false}
use Prim.Native.Nat.{ℕ, zero, suc, ◌+◌, ◌*◌, ◌/◌, ◌^◌, ◌≤◌, ◌<◌}
use native.Mathlib.Nat.{le_trans, le_of_eq, le_of_lt, lt_of_lt_of_le, lt_of_le_of_lt, lt_of_not-le, le_antisymm, add_comm, add-mul, mul-mul-mul_comm}
use native.Mathlib.Nat.{mul-le-mul_right, mul-lt-mul_of_pos_right, lt_of_mul-lt-mul_right, mul-pos}
use native.Mathlib.Decide.{dec_le}
use native.Mathlib.Omega.{arith}
use lib.IntN.{ℤ}
use Rattle.std.specs.Prelude.{Result, Ok}
use lib.Dec.{T}
use lib.Pow.{pow-add, pow_pos}
use lib.Ieee.{Float, nan, inf, fin, binary64, fits, of_bits, to_bits}
use lib.Ieee.Bits.{of_bits-to_bits}
use Rattle.refusal.specs.Listed.{listed, OneOf, root_numbers}
use Rattle.float64.specs.Number.{Number, negative, magnitude}
use Rattle.float64.proofs.Squares.{square_lt}
use Rattle.refusal.specs.Number.{fault_of}
use Rattle.square_root.specs.Root.{root_fault, square, Nearest, Answer, root_of, sqrt_of}
use Rattle.square_root.proofs.Whole.{over_half, under_half}
use Rattle.float64.proofs.Bits.{same_double, some_bits, bits_in, spaced}
use Rattle.float64.proofs.Normalised.{scaling}
use Rattle.square_root.proofs.Frame.{scaled_square, Rounded, rounded}

-- ---- the rounded root is the nearest

module _ (x r : Float) (w : Rounded (square x) r) where
  abbrev y : ℕ
  y = (w.q + 1) / 2

  abbrev unit : ℕ
  unit = 2 ^ w.k

  unit_pos : 0 < unit
  unit_pos = pow_pos w.k

  -- a middle of r and another double that is a multiple of the unit
  middle : (z : Float) (c : ℕ) → magnitude z ≡ c * unit → (magnitude r + magnitude z) * (magnitude r + magnitude z) ≡ (y + c) * (y + c) * (unit * unit)
  middle z c e =
      let s : magnitude r + magnitude z ≡ (y + c) * unit = ap (λ (a : ℕ). a + magnitude z) w.size ∙ ap (λ (a : ℕ). y * unit + a) e
      ∙ sym (add-mul y c unit) in
      ap (λ (a : ℕ). a * a) s ∙ mul-mul-mul_comm (y + c) unit (y + c) unit

  larger : (z : Float) → Number z → negative z ≡ false → magnitude r < magnitude z → 4 * square x < (magnitude r + magnitude z) * (magnitude r + magnitude z)
  larger z p s l = go (spaced z p s w.k
      (le_trans (le_of_eq (pow-add 2 52 w.k)) (le_trans (mul-le-mul_right unit w.full) (le_trans (le_of_eq (sym w.size)) (le_of_lt l)))))
    where
      go : ((c : ℕ) × (magnitude z ≡ c * unit)) → 4 * square x < (magnitude r + magnitude z) * (magnitude r + magnitude z)
      go (c, e) =
          let b : y < c = lt_of_mul-lt-mul_right unit (lt_of_le_of_lt (le_of_eq (sym w.size)) (lt_of_lt_of_le l (le_of_eq e))) in
          lt_of_le_of_lt (le_of_eq w.scale)
          (lt_of_lt_of_le (mul-lt-mul_of_pos_right (under_half w.whole (y + c) (omega arith)) (mul-pos unit_pos unit_pos)) (le_of_eq (sym (middle z c e))))

  -- Below 2 ^ 52 units of 2 ^ k doubles may be closer to each other than 2 ^ k. The middle of r and any of them is still below the exact root.
  coarse : (y + 2 ^ 52) * (y + 2 ^ 52) ≤ w.n
  coarse = elim (dec_le y (2 ^ 52)) [
    | yes h ↦ let e : y ≡ 2 ^ 52 = le_antisymm h w.full in le_trans (le_of_eq (ap (λ (a : ℕ). (a + 2 ^ 52) * (a + 2 ^ 52)) e)) w.large
    | no f ↦ let l = lt_of_not-le f in let b = over_half w.whole w.four (y + 2 ^ 52) (omega arith) in omega arith
  ]

  smaller : (z : Float) → Number z → negative z ≡ false → magnitude z < magnitude r → (magnitude r + magnitude z) * (magnitude r + magnitude z) < 4 * square x
  smaller z p s l = elim (dec_le (2 ^ (52 + w.k)) (magnitude z)) [
    | yes h ↦ go (spaced z p s w.k h)
    | no f ↦
        let a : magnitude z < 2 ^ 52 * unit = lt_of_lt_of_le (lt_of_not-le f) (le_of_eq (pow-add 2 52 w.k)) in
        let b : magnitude r + magnitude z < (y + 2 ^ 52) * unit = omega (arith, w.size, add-mul y (2 ^ 52) unit) in
        lt_of_lt_of_le (square_lt (magnitude r + magnitude z) ((y + 2 ^ 52) * unit) b)
        (le_trans (le_of_eq (mul-mul-mul_comm (y + 2 ^ 52) unit (y + 2 ^ 52) unit))
        (le_trans (mul-le-mul_right (unit * unit) coarse) (le_of_eq (sym w.scale))))
  ]
    where
      go : ((c : ℕ) × (magnitude z ≡ c * unit)) → (magnitude r + magnitude z) * (magnitude r + magnitude z) < 4 * square x
      go (c, e) =
          let b : c < y = lt_of_mul-lt-mul_right unit (lt_of_le_of_lt (le_of_eq (sym e)) (lt_of_lt_of_le l (le_of_eq w.size))) in
          lt_of_le_of_lt (le_of_eq (middle z c e))
          (lt_of_lt_of_le (mul-lt-mul_of_pos_right (over_half w.whole w.four (y + c) (omega arith)) (mul-pos unit_pos unit_pos))
          (le_of_eq (sym w.scale)))

  nearest : Nearest x r
  nearest = record { number = w.number; sign = w.sign; under = larger; over = smaller }

-- ---- every double above zero has 53 digits, a subnormal after its digits are moved up

rounded_bits : (b : ℕ) → 0 < b → b < 2047 * 2 ^ 52 → Rounded (square (of_bits binary64 b)) (root_of (square (of_bits binary64 b)))
rounded_bits b l h = let (m, k, s) = scaling b l h in rounded (scaled_square (of_bits binary64 b) s)

root_nearest : (m : ℕ) (e : ℤ) → T (fits binary64 (fin false (suc m) e)) → Nearest (fin false (suc m) e) (root_of (square (fin false (suc m) e)))
root_nearest m e t =
    let x = fin false (suc m) e in
    nearest x (root_of (square x))
    (subst (λ (z : Float). Rounded (square z) (root_of (square z))) (of_bits-to_bits binary64 x t)
    (rounded_bits (to_bits binary64 x) (some_bits m e t) (bits_in x (record { double = t; is_finite = tt }) refl)))

pub sqrt_correct : (x : Float) → T (fits binary64 x) → Answer x (sqrt_of x)
unfolding sqrt_of
sqrt_correct nan t = refl
sqrt_correct (inf true) t = refl
sqrt_correct (inf false) t = refl
sqrt_correct (fin s zero e) t = refl
sqrt_correct (fin true (suc m) e) t = refl
sqrt_correct (fin false (suc m) e) t = (root_of (square (fin false (suc m) e)), refl, root_nearest m e t)

-- the computed answer is a root exactly where nothing is wrong with x
pub number_is : (x : Float) → fault_of (sqrt_of x) ≡ root_fault x
unfolding sqrt_of
number_is nan = refl
number_is (inf true) = refl
number_is (inf false) = refl
number_is (fin s zero e) = refl
number_is (fin true (suc m) e) = refl
number_is (fin false (suc m) e) = refl

-- 0 and 11 are the numbers answered
pub root_listed : (x : Float) → OneOf root_numbers (fault_of (sqrt_of x))
unfolding sqrt_of listed
root_listed nan = refl
root_listed (inf true) = refl
root_listed (inf false) = refl
root_listed (fin s zero e) = refl
root_listed (fin true (suc m) e) = refl
root_listed (fin false (suc m) e) = refl

-- whatever is the computed answer has the promised number, is IEEE 754's, and its number is listed
pub promised : (x : Float) {r : Result Float ℕ} → T (fits binary64 x) → r ≡ sqrt_of x → record {
  root : r ≡ sqrt_of x;
  fault : fault_of r ≡ root_fault x;
  ieee : Answer x r;
  number : OneOf root_numbers (fault_of r);
}
promised x t e = record {
  root = e;
  fault = ap fault_of e ∙ number_is x;
  ieee = subst (λ (a : Result Float ℕ). Answer x a) (sym e) (sqrt_correct x t);
  number = subst (λ (a : Result Float ℕ). OneOf root_numbers (fault_of a)) (sym e) (root_listed x);
}

-- ---- one answer at most

nearest_unique : (x y z : Float) → Nearest x y → Nearest x z → y ≡ z
nearest_unique x y z p q = elim (dec_le (magnitude y) (magnitude z)) [
  | yes h ↦ elim (dec_le (magnitude z) (magnitude y)) [
    | yes g ↦ same_double y z p.number q.number (p.sign ∙ sym q.sign) (le_antisymm h g)
    | no f ↦ absurd (clash y z p q (lt_of_not-le f))
  ]
  | no f ↦ absurd (clash z y q p (lt_of_not-le f))
]
  where
    clash : (y z : Float) → Nearest x y → Nearest x z → magnitude y < magnitude z → ⊥
    clash y z p q l =
        let a = p.under z q.number q.sign l in
        let b = q.over y p.number p.sign l in
        let e : (magnitude z + magnitude y) * (magnitude z + magnitude y) ≡ (magnitude y + magnitude z) * (magnitude y + magnitude z) =
        ap (λ (n : ℕ). n * n) (add_comm (magnitude z) (magnitude y)) in
        omega arith

pub answer_unique : (x : Float) (r s : Result Float ℕ) → Answer x r → Answer x s → r ≡ s
answer_unique nan r s p q = p ∙ sym q
answer_unique (inf true) r s p q = p ∙ sym q
answer_unique (inf false) r s p q = p ∙ sym q
answer_unique (fin t zero e) r s p q = p ∙ sym q
answer_unique (fin true (suc m) e) r s p q = p ∙ sym q
answer_unique (fin false (suc m) e) r s p q = p.1 ∙ ap Ok (nearest_unique (fin false (suc m) e) p.0 q.0 p.2 q.2) ∙ sym q.1
