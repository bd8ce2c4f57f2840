-- Scaling rounds nothing: the number that the scaled bits stand for is the number times 2 ^ shift, with its sign. A normal number is its digits times
-- a power of two that
-- its field counts.
use mathlib.Core.Path.{◌≡◌, refl, sym, ap, ap₂, ◌∙◌}
use mathlib.Core.Bool.{Bool, true, false, cond}
use Prim.Native.Nat.{ℕ, zero, suc, ◌+◌, ◌-◌, ◌*◌, ◌/◌, ◌%◌, ◌^◌, ◌≤◌}
use native.Mathlib.Nat.{mul_assoc, zero-mul}
use native.Mathlib.Omega.{arith}
use borrow.Author.Tests.{eqb-true}
use lib.Dec.{leb, eqb}
use lib.Pow.{pow-add, field}
use lib.IntN.{ℤ, pos, negsuc}
use lib.Ieee.{nan, inf, binary64, up, down, of_bits, of_fields, odd}
use Rattle.float64.specs.Number.{magnitude}
use Rattle.float64.proofs.Bits.{subnormal_mag, normal_mag}
use Rattle.float64.proofs.Integers.{plus, minus, sum_parts}
use Rattle.exponents_powers.specs.Power.{field_of, is_zero, with_field, shifted_field, scalable, scaled_bits, ScaledExactly}
use Rattle.exponents_powers.proofs.Laws.{Scales, is_zero_lem, is_normal_lem, field_after, sign_after, fraction_after, normal_field, scales, zero_scaled}
use Rattle.exponents_powers.proofs.Laws.{normal_scaled}

-- ---- the size does not turn on the sign
odd_size : (d q k l : ℕ) → magnitude (odd d true q k l) ≡ magnitude (odd d false q k l)
unfolding odd magnitude
odd_size d zero k l = refl
odd_size d (suc q) k l = refl

fields_size : (x t : ℕ) → magnitude (of_fields binary64 true x t) ≡ magnitude (of_fields binary64 false x t)
unfolding of_fields
fields_size zero t = odd_size 53 t 0 1074
fields_size (suc x) t = go (eqb (suc x) 2047) (eqb t 0)
  where
    go : (a b : Bool) → magnitude (cond a (cond b (inf true) nan) (odd 53 true (2 ^ 52 + t) x 1074)) ≡ magnitude
        (cond a (cond b (inf false) nan) (odd 53 false (2 ^ 52 + t) x 1074))
    go true true = unfold magnitude in refl
    go true false = refl
    go false b = odd_size 53 (2 ^ 52 + t) x 1074

any_sign : (s : Bool) (x t : ℕ) → magnitude (of_fields binary64 s x t) ≡ magnitude (of_fields binary64 false x t)
any_sign true x t = fields_size x t
any_sign false x t = refl

unsigned : (b : ℕ) → magnitude (of_bits binary64 b) ≡ magnitude (of_bits binary64 (b % 2 ^ 63))
unfolding of_bits
unsigned b =
    let r = b % 2 ^ 63 in
    let x : b % 2 ^ 63 / 2 ^ 52 ≡ r % 2 ^ 63 / 2 ^ 52 = omega arith in
    let t : b % 2 ^ 52 ≡ r % 2 ^ 52 = omega arith in
    any_sign (leb (2 ^ 63) b) (b % 2 ^ 63 / 2 ^ 52) (b % 2 ^ 52) ∙ ap₂ (λ (i j : ℕ). magnitude (of_fields binary64 false i j)) x t
    ∙ sym (any_sign (leb (2 ^ 63) r) (r % 2 ^ 63 / 2 ^ 52) (r % 2 ^ 52))

-- ---- the number of a zero and of a normal number
zero_size : (b : ℕ) → is_zero b ≡ true → magnitude (of_bits binary64 b) ≡ 0
zero_size b e =
    let z : b % 2 ^ 63 ≡ 0 = eqb-true (b % 2 ^ 63) 0 e in
    unsigned b ∙ ap (λ (r : ℕ). magnitude (of_bits binary64 r)) z ∙ subnormal_mag 0 (omega arith)

normal_size : (b f : ℕ) → field_of b ≡ f → 1 ≤ f → f ≤ 2046 → magnitude (of_bits binary64 b) ≡ (2 ^ 52 + b % 2 ^ 52) * 2 ^ (f - 1)
normal_size b f e l h =
    let r = b % 2 ^ 63 in
    let q : r / 2 ^ 52 ≡ f = field b 11 52 ∙ e in
    let x : r / 2 ^ 52 - 1 ≡ f - 1 = ap (λ (i : ℕ). i - 1) q in
    let t : r % 2 ^ 52 ≡ b % 2 ^ 52 = omega arith in
    unsigned b ∙ normal_mag r (omega arith) (omega arith) ∙ ap₂ (λ (i j : ℕ). (2 ^ 52 + i) * 2 ^ j) t x

-- ---- scaled
powers : (m a b c d : ℕ) → a + b ≡ c + d → m * 2 ^ a * 2 ^ b ≡ m * 2 ^ c * 2 ^ d
powers m a b c d e =
    mul_assoc m (2 ^ a) (2 ^ b) ∙ ap (λ (p : ℕ). m * p) (sym (pow-add 2 a b) ∙ ap (λ (i : ℕ). 2 ^ i) e ∙ pow-add 2 c d) ∙ sym (mul_assoc m (2 ^ c) (2 ^ d))

size_scaled : (b : ℕ) (s : ℤ) → Scales b s → magnitude (of_bits binary64 (scaled_bits b s)) * 2 ^ minus s ≡ magnitude (of_bits binary64 b) * 2 ^ plus s
size_scaled b s (is_zero_lem e) =
    ap (λ (x : ℕ). magnitude (of_bits binary64 x) * 2 ^ minus s) (zero_scaled b s e) ∙ ap (λ (m : ℕ). m * 2 ^ minus s) (zero_size b e)
    ∙ zero-mul (2 ^ minus s) ∙ sym (zero-mul (2 ^ plus s))
    ∙ ap (λ (m : ℕ). m * 2 ^ plus s) (sym (zero_size b e))
size_scaled b s (is_normal_lem e f n) =
    let o = normal_field (pos (field_of b)) f in
    let old : field_of b ≡ o.field = ap plus o.is in
    let c = with_field b n.field in
    let new : field_of c ≡ n.field = field_after b n.field n.low n.high in
    let p : plus (shifted_field b s) ≡ n.field = ap plus n.is in
    let q : minus (shifted_field b s) ≡ 0 = ap minus n.is in
    let sum : n.field - 1 + minus s ≡ o.field - 1 + plus s = omega (arith, sum_parts (pos (field_of b)) s, o.low, n.low) in
    ap (λ (x : ℕ). magnitude (of_bits binary64 x) * 2 ^ minus s) (normal_scaled b s e n)
    ∙ ap (λ (m : ℕ). m * 2 ^ minus s)
    (normal_size c n.field new n.low n.high ∙ ap (λ (t : ℕ). (2 ^ 52 + t) * 2 ^ (n.field - 1)) (fraction_after b n.field n.low n.high))
    ∙ powers (2 ^ 52 + b % 2 ^ 52) (n.field - 1) (minus s) (o.field - 1) (plus s) sum
    ∙ ap (λ (m : ℕ). m * 2 ^ plus s) (sym (normal_size b o.field old o.low o.high))

-- the sign's digit
sign_kept : (b : ℕ) (s : ℤ) → Scales b s → scaled_bits b s / 2 ^ 63 ≡ b / 2 ^ 63
sign_kept b s (is_zero_lem e) = ap (λ (x : ℕ). x / 2 ^ 63) (zero_scaled b s e)
sign_kept b s (is_normal_lem e f n) = ap (λ (x : ℕ). x / 2 ^ 63) (normal_scaled b s e n) ∙ sign_after b n.field n.low n.high

pub up_is : (s : ℤ) → up s ≡ 2 ^ plus s
up_is (pos n) = refl
up_is (negsuc n) = refl

pub down_is : (s : ℤ) → down s ≡ 2 ^ minus s
down_is (pos n) = refl
down_is (negsuc n) = refl

pub scaled_exactly : (b : ℕ) (s : ℤ) → scalable b s ≡ true → ScaledExactly b s (scaled_bits b s)
scaled_exactly b s h = record { size = rw (up_is s, down_is s) (size_scaled b s (scales b s h)); sign = sign_kept b s (scales b s h) }
