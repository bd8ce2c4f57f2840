-- The check of one candidate is exact. In integers n * 2 ^ 54 is the square of q and d more (`balance`), so that the whole root is q or q + 1
-- (`between`); half of it, rounded up, is p, and `root_bits_lem` of square_root makes the double of it.
use Rattle.std.proofs.Common.{◌≡◌, ℕ, zero, suc, ◌+◌, ◌-◌, ◌*◌, ◌/◌, ◌%◌, ◌^◌, ◌<◌, ◌≤◌, Bool, true, false, not, T, leb, ℤ, sym, refl, ap, ◌∙◌, subst, le_of_lt, mul-le-mul, mul_right_comm, arith, leb→le}
use native.Mathlib.Nat.{mul-mul-mul_comm}
use lib.Dec.{nleb→lt}
use lib.Ieee.{Float, nan, inf, fin, binary64, size, is_nan, of_bits, to_bits}
use lib.Ieee.Bits.{nan_bits_is, to_bits-of_bits}
use Rattle.float64.proofs.Scale.{mag_of_value}
use Rattle.float64.proofs.Bits.{bits_are, pattern, no_nan}
use Rattle.float64.proofs.Normalised.{normal_scaling}
use Rattle.square_root.specs.Root.{square, root_of, sqrt_of, value_of}
use Rattle.std.specs.Prelude.{Ok}
use Rattle.square_root.specs.inner.Steps.{WholeRoot}
use Rattle.square_root.proofs.Whole.{expanded, next_square}
use Rattle.square_root.proofs.Frame.{root_bits_lem, scaled_square}
use Rattle.root_blocks.specs.inner.Blocks.{under_root, root_bits, root_by}

-- ---- the whole root

-- p is half of the whole root of n, rounded up
record Half (n p : ℕ) : Type 0 where
  pub q : ℕ
  pub whole : WholeRoot n q
  pub half : (q + 1) / 2 ≡ p

between : (n p q d : ℕ) → q + 1 ≡ 2 * p → n ≡ q * q + d → d ≤ 4 * q + 3 → Half n p
between n p q d e s h = go (leb ((q + 1) * (q + 1)) n) (leb→le ((q + 1) * (q + 1)) n) (nleb→lt ((q + 1) * (q + 1)) n)
  where
    go : (b : Bool) → (T b → (q + 1) * (q + 1) ≤ n) → (T (not b) → n < (q + 1) * (q + 1)) → Half n p
    go true l k =
        let x = next_square q in
        let y = next_square (q + 1) in
        record { q = q + 1; whole = record { at_most = l tt; less = omega arith }; half = omega arith }
    go false l k = record { q = q; whole = record { at_most = omega arith; less = k tt }; half = omega arith }

-- the differences that the code makes, none of which is below zero or too large
pub record Differences (n a b over t d left : ℕ) : Type 0 where
  pub over-is : (over + a * a) % 2 ^ 64 ≡ n
  pub t_is : (t + a * b) % 2 ^ 64 ≡ over * 2 ^ 26 % 2 ^ 64
  pub d_is : (d + b * b) % 2 ^ 64 ≡ t * 2 ^ 28 % 2 ^ 64
  pub left_is : (left + d) % 2 ^ 64 ≡ 4 * (a * 2 ^ 27 + b) + 3
  pub over_small : over < 2 ^ 30
  pub t_small : t < 2 ^ 30
  pub d_small : d < 2 ^ 58
  pub left_small : left < 2 ^ 58

-- x less y, modulo 2 ^ 64, as `wrapping_sub` makes it
abbrev pub less : ℕ → ℕ → ℕ
less x y = (x + (2 ^ 64 - y)) % 2 ^ 64

less_back : (x y : ℕ) → x < 2 ^ 64 → y ≤ 2 ^ 64 → (less x y + y) % 2 ^ 64 ≡ x
less_back x y h k = omega arith

pub differences : (n a b q : ℕ) → n < 2 ^ 64 → a < 2 ^ 27 → b < 2 ^ 27 → a * 2 ^ 27 + b ≡ q → let over = less n (a * a) in
    let t = less (over * 2 ^ 26 % 2 ^ 64) (a * b) in
    let d = less (t * 2 ^ 28 % 2 ^ 64) (b * b) in
    let left = less (4 * q + 3) d in
    over < 2 ^ 30 → t < 2 ^ 30 → d < 2 ^ 58 → left < 2 ^ 58 → Differences n a b over t d left
differences n a b q h l m e over_small t_small d_small left_small =
    let aa : a * a ≤ 2 ^ 27 * 2 ^ 27 = mul-le-mul (le_of_lt l) (le_of_lt l) in
    let ab : a * b ≤ 2 ^ 27 * 2 ^ 27 = mul-le-mul (le_of_lt l) (le_of_lt m) in
    let bb : b * b ≤ 2 ^ 27 * 2 ^ 27 = mul-le-mul (le_of_lt m) (le_of_lt m) in
    record {
      over-is = less_back n (a * a) h (omega arith);
      t_is = less_back _ (a * b) (omega arith) (omega arith);
      d_is = less_back _ (b * b) (omega arith) (omega arith);
      left_is = less_back (4 * q + 3) _ (omega arith) (omega arith) ∙ omega arith;
      over_small = over_small;
      t_small = t_small;
      d_small = d_small;
      left_small = left_small;
    }

module _ {n a b over t d left : ℕ} (s : Differences n a b over t d left) (a_small : a < 2 ^ 27) (b-small : b < 2 ^ 27) where
  balance : n * 2 ^ 54 ≡ (a * 2 ^ 27 + b) * (a * 2 ^ 27 + b) + d
  balance =
      let aa : a * a ≤ 2 ^ 27 * 2 ^ 27 = mul-le-mul (le_of_lt a_small) (le_of_lt a_small) in
      let ab : a * b ≤ 2 ^ 27 * 2 ^ 27 = mul-le-mul (le_of_lt a_small) (le_of_lt b-small) in
      let bb : b * b ≤ 2 ^ 27 * 2 ^ 27 = mul-le-mul (le_of_lt b-small) (le_of_lt b-small) in
      let x : over + a * a ≡ n = omega (arith, s.over-is, s.over_small) in
      let y : t + a * b ≡ over * 2 ^ 26 = omega (arith, s.t_is, s.over_small, s.t_small) in
      let z : d + b * b ≡ t * 2 ^ 28 = omega (arith, s.d_is, s.t_small, s.d_small) in
      let e = expanded (a * 2 ^ 27) b in
      let f : a * 2 ^ 27 * (a * 2 ^ 27) ≡ a * a * 2 ^ 54 = mul-mul-mul_comm a (2 ^ 27) a (2 ^ 27) in
      let g : a * 2 ^ 27 * b ≡ a * b * 2 ^ 27 = mul_right_comm a (2 ^ 27) b in
      omega arith

  left_over : d ≤ 4 * (a * 2 ^ 27 + b) + 3
  left_over = omega (arith, s.left_is, s.d_small, s.left_small)

-- ---- the answer for a pattern of bits between those of zero and infinity

zero_bits : (e : ℤ) → to_bits binary64 (fin false zero e) ≡ 0
unfolding size
zero_bits e = bits_are (fin false zero e) tt ∙ ap (pattern false) (mag_of_value (fin false zero e) false 0 (refl, omega arith))

answer : (z : Float) → T (not (is_nan z)) → 0 < to_bits binary64 z → to_bits binary64 z < 2047 * 2 ^ 52 → sqrt_of z ≡ Ok (root_of (square z))
unfolding sqrt_of is_nan
answer nan n l h = absurd n
answer (inf true) n l h = absurd (let k : 2 ^ 63 + 2047 * 2 ^ 52 < 2047 * 2 ^ 52 = unfold to_bits in h in omega arith)
answer (inf false) n l h = absurd (let k : 2047 * 2 ^ 52 < 2047 * 2 ^ 52 = unfold to_bits in h in omega arith)
answer (fin true m e) n l h = absurd (let k = bits_are (fin true m e) tt in omega arith)
answer (fin false zero e) n l h = absurd (let k = zero_bits e in omega arith)
answer (fin false (suc m) e) n l h = refl

answer_of_lem : (b : ℕ) → 0 < b → b < 2047 * 2 ^ 52 → sqrt_of (of_bits binary64 b) ≡ Ok (root_of (square (of_bits binary64 b)))
answer_of_lem b l h =
    let n = subst (λ (t : Bool). T (not t)) (nan_bits_is binary64 b) (no_nan b h) in
    let e = to_bits-of_bits binary64 b (omega arith) n in
    answer (of_bits binary64 b) n (omega arith) (omega arith)

-- ---- the check

pub checked : (bits p : ℕ) {n a b over t d left : ℕ} → n ≡ under_root bits → 2 ^ 52 ≤ bits → bits < 2047 * 2 ^ 52
    → a * 2 ^ 27 + b + 1 ≡ 2 * p → a < 2 ^ 27 → b < 2 ^ 27 → Differences n a b over t d left
    → of_bits binary64 (root_bits bits p) ≡ root_by bits
checked bits p {n} {a} {b} {over} {t} {d} {left} e lo hi q ha hb s =
    let w = between (n * 2 ^ 54) p (a * 2 ^ 27 + b) d q (balance s ha hb) (left_over s ha hb) in
    let v : WholeRoot (under_root bits * 2 ^ 54) w.q = subst (λ (k : ℕ). WholeRoot (k * 2 ^ 54) w.q) e w.whole in
    let x : (bits / 2 ^ 52 + 1073 - 52) / 2 * 2 ^ 52 + (w.q + 1) / 2 ≡ root_bits bits p = omega (arith, w.half) in
    sym (root_bits_lem (scaled_square (of_bits binary64 bits) (normal_scaling bits lo hi)) v ∙ ap (of_bits binary64) x)
    ∙ sym (ap value_of (answer_of_lem bits (omega arith) hi))
