-- A factor moved to doubles that are whole and 1 apart: it is whole exactly if it comes back unchanged, and the bits there are its number. Whole
-- numbers up to 2 ^ 53 add without rounding; between 2 ^ 52 and 2 ^ 53 every double is whole, and its bits count up by 1.
use mathlib.Core.Path.{◌≡◌, refl, sym, ap, ap₂, ◌∙◌, subst}
use mathlib.Core.Bool.{Bool, true, false, ◌&&◌, false≢true}
use Prim.Native.Nat.{ℕ, ◌+◌, ◌-◌, ◌*◌, ◌/◌, ◌%◌, ◌^◌, ◌≤◌, ◌<◌}
use native.Mathlib.Nat.{add-zero, zero-mul, le_refl, le_of_eq, le_trans, lt_of_le_of_lt, lt_of_lt_of_le, lt_of_not-le, le_of_mul-le-mul_right}
use native.Mathlib.Nat.{mul-le-mul_right, mul-lt-mul_of_pos_right, mul-mod_left, div-add-mod'}
use native.Mathlib.Decide.{dec_le}
use native.Mathlib.Omega.{arith}
use borrow.Author.Tests.{leb-true, le-leb, eqb-true, eq-eqb}
use lib.Dec.{T}
use lib.Pow.{pow-add, pow_pos}
use lib.IntN.{ℤ, pos, negsuc, nat_abs, neg_ℤ, ◌+ℤ◌, ◌-ℤ◌, ◌*ℤ◌}
use lib.Signed.{mag as size_of}
use mir.Syntax.{w32}
use mir.Val.{SFits}
use lib.Ieee.{Float, nan, inf, fin, binary64, fits, add, sub, neg, eq, lt, le, to_bits, of_bits}
use lib.Ieee.Scale.{finite}
use lib.Ieee.Positive.{num, den}
use lib.Ieee.Bits.{of_bits-to_bits}
use Rattle.slices.proofs.Bools.{both, same_test}
use Rattle.float64.specs.Number.{Number, Whole, whole_of, negative, signed, units_per_one, origin, magnitude}
use Rattle.float64.specs.inner.Keys.{place, position}
use Rattle.float64.specs.inner.Arithmetic.{whole_limit}
use Rattle.float64.proofs.Integers.{plus, minus, same_integer, sum_parts, neg_parts, at_most_parts, multiple_parts}
use Rattle.float64.proofs.Scale.{units_pos}
use Rattle.float64.proofs.Order.{eq_key, le_key}
use Rattle.float64.proofs.Bits.{bits_in, normal_mag, subnormal_mag}
use Rattle.float64.proofs.Normalised.{pow_below}
use Rattle.float64.proofs.WholeNumbers.{number_whole, whole_key, key_whole, whole_add, whole_neg, whole_le, whole_of_lem, ordered, size_signed, size_multiple}
use Rattle.exponents_powers.specs.Power.{within_limit}
use Rattle.exponents_powers.proofs.Fields.{within}
use Rattle.exponents.specs.Exponent.{floor_of, is_whole, exponent_of, factor_fits}
use Rattle.exponents.specs.inner.Steps.{Exponent}

-- ---- whole doubles
-- a remainder of 0 makes the quotient the whole number
value-is : (s : Bool) (n d : ℕ) → n ≡ n / d * d → signed s n ≡ signed s (n / d) *ℤ pos d
value-is true n d e =
    same_integer (neg_ℤ (pos n)) (neg_ℤ (pos (n / d)) *ℤ pos d)
    (omega (
      arith,
      neg_parts (pos n),
      zero-mul d,
      multiple_parts (neg_ℤ (pos (n / d))) d,
      ap (λ (q : ℕ). q * d) (neg_parts (pos (n / d))).0,
      ap (λ (q : ℕ). q * d) (neg_parts (pos (n / d))).1,
    ))
value-is false n d e = ap pos e

pub whole_is : (x : Float) → T (fits binary64 x) → is_whole x ≡ true → Whole x (whole_of x)
unfolding is_whole whole_of
whole_is x f h =
    let b = both (finite x) _ h in
    let r : num x % den x ≡ 0 = eqb-true (num x % den x) 0 b.1 in
    let e : num x ≡ num x / den x * den x = sym (div-add-mod' (num x) (den x)) ∙ ap (λ (m : ℕ). num x / den x * den x + m) r ∙ add-zero _ in
    record { double = f; is_finite = subst T (sym b.0) tt; value = value-is (negative x) (num x) (den x) e }

pub is_whole_lem : (x : Float) (z : ℤ) → Whole x z → is_whole x ≡ true
unfolding is_whole
is_whole_lem x z w =
    let n : num x ≡ nat_abs z * den x = sym (size_signed (negative x) (num x)) ∙ ap nat_abs w.value ∙ size_multiple z (den x) in
    ap₂ ◌&&◌ (same_test (finite x) true (λ t. tt) (λ t. w.is_finite)) (eq-eqb (num x % den x) 0 (ap (λ (m : ℕ). m % den x) n ∙ mul-mod_left (nat_abs z) (den x)))

-- two whole doubles of one number have one position
same_key : (x y : Float) (z : ℤ) → Whole x z → Whole y z → position x ≡ position y
same_key x y z p q = omega (arith, whole_key x z p, whole_key y z q)

-- ---- the doubles around the middle
abbrev pub middle : Float
middle = of_bits binary64 0x4338_0000_0000_0000

abbrev pub least : Float
least = of_bits binary64 0x4337_f800_0000_0000

abbrev pub most : Float
most = of_bits binary64 0x4338_0800_0000_0000

middle_whole : Whole middle (pos 6755399441055744)
unfolding of_bits fits
middle_whole = record { double = tt; is_finite = tt; value = refl }

least_whole : Whole least (pos 6746603348033536)
unfolding of_bits fits
least_whole = record { double = tt; is_finite = tt; value = refl }

most_whole : Whole most (pos 6764195534077952)
unfolding of_bits fits
most_whole = record { double = tt; is_finite = tt; value = refl }

between_finite : (y : Float) → le least y ≡ true → le y most ≡ true → T (finite y)
unfolding of_bits le lt eq
between_finite nan a b = absurd (false≢true a)
between_finite (inf true) a b = absurd (false≢true a)
between_finite (inf false) a b = absurd (false≢true b)
between_finite (fin s m e) a b = tt

-- a double there is whole, and its bits count it
pub record Counted (y : Float) : Type 0 where
  pub number : ℕ
  pub whole : Whole y (pos number)
  pub bits : to_bits binary64 y ≡ 1074 * 2 ^ 52 + number
  pub low : 6746603348033536 ≤ number
  pub high : number ≤ 6764195534077952

-- what the bits of a double of such a size are
pub record Counts (b n : ℕ) : Type 0 where
  pub number : ℕ
  pub size : n ≡ number * units_per_one
  pub bits : b ≡ 1074 * 2 ^ 52 + number

scale_up : (a b e f : ℕ) → a * 2 ^ e < b * 2 ^ f → 2 ^ 52 ≤ a → b ≤ 2 ^ 53 → e ≤ f
scale_up a b e f h l m =
    let k : 2 ^ (52 + e) < 2 ^ (53 + f) = lt_of_le_of_lt (le_trans (le_of_eq (pow-add 2 52 e)) (mul-le-mul_right (2 ^ e) l))
    (lt_of_lt_of_le h (le_trans (mul-le-mul_right (2 ^ f) m) (le_of_eq (sym (pow-add 2 53 f))))) in
    let i : 52 + e < 53 + f = pow_below (52 + e) (53 + f) k in
    omega arith

normal_counts : (b n : ℕ) → n ≡ (2 ^ 52 + b % 2 ^ 52) * 2 ^ (b / 2 ^ 52 - 1) → 2 ^ 52 ≤ b → 6746603348033536 * units_per_one ≤ n
    → n ≤ 6764195534077952 * units_per_one → Counts b n
unfolding units_per_one
normal_counts b n e g l h =
    let m = 2 ^ 52 + b % 2 ^ 52 in
    let x = b / 2 ^ 52 - 1 in
    let under : 6764195534077952 < 2 ^ 53 = omega arith in
    let over : 2 ^ 52 < 6746603348033536 = omega arith in
    let up : x ≤ 1074 = scale_up m (2 ^ 53) x 1074 (lt_of_le_of_lt (le_trans (le_of_eq (sym e)) h) (mul-lt-mul_of_pos_right under (pow_pos 1074)))
    (omega arith) (le_refl (2 ^ 53)) in
    let down : 1074 ≤ x = scale_up (2 ^ 52) m 1074 x (lt_of_lt_of_le (mul-lt-mul_of_pos_right over (pow_pos 1074)) (le_trans l (le_of_eq e)))
    (le_refl (2 ^ 52)) (omega arith) in
    let q : x ≡ 1074 = omega arith in
    record { number = m; size = e ∙ ap (λ (i : ℕ). m * 2 ^ i) q; bits = omega arith }

place_size : (s : Bool) (n a : ℕ) → origin + a ≤ place s n → 0 < a → (s ≡ false) × (place s n ≡ origin + n)
unfolding place
place_size true n a h p = let z : ⊥ = omega arith in absurd z
place_size false n a h p = (refl, refl)

pub counted : (y : Float) → T (fits binary64 y) → le least y ≡ true → le y most ≡ true → Counted y
unfolding position
counted y f a b =
    let y-number : Number y = record { double = f; is_finite = between_finite y a b } in
    let o = ordered y y-number in
    let u = units_pos in
    let from = leb-true (position least) (position y) (sym (le_key least y (ordered least (number_whole least _ least_whole)) o) ∙ a) in
    let to = leb-true (position y) (position most) (sym (le_key y most o (ordered most (number_whole most _ most_whole))) ∙ b) in
    let p = place_size (negative y) (magnitude y) (6746603348033536 * units_per_one) (omega (arith, whole_key least _ least_whole)) (omega arith) in
    let l : 6746603348033536 * units_per_one ≤ magnitude y = omega (arith, p.1, whole_key least _ least_whole) in
    let h : magnitude y ≤ 6764195534077952 * units_per_one = omega (arith, p.1, whole_key most _ most_whole) in
    let bits = to_bits binary64 y in
    let same : magnitude y ≡ magnitude (of_bits binary64 bits) = ap magnitude (sym (of_bits-to_bits binary64 y f)) in
    let c : Counts bits (magnitude y) = elim (dec_le (2 ^ 52) bits) [
      | yes g ↦ normal_counts bits (magnitude y) (same ∙ normal_mag bits g (bits_in y y-number p.0)) g l h
      | no g ↦ (let z : ⊥ = omega (arith, same, subnormal_mag bits (lt_of_not-le g), lt_of_not-le g) in absurd z)
    ] in
    record {
      number = c.number;
      whole = key_whole y (pos c.number) y-number (omega (arith, p.1, c.size, zero-mul units_per_one));
      bits = c.bits;
      low = le_of_mul-le-mul_right (omega (arith, c.size)) u;
      high = le_of_mul-le-mul_right (omega (arith, c.size)) u;
    }

-- ---- there and back
small : (s : ℤ) → plus s ≤ whole_limit → minus s ≤ whole_limit → nat_abs s ≤ whole_limit
small (pos n) p m = p
small (negsuc n) p m = m

back_number : (z : ℤ) → (z +ℤ pos 6755399441055744) +ℤ neg_ℤ (pos 6755399441055744) ≡ z
back_number z =
    same_integer ((z +ℤ pos 6755399441055744) +ℤ neg_ℤ (pos 6755399441055744)) z
    (omega (arith, sum_parts z (pos 6755399441055744), sum_parts (z +ℤ pos 6755399441055744) (neg_ℤ (pos 6755399441055744))))

equal_finite : (x y : Float) → T (finite x) → eq x y ≡ true → T (finite y)
unfolding eq
equal_finite nan y f e = absurd f
equal_finite (inf s) y f e = absurd f
equal_finite (fin s m e) nan f h = absurd (false≢true h)
equal_finite (fin s m e) (inf t) f h = absurd (false≢true h)
equal_finite (fin s m e) (fin t n d) f h = tt

-- the difference from the middle is exact
difference : (y : Float) (z : ℤ) → Whole y z → minus z ≤ 0 → plus z ≤ 6764195534077952 → Whole (sub binary64 y middle) (z +ℤ neg_ℤ (pos 6755399441055744))
unfolding sub
difference y z w m p =
    let s = sum_parts z (neg_ℤ (pos 6755399441055744)) in
    whole_add y (neg middle) z (neg_ℤ (pos 6755399441055744)) w (whole_neg middle (pos 6755399441055744) middle_whole)
    (difference_small z (z +ℤ neg_ℤ (pos 6755399441055744)) s m p)
  where
    difference_small : (z s : ℤ) → plus s + (minus z + 6755399441055744) ≡ plus z + 0 + minus s → minus z ≤ 0 → plus z ≤ 6764195534077952
        → nat_abs s ≤ whole_limit
    difference_small z (pos n) e m p = omega arith
    difference_small z (negsuc n) e m p = omega arith

-- a factor that comes back is whole: the number there minus the middle's
pub came_back : (x y : Float) → T (fits binary64 x) → (c : Counted y) → eq (sub binary64 y middle) x ≡ true → (z : ℤ) × Whole x z
    × (plus z + 6755399441055744 ≡ c.number + minus z)
came_back x y f c e =
    let z = pos c.number +ℤ neg_ℤ (pos 6755399441055744) in
    let d = difference y (pos c.number) c.whole (omega arith) c.high in
    let n : Number x = record { double = f; is_finite = equal_finite (sub binary64 y middle) x d.is_finite e } in
    let k : position (sub binary64 y middle) ≡ position x =
    eqb-true _ _ (sym (eq_key (sub binary64 y middle) x (ordered _ (number_whole _ z d)) (ordered x n)) ∙ e) in
    (z, key_whole x z n (omega (arith, whole_key (sub binary64 y middle) z d)), omega (arith, sum_parts (pos c.number) (neg_ℤ (pos 6755399441055744))))

-- ---- a factor that has an exponent
pub record Near (x : Float) : Type 0 where
  pub number : ℤ
  pub whole : Whole x number
  pub up : plus number ≤ 8796093022208
  pub down : minus number ≤ 8796093022208

floor_near : (z : ℤ) → within_limit (floor_of z) ≡ true → (plus z ≤ 8796093022208) × (minus z ≤ 8796093022208)
unfolding floor_of
floor_near (pos n) h = let w = within (pos (n / 65536)) h in (omega arith, omega arith)
floor_near (negsuc n) h = let w = within (negsuc (n / 65536)) h in (omega arith, omega arith)

near : (x : Float) → T (fits binary64 x) → factor_fits x ≡ true → Near x
unfolding factor_fits exponent_of
near x f h =
    let b = both (is_whole x) _ h in
    let l = floor_near (whole_of x) b.1 in
    record { number = whole_of x; whole = whole_is x f b.0; up = l.0; down = l.1 }

-- passes both tests
pub passes : (x : Float) → T (fits binary64 x) → factor_fits x ≡ true → (le least (add binary64 x middle) ≡ true)
    × (le (add binary64 x middle) most ≡ true) × (eq (sub binary64 (add binary64 x middle) middle) x ≡ true)
passes x f h =
    let n = near x f h in
    let z = n.number in
    let s = z +ℤ pos 6755399441055744 in
    let p = sum_parts z (pos 6755399441055744) in
    let l = sum_small z s p n.up n.down in
    let y : Whole (add binary64 x middle) s = whole_add x middle z (pos 6755399441055744) n.whole middle_whole l.2 in
    let d : Whole (sub binary64 (add binary64 x middle) middle) z =
    subst (Whole (sub binary64 (add binary64 x middle) middle)) (back_number z)
    (difference (add binary64 x middle) s y l.1 (omega (arith, p, n.up, l.1))) in (
      whole_le least (add binary64 x middle) (pos 6746603348033536) s least_whole y ∙ at_most_parts (pos 6746603348033536) s
          ∙ le-leb (6746603348033536 + minus s) (plus s + 0) (omega (arith, p, n.down)),
      whole_le (add binary64 x middle) most s (pos 6764195534077952) y most_whole ∙ at_most_parts s (pos 6764195534077952)
          ∙ le-leb (plus s + 0) (6764195534077952 + minus s) (omega (arith, p, n.up)),
      eq_key (sub binary64 (add binary64 x middle) middle) x
          (ordered (sub binary64 (add binary64 x middle) middle) (number_whole (sub binary64 (add binary64 x middle) middle) z d))
          (ordered x (number_whole x z n.whole)) ∙ eq-eqb (position (sub binary64 (add binary64 x middle) middle)) (position x)
          (same_key (sub binary64 (add binary64 x middle) middle) x z d n.whole),
    )
  where
    sum_small : (z s : ℤ) → plus s + (minus z + 0) ≡ plus z + 6755399441055744 + minus s → plus z ≤ 8796093022208 → minus z ≤ 8796093022208
        → (plus s ≤ 6764195534077952) × (minus s ≤ 0) × (nat_abs s ≤ whole_limit)
    sum_small z (pos n) e u d = (omega arith, omega arith, omega arith)
    sum_small z (negsuc n) e u d = let c : ⊥ = omega arith in absurd c

-- ---- the exponent by the number there
-- what is left of the bits, shifted
abbrev pub raised_bits : Float → ℕ
raised_bits y = (to_bits binary64 y - 4843612603143946240) / 2 ^ 16

pub raised_is : {y : Float} (c : Counted y) → (raised_bits y ≡ (c.number - 6746603348033536) / 65536) × (raised_bits y ≤ 268435456)
raised_is {y} c = (omega (arith, c.bits, c.low), omega (arith, c.bits, c.low, c.high))

pub raised_fits : {y : Float} → Counted y → SFits w32 (pos (raised_bits y))
raised_fits c = record { sfits = omega (arith, (raised_is c).1) }

lowered_small : (s : ℤ) (q : ℕ) → plus s + 134217728 ≡ q + minus s → q ≤ 268435456 → size_of s < 2 ^ 31
lowered_small (pos n) q e h = omega arith
lowered_small (negsuc n) q e h = omega arith

lowered_parts : (q : ℕ) → plus (pos q -ℤ pos 134217728) + 134217728 ≡ q + minus (pos q -ℤ pos 134217728)
lowered_parts q = omega (arith, sum_parts (pos q) (neg_ℤ (pos 134217728)))

pub lowered_fits : {y : Float} → Counted y → SFits w32 (pos (raised_bits y) -ℤ pos 134217728)
lowered_fits {y} c = record { sfits = lowered_small (pos (raised_bits y) -ℤ pos 134217728) (raised_bits y) (lowered_parts (raised_bits y)) (raised_is c).1 }

floor_raised : (z : ℤ) (n : ℕ) → plus z + 6755399441055744 ≡ n + minus z → 6746603348033536 ≤ n
    → plus (floor_of z) + 134217728 ≡ (n - 6746603348033536) / 65536 + minus (floor_of z)
unfolding floor_of
floor_raised (pos m) n e l = omega arith
floor_raised (negsuc m) n e l = omega arith

pub exponent_found : (x y : Float) → T (fits binary64 x) → Counted y → eq (sub binary64 y middle) x ≡ true → Exponent x (pos (raised_bits y) -ℤ pos 134217728)
unfolding factor_fits exponent_of
exponent_found x y f c e =
    let r = pos (raised_bits y) -ℤ pos 134217728 in
    let h : plus r + 134217728 ≡ (c.number - 6746603348033536) / 65536 + minus r = omega (arith, lowered_parts (raised_bits y), (raised_is c).0) in
    let b = came_back x y f c e in
    let z = b.0 in
    let q : r ≡ floor_of z = same_integer r (floor_of z) (omega (arith, floor_raised z c.number b.2 c.low)) in
    let w : whole_of x ≡ z = whole_of_lem x z b.1 in
    let o : r ≡ floor_of (whole_of x) = q ∙ ap floor_of (sym w) in
    record { fits = ap within_limit o ∙ ap (λ (t : Bool). t && within_limit (floor_of (whole_of x))) (sym (is_whole_lem x z b.1)); is = λ t. o }

-- a factor without one is answered by a number beyond the limit
pub exponent_none : (x : Float) → (factor_fits x ≡ true → ⊥) → Exponent x (pos 134217728)
exponent_none x h = record { fits = beyond ∙ sym (not-true (factor_fits x) h); is = λ t. absurd (h t) }
  where
    beyond : within_limit (pos 134217728) ≡ false
    beyond = unfold within_limit in refl

    not-true : (t : Bool) → (t ≡ true → ⊥) → t ≡ false
    not-true true h = absurd (h refl)
    not-true false h = refl
