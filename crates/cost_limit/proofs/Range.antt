-- What the range gives its users: a cost in range is a number below `cost_limit n` (`fits_number`, `product`); a difference of logs in range that is
-- not negative is a cost in range (`sub_below`); a whole number is in range by one quotient (`whole_fits`, `whole_quotient`).
-- A rounded difference is at most twice the larger of the two sizes: that is a double, and rounding keeps the order.
use mathlib.Core.Path.{◌≡◌, refl, sym, ap, ◌∙◌, subst}
use mathlib.Core.Bool.{Bool, true, false, not, ◌&&◌, ◌||◌}
use Prim.Native.Nat.{ℕ, ◌+◌, ◌-◌, ◌*◌, ◌/◌, ◌^◌, ◌≤◌, ◌<◌}
use native.Mathlib.Nat.{le_of_eq, lt_of_lt_of_le, lt_of_le_of_lt, lt_of_not-le, le_of_lt, mul-one, mul-zero, mul-pos, mul_assoc, mul-le-mul_left}
use native.Mathlib.Nat.{mul-le-mul_right, mul-lt-mul_of_pos_right, lt_of_mul-lt-mul_left, lt_of_mul-lt-mul_right, div-mul-le_self, lt-div-mul-add}
use native.Mathlib.Nat.{le-div_iff_mul-le}
use native.Mathlib.Decide.{dec_le}
use native.Mathlib.Omega.{arith}
use borrow.Author.Tests.{ltb-true, eqb-true, eq-eqb, lt-ltb}
use lib.Dec.{T, leb, ltb, eqb, ltb→lt, lt→ltb, leb→le, le→leb, lit<}
use lib.Pow.{pow-add, pow_pos, pow_mono, pow-lt}
use lib.IntN.{pos}
use lib.Ieee.{Float, nan, inf, fin, binary64, up, fits, size, round, of_int, neg, sub, le, lt, eq}
use lib.Ieee.Back.{round_whole}
use lib.Ieee.Bits.{is_true}
use lib.Ieee.Digits.{size-lt, size_reaches}
use lib.Ieee.Exact.{HasValue, round_exact}
use lib.Ieee.Fits.{round-fits, of_int-fits}
use lib.Ieee.Order.{round_mono}
use lib.Ieee.Scale.{finite}
use Rattle.float64.specs.Number.{Number, Whole, negative, units_per_one, origin, magnitude}
use Rattle.float64.specs.inner.Keys.{place, position}
use Rattle.float64.proofs.Scale.{units_pos, mag_lt, mag_of_value}
use Rattle.float64.proofs.Order.{le_key}
use Rattle.float64.proofs.Sums.{Exactly, Rounds, add_rounds, made, number_neg, key_neg}
use Rattle.float64.proofs.WholeNumbers.{ordered, number_whole, whole_key}
use Rattle.slices.proofs.Bools.{both, same_test}
use Rattle.cost_limit.specs.Range.{times_below, not_below, in_range, in_log_range, cost_limit}
use Rattle.cost_limit.proofs.Digits.{spaced_size}

-- ---- the theory's limit
pub product : (n : ℕ) → n * cost_limit n ≤ 2 ^ 48 + n
unfolding cost_limit
product n =
    let h : 2 ^ 48 / n * n ≤ 2 ^ 48 = div-mul-le_self (2 ^ 48) n in
    omega arith

-- a size whose product with n is below 2 ^ 48 is below the limit
below_limit : (n m : ℕ) → 0 < n → n * m < 2 ^ 48 * units_per_one → m < cost_limit n * units_per_one
unfolding cost_limit
below_limit n m some h =
    let g : 2 ^ 48 < 2 ^ 48 / n * n + n = lt-div-mul-add some in
    let l : 2 ^ 48 * units_per_one < (2 ^ 48 / n * n + n) * units_per_one = mul-lt-mul_of_pos_right g units_pos in
    lt_of_mul-lt-mul_left n (omega arith)

-- ---- the range by the position: not below origin
not_below_key : (x : Float) → not_below x ≡ true → position x ≡ origin + magnitude x
unfolding not_below position place
not_below_key x h = go (negative x) h
  where
    go : (s : Bool) → (not s || eqb (magnitude x) 0) ≡ true → place s (magnitude x) ≡ origin + magnitude x
    go false e = refl
    go true e = let z : magnitude x ≡ 0 = eqb-true (magnitude x) 0 e in omega arith

key_not_below : (x : Float) → Number x → origin ≤ position x → not_below x ≡ true
unfolding not_below position place
key_not_below x p h = go (negative x) h
  where
    go : (s : Bool) → origin ≤ place s (magnitude x) → (not s || eqb (magnitude x) 0) ≡ true
    go false l = refl
    go true l = eq-eqb (magnitude x) 0 (omega (arith, mag_lt x p))

-- a number that is not negative, and whose product with n is below 2 ^ 48, is a cost in range
number_fits : (n : ℕ) (c : Float) → Number c → origin ≤ position c → n * magnitude c < 2 ^ 48 * units_per_one → in_range n c ≡ true
unfolding in_range times_below
number_fits n c p l h = rw (is_true (finite c) p.is_finite, lt-ltb (n * magnitude c) (2 ^ 48 * units_per_one) h) (key_not_below c p l)

-- a cost in range is a number below the theory's limit
pub fits_number : (n : ℕ) (c : Float) → 0 < n → T (fits binary64 c) → in_range n c ≡ true → Number c × (origin ≤ position c)
    × (position c < origin + cost_limit n * units_per_one)
unfolding in_range times_below
fits_number n c some f h =
    let b = both (finite c && ltb (n * magnitude c) (2 ^ 48 * units_per_one)) (not_below c) h in
    let a = both (finite c) (ltb (n * magnitude c) (2 ^ 48 * units_per_one)) b.0 in
    let l : magnitude c < cost_limit n * units_per_one = below_limit n (magnitude c) some (ltb-true (n * magnitude c) (2 ^ 48 * units_per_one) a.1) in
    let k : position c ≡ origin + magnitude c = not_below_key c b.1 in
    (record { double = f; is_finite = subst T (sym a.0) tt }, omega arith, omega arith)

-- a log in range is a number
pub log_number : (n : ℕ) (x : Float) → T (fits binary64 x) → in_log_range n x ≡ true → Number x
unfolding in_log_range times_below
log_number n x f h = record { double = f; is_finite = subst T (sym (both (finite x) (ltb (n * magnitude x) (2 ^ 47 * units_per_one)) h).0) tt }

-- and n times its size is below 2 ^ 47
log_size : (n : ℕ) (x : Float) → in_log_range n x ≡ true → n * magnitude x < 2 ^ 47 * units_per_one
unfolding in_log_range times_below
log_size n x h = ltb-true (n * magnitude x) (2 ^ 47 * units_per_one) (both (finite x) (ltb (n * magnitude x) (2 ^ 47 * units_per_one)) h).1

-- ---- a double's digits, and that twice its size is a double
record InDigits (a : ℕ) : Type 0 where
  m : ℕ
  j : ℕ
  short : m < 2 ^ 53
  same : a ≡ m * 2 ^ j

in_digits : (x : Float) → Number x → InDigits (magnitude x)
in_digits x p = elim (dec_le 53 (size (magnitude x))) [
  | yes g ↦
      let k = size (magnitude x) - 53 in
      let z : 53 + k ≡ size (magnitude x) = omega arith in
      let reached : 2 ^ (52 + k) ≤ magnitude x = size_reaches (magnitude x) (52 + k) (omega arith) in
      large k (subst (λ (i : ℕ). magnitude x < 2 ^ i) (sym z) (size-lt (magnitude x))) (spaced_size x p k reached)
  | no f ↦ record {
    m = magnitude x;
    j = 0;
    short =
        lt_of_lt_of_le (size-lt (magnitude x)) (pow_mono (let l = lt_of_not-le f in let h : size (magnitude x) ≤ 53 = omega arith in h));
    same = sym (mul-one (magnitude x));
  }
]
  where
    large : (k : ℕ) → magnitude x < 2 ^ (53 + k) → (c : ℕ) × (magnitude x ≡ c * 2 ^ k) → InDigits (magnitude x)
    large k h (c, e) = record {
      m = c;
      j = k;
      short =
          lt_of_mul-lt-mul_right (2 ^ k) (lt_of_le_of_lt (le_of_eq (sym e)) (lt_of_lt_of_le h (le_of_eq (pow-add 2 53 k))));
      same = e;
    }

-- a size below 2 ^ 48 is within the range of doubles
in_reach : (a : ℕ) → a < 2 ^ 48 * units_per_one → a < 2 ^ 2098
unfolding units_per_one
in_reach a h = lt_of_lt_of_le h (le_of_lt (subst (λ (i : ℕ). i < 2 ^ 2098) (pow-add 2 48 1074) (pow-lt {i = 48 + 1074} {j = 2098} (lit< tt))))

twice_value : (x : Float) → Number x → 2 * magnitude x < 2 ^ 48 * units_per_one → HasValue (round binary64 false (2 * magnitude x) units_per_one) false
    (2 * magnitude x) units_per_one
unfolding units_per_one
twice_value x p h =
    let d = in_digits x p in
    let e : d.m * 2 ^ (d.j + 1) ≡ 2 * magnitude x = ap (λ (i : ℕ). d.m * i) (pow-add 2 d.j 1) ∙ omega (arith, d.same) in
    round_exact binary64 false (2 * magnitude x) units_per_one d.m (d.j + 1) units_pos d.short (rw e (in_reach (2 * magnitude x) h))
    (ap (λ (i : ℕ). i * units_per_one) (sym e))

zero_value : (s : Bool) → HasValue (round binary64 s 0 units_per_one) s 0 units_per_one
unfolding units_per_one
zero_value s = round_exact binary64 s 0 units_per_one 0 0 units_pos (lit< tt) (pow_pos 2098) refl

-- ---- what lies between two numbers is one
between_finite : (a r b : Float) → T (finite a) → T (finite b) → T (le a r) → T (le r b) → T (finite r)
unfolding le lt eq
between_finite nan r b f g h l = absurd f
between_finite (inf s) r b f g h l = absurd f
between_finite (fin s m e) nan b f g h l = absurd h
between_finite (fin s m e) (inf true) b f g h l = absurd h
between_finite (fin s m e) (inf false) nan f g h l = absurd g
between_finite (fin s m e) (inf false) (inf t) f g h l = absurd g
between_finite (fin s m e) (inf false) (fin t n d) f g h l = absurd l
between_finite (fin s m e) (fin t n d) b f g h l = tt

-- d units, rounded: between zero and any double that is no smaller
rounded_between : (d a : ℕ) → d ≤ a → HasValue (round binary64 false a units_per_one) false a units_per_one → let r = round binary64 false d units_per_one in
    Number r × (origin ≤ position r) × (position r ≤ origin + a)
unfolding place
rounded_between d a h v =
    let o = round binary64 false 0 units_per_one in
    let r = round binary64 false d units_per_one in
    let y = round binary64 false a units_per_one in
    let O = made o false 0 (round-fits binary64 false 0 units_per_one) (zero_value false) in
    let Y = made y false a (round-fits binary64 false a units_per_one) v in
    let lo : T (le o r) = round_mono binary64 0 units_per_one d units_per_one units_pos units_pos
    (mul-le-mul_right units_per_one (let z : 0 ≤ d = omega arith in z)) in
    let hi : T (le r y) = round_mono binary64 d units_per_one a units_per_one units_pos units_pos (mul-le-mul_right units_per_one h) in
    let R : Number r = record { double = round-fits binary64 false d units_per_one; is_finite = between_finite o r y O.0.is_finite Y.0.is_finite lo hi } in
    let l : position o ≤ position r = leb→le (position o) (position r) (subst T (le_key o r (ordered o O.0) (ordered r R)) lo) in
    let u : position r ≤ position y = leb→le (position r) (position y) (subst T (le_key r y (ordered r R) (ordered y Y.0)) hi) in
    (R, omega (arith, O.1), omega (arith, Y.1))

-- ---- the difference of two logs
-- a and b are sizes in units, at places x and y
apart_most : (s t : Bool) (a b : ℕ) → b < origin → place s a ≤ origin + a → place s a ≤ place t b + (a + b)
unfolding place
apart_most s true a b h l = omega arith
apart_most s false a b h l = omega arith

place_most : (s : Bool) (a : ℕ) → place s a ≤ origin + a
unfolding place
place_most true a = omega arith
place_most false a = omega arith

zero_place : place true 0 ≡ origin
unfolding place
zero_place = omega arith

-- the difference is at most the sum of the sizes, and so twice the larger one
module _ (n : ℕ) (x y : Float) (some : 0 < n) (p : Number x) (q : Number y) (f : in_log_range n x ≡ true) (g : in_log_range n y ≡ true)
    (l : position y ≤ position x) where
  apart : position x ≤ position y + (magnitude x + magnitude y)
  unfolding position
  apart = apart_most (negative x) (negative y) (magnitude x) (magnitude y) (mag_lt y q) (place_most (negative x) (magnitude x))

  -- d units rounded are in range, if twice the size of z, one of the logs, is no less
  under_twice : (z : Float) → Number z → in_log_range n z ≡ true → (d : ℕ) → d ≤ 2 * magnitude z → in_range n (round binary64 false d units_per_one) ≡ true
  under_twice z c h d m =
      let a : n * (2 * magnitude z) < 2 ^ 48 * units_per_one = omega (arith, log_size n z h) in
      let b : 1 * (2 * magnitude z) ≤ n * (2 * magnitude z) = mul-le-mul_right (2 * magnitude z) some in
      let r = round binary64 false d units_per_one in
      let R = rounded_between d (2 * magnitude z) m (twice_value z c (omega arith)) in
      let k : position r ≡ origin + magnitude r = not_below_key r (key_not_below r R.0 R.1) in
      let s : n * magnitude r ≤ n * (2 * magnitude z) = mul-le-mul_left n (let i : magnitude r ≤ 2 * magnitude z = omega (arith, R.2) in i) in
      number_fits n r R.0 R.1 (lt_of_le_of_lt s a)

  exact_difference : (d : ℕ) → d ≤ magnitude x + magnitude y → in_range n (round binary64 false d units_per_one) ≡ true
  exact_difference d h = elim (dec_le (magnitude y) (magnitude x)) [
    | yes m ↦ under_twice x p f d (omega arith)
    | no m ↦ under_twice y q g d (let i = lt_of_not-le m in omega arith)
  ]

  rounded_difference : {r : Float} → (R : Rounds r (position x + position (neg y))) → in_range n r ≡ true
  rounded_difference {r} R = go R.sign R.total R.exact R.rounds
    where
      turned : position (neg y) + position y ≡ origin + origin
      turned = key_neg y q

      minus_zero_lem : in_range n (round binary64 true 0 units_per_one) ≡ true
      minus_zero_lem =
          let z = round binary64 true 0 units_per_one in
          let v = zero_value true in
          let Z = made z true 0 (round-fits binary64 true 0 units_per_one) v in
          let m : magnitude z ≡ 0 = mag_of_value z true 0 v in
          let k : position z ≡ origin = Z.1 ∙ zero_place in
          number_fits n z Z.0 (omega arith) (rw m (rw (mul-zero n) (mul-pos (pow_pos 48) units_pos)))

      go : (s : Bool) (d : ℕ) → Exactly s d (position x + position (neg y)) → r ≡ round binary64 s d units_per_one → in_range n r ≡ true
      go false d e h = ap (in_range n) h ∙ exact_difference d (omega (arith, apart, turned))
      go true d e h = ap (in_range n) h ∙ ap (λ (i : ℕ). in_range n (round binary64 true i units_per_one)) (let z : d ≡ 0 = omega (arith, turned) in z) ∙ minus_zero_lem

  -- the match accepts a cost that the builders make: the largest log of a column minus another
  pub sub_below : in_range n (sub binary64 x y) ≡ true
  unfolding sub
  sub_below = rounded_difference (add_rounds x (neg y) p (number_neg y q))

-- ---- whole numbers
pub whole_fits : (n c : ℕ) (x : Float) → Whole x (pos c) → n * c < 2 ^ 48 → in_range n x ≡ true
whole_fits n c x w h =
    let k : position x ≡ origin + c * units_per_one = let e = whole_key x (pos c) w in omega arith in
    let p : Number x = number_whole x (pos c) w in
    let m : position x ≡ origin + magnitude x = not_below_key x (key_not_below x p (omega arith)) in
    let s : magnitude x ≡ c * units_per_one = omega arith in
    number_fits n x p (omega arith) (rw s (lt_of_le_of_lt (le_of_eq (sym (mul_assoc n c units_per_one))) (mul-lt-mul_of_pos_right h units_pos)))

-- a whole number up to 2 ^ 53, as a double
pub natural_whole : (c : ℕ) → c ≤ 2 ^ 53 → Whole (of_int binary64 (pos c)) (pos c)
unfolding of_int
natural_whole c h = standing (of_int binary64 (pos c)) (of_int-fits binary64 (pos c)) (round_whole binary64 false c h)
  where
    standing : (x : Float) → T (fits binary64 x) → HasValue x false c 1 → Whole x (pos c)
    standing nan f v = absurd v
    standing (inf s) f v = absurd v
    standing (fin s m e) f v = record { double = f; is_finite = tt; value = rw v.0 (ap pos (sym (mul-one (m * up e)) ∙ v.1)) }

-- the product without a product: 64 digits hold both sides
pub whole_quotient : (n c : ℕ) → 0 < n → ltb (n * c) (2 ^ 48) ≡ leb c ((2 ^ 48 - 1) / n)
whole_quotient n c some =
    same_test (ltb (n * c) (2 ^ 48)) (leb c ((2 ^ 48 - 1) / n))
    (λ t. let h : n * c < 2 ^ 48 = ltb→lt (n * c) (2 ^ 48) t in le→leb c ((2 ^ 48 - 1) / n) ((le-div_iff_mul-le some).1 (omega arith)))
    (λ t. let h : c * n ≤ 2 ^ 48 - 1 = (le-div_iff_mul-le some).0 (leb→le c ((2 ^ 48 - 1) / n) t) in lt→ltb (n * c) (2 ^ 48) (omega arith))
