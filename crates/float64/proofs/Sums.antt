-- A sum of finite doubles is the exact sum in units, rounded once: off by at most half a unit in the last place, and exact where the exact sum is a
-- whole number up to 2 ^ 53.
-- Both summands are brought over the unit's denominator, where `lib.Ieee.sum` takes their sizes in units.
use mathlib.Core.Path.{◌≡◌, refl, sym, ap, ap₂, ◌∙◌, subst}
use mathlib.Core.Logic.{◌⊎◌, inl, inr}
use mathlib.Core.Bool.{Bool, true, false, not, ◌&&◌, beq, cond}
use Prim.Native.Nat.{ℕ, zero, suc, ◌+◌, ◌-◌, ◌*◌, ◌/◌, ◌%◌, ◌^◌, ◌≤◌, ◌<◌, compare, Ordering}
use native.Mathlib.Nat.{le_trans, le_of_eq, le_refl, lt_of_le_of_lt, eq-or-lt_of_le, mul_assoc, mul_comm, one-mul, add-mul, mul-sub}
use native.Mathlib.Nat.{zero-mul, mul-pos, mul-le-mul_right, mul-div_cancel, div-add-mod', mod-lt, suc-mul}
use native.Mathlib.Omega.{arith}
use lib.Dec.{T, ltb, leb→le, ltb→lt, nltb→le, is_le, compare_is_eq, nleb→lt, eqb→eq, lit<, lit≤}
use lib.Pow.{pow-add, pow_pos, pow_mono, pow-lt}
use lib.Ieee.{Float, nan, inf, fin, binary64, up, down, size, nearest, units, round, sum, add, sub, neg, fits}
use lib.Ieee.Digits.{size-le}
use lib.Ieee.Fits.{kept-lt, nearest-le, down_pos, round-fits, round_is, core, neg-fits}
use lib.Ieee.Exact.{HasValue, units_val, round_exact}
use lib.Ieee.Nearest.{closest, closest_same}
use lib.Ieee.Scale.{round_same}
use Rattle.float64.specs.Number.{Number, negative, units_per_one, origin, magnitude}
use Rattle.float64.specs.inner.Keys.{place, position}
use Rattle.float64.specs.inner.Arithmetic.{Apart, NearArithmetic}
use Rattle.float64.proofs.Scale.{units_pos, mag_lt, mag_of_value, sign_of_value, finite_of_value}
use Rattle.float64.proofs.Order.{scaled_lt, left_over, right_over}

sub_mul : (a b u : ℕ) → (a - b) * u ≡ a * u - b * u
sub_mul a b u = mul_comm (a - b) u ∙ mul-sub u a b ∙ ap₂ (λ (v w : ℕ). v - w) (mul_comm u a) (mul_comm u b)

-- ---- `sum` sees only the values of its two fractions: a / c and b / c are x / u and y / u
module _ (u c : ℕ) (U : 0 < u) (C : 0 < c) where
  less : (a b x y : ℕ) → a * u ≡ x * c → b * u ≡ y * c → (a - b) * u ≡ (x - y) * c
  less a b x y e f = sub_mul a b u ∙ ap₂ (λ (v w : ℕ). v - w) e f ∙ sym (sub_mul x y c)

  sum_same : (s t : Bool) (a b x y : ℕ) → a * u ≡ x * c → b * u ≡ y * c → sum binary64 s a t b c ≡ sum binary64 s x t y u
  unfolding sum
  sum_same s t a b x y e f =
      ap₂ (λ (v w : Float). cond (beq s t) v w)
      (round_same binary64 s (a + b) c (x + y) u C U (add-mul a b u ∙ ap₂ (λ (v w : ℕ). v + w) e f ∙ sym (add-mul x y c)))
      (ap₂ (λ (v w : Float). cond (ltb a b) v w) (round_same binary64 t (b - a) c (y - x) u C U (less b a y x f e))
      (round_same binary64 (s && ltb b a) (a - b) c (x - y) u C U (less a b x y e f))
      ∙ ap₂ (λ (p q : Bool). cond p (round binary64 t (y - x) u) (round binary64 (s && q) (x - y) u)) (scaled_lt u c U C a b x y e f)
      (scaled_lt u c U C b a y x f e))

pub add_units : (x y : Float) → Number x → Number y → add binary64 x y ≡ sum binary64 (negative x) (magnitude x) (negative y) (magnitude y) units_per_one
unfolding add
add_units nan y p q = absurd p.is_finite
add_units (inf s) y p q = absurd p.is_finite
add_units (fin s m e) nan p q = absurd q.is_finite
add_units (fin s m e) (inf t) p q = absurd q.is_finite
add_units (fin s m e) (fin t n d) p q =
    sum_same units_per_one (down e * down d) units_pos (mul-pos (down_pos e) (down_pos d)) s t (m * up e * down d) (n * up d * down e) (magnitude (fin s m e))
    (magnitude (fin t n d))
    (left_over s m e t n d p.double q.double) (right_over s m e t n d p.double q.double)

-- ---- the exact sum: its size n in units and its sign, from the two keys' sum k
abbrev pub Exactly : Bool → ℕ → ℕ → Type 0
Exactly true n k = k + n ≡ origin + origin
Exactly false n k = k ≡ origin + origin + n

-- a sum rounds the exact sum of its two sizes, with its sign
pub record Rounds (r : Float) (k : ℕ) : Type 0 where
  pub sign : Bool
  pub total : ℕ
  pub exact : Exactly sign total k
  pub rounds : r ≡ round binary64 sign total units_per_one

sum_rounds : (s t : Bool) (x y : ℕ) → x < origin → y < origin → Rounds (sum binary64 s x t y units_per_one) (place s x + place t y)
unfolding sum place
sum_rounds true true x y h k = record { sign = true; total = x + y; exact = omega arith; rounds = refl }
sum_rounds false false x y h k = record { sign = false; total = x + y; exact = omega arith; rounds = refl }
sum_rounds true false x y h k = go (ltb x y) (ltb→lt x y) (nltb→le x y) (ltb y x) (ltb→lt y x) (nltb→le y x)
  where
    go : (b : Bool) → (T b → x < y) → (T (not b) → y ≤ x) → (d : Bool) → (T d → y < x) → (T (not d) → x ≤ y)
        → Rounds (cond b (round binary64 false (y - x) units_per_one) (round binary64 d (x - y) units_per_one)) (origin - x + (origin + y))
    go true f g d f' g' = record { sign = false; total = y - x; exact = omega (arith, f tt); rounds = refl }
    go false f g true f' g' = record { sign = true; total = x - y; exact = omega (arith, g tt); rounds = refl }
    go false f g false f' g' = record { sign = false; total = x - y; exact = omega (arith, g tt, g' tt); rounds = refl }
sum_rounds false true x y h k = go (ltb x y) (ltb→lt x y) (nltb→le x y)
  where
    go : (b : Bool) → (T b → x < y) → (T (not b) → y ≤ x)
        → Rounds (cond b (round binary64 true (y - x) units_per_one) (round binary64 false (x - y) units_per_one)) (origin + x + (origin - y))
    go true f g = record { sign = true; total = y - x; exact = omega (arith, f tt); rounds = refl }
    go false f g = record { sign = false; total = x - y; exact = omega (arith, g tt); rounds = refl }

pub add_rounds : (x y : Float) → Number x → Number y → Rounds (add binary64 x y) (position x + position y)
unfolding position
add_rounds x y p q = rw (add_units x y p q) (sum_rounds (negative x) (negative y) (magnitude x) (magnitude y) (mag_lt x p) (mag_lt y q))

-- ---- rounding a size in units
-- a / b to the nearest whole number is off by at most a half: q is the quotient, r the remainder
module _ (a b q r : ℕ) (whole : q * b + r ≡ a) (small : r < b) where
  tie : (t : ℕ) → t < 2 → r * 2 ≡ b → Apart b (2 * ((q + t) * b)) (2 * a)
  tie zero h e = rw (add-mul, zero-mul) (record { above = omega arith; under = omega arith })
  tie (suc zero) h e = rw (add-mul, one-mul) (record { above = omega arith; under = omega arith })
  tie (suc (suc t)) h e = let z : ⊥ = omega arith in absurd z

  nearest_near : (o : Ordering) → (T (is_le o) → r * 2 ≤ b) → (T (not (is_le o)) → b < r * 2) → (T (compare_is_eq o) → r * 2 ≡ b) → Apart b (2 * (nearest q o * b)) (2 * a)
  nearest_near Ordering.lt f g h = record { above = omega (arith, f tt); under = omega (arith, f tt) }
  nearest_near Ordering.eq f g h = tie (q % 2) (mod-lt q (lit≤ tt)) (h tt)
  nearest_near Ordering.gt f g h = rw (suc-mul q b) (record { above = omega (arith, g tt); under = omega (arith, g tt) })

closest_near : (a b : ℕ) → 0 < b → Apart b (2 * (closest a b * b)) (2 * a)
closest_near a b B = nearest_near a b (a / b) (a % b) (div-add-mod' a b) (mod-lt a B) (compare (a % b * 2) b) (leb→le (a % b * 2) b)
    (nleb→lt (a % b * 2) b) (eqb→eq (a % b * 2) b)

-- n units, rounded: of the size `about`, which is at most half a unit in the last place off
record Rounded (r : Float) (s : Bool) (n g : ℕ) : Type 0 where
  about : ℕ
  value : HasValue r s about units_per_one
  near : Apart (2 ^ g) (2 * about) (2 * n)
  most : about ≤ 2 ^ (53 + g)

wider : (l m a b : ℕ) → l ≤ m → Apart l a b → Apart m a b
wider l m a b h p = record { above = omega (arith, p.above); under = omega (arith, p.under) }

-- digits are dropped only past the 53rd
fewer : (z g : ℕ) → z ≤ 53 + g → z - 53 ≤ g
fewer z g h = omega arith

more : (a b c : ℕ) → b ≤ c → a + b ≤ a + c
more a b c h = omega arith

in_reach : (g : ℕ) → g ≤ 1074 → 2 ^ (53 + g) < 2 ^ 2098
in_reach g h = let l : 53 + g < 2098 = omega arith in pow-lt {j = 2098} l

kept_most : (n k g : ℕ) → k ≡ size n - 53 → k ≤ g → closest n (2 ^ k) * 2 ^ k ≤ 2 ^ (53 + g)
kept_most n k g e h =
    le_trans
    (mul-le-mul_right (2 ^ k)
    (le_trans (nearest-le (n / 2 ^ k) (compare (n % 2 ^ k * 2) (2 ^ k))) (subst (λ (x : ℕ). n / 2 ^ x < 2 ^ 53) (sym e) (kept-lt 53 n))))
    (le_trans (le_of_eq (sym (pow-add 2 53 k))) (pow_mono (more 53 k g h)))

-- `round` of n units as `units` of the digits kept
round_units : (s : Bool) (n k : ℕ) → k ≡ size n - 53 → round binary64 s n units_per_one ≡ units binary64 s (closest n (2 ^ k)) k
unfolding units_per_one
round_units s n k e =
    round_is binary64 s n (2 ^ 1074)
    ∙ ap (λ (x : ℕ). core binary64 s (n * 2 ^ 1074) (2 ^ 1074) x) (ap (λ (x : ℕ). size x - 53) (mul-div_cancel n (pow_pos 1074)) ∙ sym e)
    ∙ ap (λ (x : ℕ). units binary64 s x k)
    (closest_same (n * 2 ^ 1074) (2 ^ 1074 * 2 ^ k) n (2 ^ k) (mul-pos (pow_pos 1074) (pow_pos k)) (pow_pos k) (mul_assoc n (2 ^ 1074) (2 ^ k)))

few_digits : (s : Bool) (n g : ℕ) → g ≤ 1074 → n < 2 ^ (53 + g) → Rounded (round binary64 s n units_per_one) s n g
unfolding units_per_one
few_digits s n g h l =
    let k = size n - 53 in
    let j : k ≤ g = fewer (size n) g (size-le n (53 + g) l) in
    let m : closest n (2 ^ k) * 2 ^ k ≤ 2 ^ (53 + g) = kept_most n k g refl j in
    record {
      about = closest n (2 ^ k) * 2 ^ k;
      value = subst (λ (x : Float). HasValue x s (closest n (2 ^ k) * 2 ^ k) units_per_one) (sym (round_units s n k refl))
          (units_val binary64 s (closest n (2 ^ k)) k (lt_of_le_of_lt m (in_reach g h)));
      near = wider (2 ^ k) (2 ^ g) (2 * (closest n (2 ^ k) * 2 ^ k)) (2 * n) (pow_mono j) (closest_near n (2 ^ k) (pow_pos k));
      most = m;
    }

same_size : (l n : ℕ) → Apart l (2 * n) (2 * n)
same_size l n = record { above = omega arith; under = omega arith }

power : (s : Bool) (g : ℕ) → g ≤ 1074 → Rounded (round binary64 s (2 ^ (53 + g)) units_per_one) s (2 ^ (53 + g)) g
unfolding units_per_one
power s g h = record {
  about = 2 ^ (53 + g);
  value = round_exact binary64 s (2 ^ (53 + g)) units_per_one 1 (53 + g) units_pos (lit< tt)
      (subst (λ (x : ℕ). x < 2 ^ 2098) (sym (one-mul (2 ^ (53 + g)))) (in_reach g h)) (ap (λ (x : ℕ). x * units_per_one) (sym (one-mul (2 ^ (53 + g)))));
  near = same_size (2 ^ g) (2 ^ (53 + g));
  most = le_refl (2 ^ (53 + g));
}

round_near : (s : Bool) (n g : ℕ) → g ≤ 1074 → n ≤ 2 ^ (53 + g) → Rounded (round binary64 s n units_per_one) s n g
round_near s n g h l = go (eq-or-lt_of_le l)
  where
    go : (n ≡ 2 ^ (53 + g)) ⊎ (n < 2 ^ (53 + g)) → Rounded (round binary64 s n units_per_one) s n g
    go (inl e) = subst (λ (x : ℕ). Rounded (round binary64 s x units_per_one) s x g) (sym e) (power s g h)
    go (inr k) = few_digits s n g h k

-- ---- the laws of finite doubles
pub made : (r : Float) (s : Bool) (a : ℕ) → T (fits binary64 r) → HasValue r s a units_per_one → Number r × (position r ≡ place s a)
unfolding position
made r s a f v = (
  record { double = f; is_finite = finite_of_value r s a units_per_one v },
  ap₂ (λ (t : Bool) (n : ℕ). place t n)
      (sign_of_value r s a units_per_one v) (mag_of_value r s a v),
)

-- what is left of the exact place once the rounded size replaces the exact one
placed : (s : Bool) (a n k e : ℕ) → Exactly s n k → Apart e (2 * a) (2 * n) → a < origin → Apart e (2 * (place s a + origin)) (2 * k)
unfolding place
placed true a n k e x p h = record { above = omega (arith, p.above, p.under); under = omega (arith, p.above, p.under) }
placed false a n k e x p h = record { above = omega (arith, p.above, p.under); under = omega (arith, p.above, p.under) }

total_most : (s : Bool) (n k l : ℕ) → Exactly s n k → Apart l k (origin + origin) → n ≤ l
total_most true n k l x p = omega (arith, p.under)
total_most false n k l x p = omega (arith, p.above)

below_mid : (g : ℕ) → g ≤ 1074 → 2 ^ (53 + g) < origin
unfolding origin
below_mid g h = in_reach g h

near_sum : (g : ℕ) → g ≤ 1074 → (r : Float) (k : ℕ) → Rounds r k → Apart (2 ^ (53 + g)) k (origin + origin) → Number r
    × Apart (2 ^ g) (2 * (position r + origin)) (2 * k)
near_sum g h r k e p =
    let w : Rounded (round binary64 e.sign e.total units_per_one) e.sign e.total g =
    round_near e.sign e.total g h (total_most e.sign e.total k (2 ^ (53 + g)) e.exact p) in
    rw e.rounds
    (let m : Number (round binary64 e.sign e.total units_per_one)
    × (position (round binary64 e.sign e.total units_per_one) ≡ place e.sign w.about) =
    made (round binary64 e.sign e.total units_per_one) e.sign w.about (round-fits binary64 e.sign e.total units_per_one) w.value in
    (m.0, rw m.1 (placed e.sign w.about e.total k (2 ^ g) e.exact w.near (lt_of_le_of_lt w.most (below_mid g h)))))

-- a difference is a sum with the negated double, whose position is as far on the other side of origin
pub number_neg : (y : Float) → Number y → Number (neg y)
unfolding neg
number_neg nan n = n
number_neg (inf s) n = absurd n.is_finite
number_neg (fin s m e) n = record { double = neg-fits binary64 (fin s m e) n.double; is_finite = tt }

pub key_neg : (y : Float) → Number y → position (neg y) + position y ≡ origin + origin
unfolding neg position magnitude
key_neg nan n = absurd n.is_finite
key_neg (inf s) n = absurd n.is_finite
key_neg (fin s m e) n = go s (m * up e * units_per_one / down e) (mag_lt (fin s m e) n)
  where
    go : (s : Bool) (a : ℕ) → a < origin → place (not s) a + place s a ≡ origin + origin
    go true a h = omega arith
    go false a h = omega arith

-- twice the sum with the negation, moved by what the two keys of y make
pub moved : (l y y' x : ℕ) → y' + y ≡ origin + origin → Apart l x y → Apart l (x + y') (origin + origin)
moved l y y' x h p = record { above = omega (arith, p.above); under = omega (arith, p.under) }

pub moved_back : (e y y' x r : ℕ) → y' + y ≡ origin + origin → Apart e (2 * (r + origin)) (2 * (x + y')) → Apart e (2 * (r + y)) (2 * (x + origin))
moved_back e y y' x r h p = record { above = omega (arith, p.above); under = omega (arith, p.under) }

module _ (g : ℕ) (h : g ≤ 1074) where
  near_plus : (x y : Float) → Number x → Number y → Apart (2 ^ (53 + g)) (position x + position y) (origin + origin) → Number (add binary64 x y)
      × Apart (2 ^ g) (2 * (position (add binary64 x y) + origin)) (2 * (position x + position y))
  near_plus x y p q a = near_sum g h (add binary64 x y) (position x + position y) (add_rounds x y p q) a

  near_minus : (x y : Float) → Number x → Number y → Apart (2 ^ (53 + g)) (position x) (position y) → Number (sub binary64 x y)
      × Apart (2 ^ g) (2 * (position (sub binary64 x y) + position y)) (2 * (position x + origin))
  unfolding sub
  near_minus x y p q a =
      let w : Number (add binary64 x (neg y)) × Apart (2 ^ g) (2 * (position (add binary64 x (neg y)) + origin)) (2 * (position x + position (neg y))) =
      near_plus x (neg y) p (number_neg y q) (moved (2 ^ (53 + g)) (position y) (position (neg y)) (position x) (key_neg y q) a) in
      (w.0, moved_back (2 ^ g) (position y) (position (neg y)) (position x) (position (add binary64 x (neg y))) (key_neg y q) w.1)

  pub near_arithmetic : NearArithmetic g
  near_arithmetic = record {
    number = λ x n. n;
    plus = λ x y p q a. (near_plus x y p q a).0;
    plus_near = λ x y p q a. (near_plus x y p q a).1;
    minus = λ x y p q a. (near_minus x y p q a).0;
    minus_near = λ x y p q a. (near_minus x y p q a).1;
  }
