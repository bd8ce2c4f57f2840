-- From sizes to doubles: where a limit bounds the sizes (`Bound`), comparisons with it are the test of a cost (`cost_limit_lem`) and of a log
-- (`log_limit`), for every double.
-- The order of doubles is that of their keys, so each case is one of natural numbers.
use mathlib.Core.Path.{◌≡◌, refl, sym, ap, ap₂, ◌∙◌}
use mathlib.Core.Bool.{Bool, true, false, not, cond, ◌&&◌, ◌||◌}
use Prim.Native.Nat.{ℕ, ◌+◌, ◌-◌, ◌*◌, ◌^◌, ◌<◌}
use native.Mathlib.Omega.{arith}
use borrow.Author.Tests.{ltb-true, ltb-false}
use lib.Dec.{T, leb, ltb, eqb, ltb→lt, lt→ltb, leb→le, le→leb, eqb→eq}
use lib.IntN.{pos}
use lib.Ieee.{Float, nan, inf, fin, binary64, of_bits, fits, is_nan, neg, lt, le, eq}
use lib.Ieee.Fits.{neg-fits, and_i, and_l, and_r, eq→eqb}
use Rattle.float64.specs.Number.{Number, negative, units_per_one, origin, magnitude}
use Rattle.float64.specs.inner.Keys.{Ordered, place, position}
use Rattle.float64.specs.Constants.{zero as fzero}
use Rattle.float64.specs.Functions.{size_of}
use Rattle.float64.proofs.Scale.{mag_lt}
use Rattle.float64.proofs.Order.{lt_key, le_key}
use Rattle.float64.proofs.Constants.{zero_whole}
use Rattle.float64.proofs.WholeNumbers.{ordered, number_whole}
use Rattle.slices.proofs.Bools.{same_test}
use Rattle.cost_limit.specs.Range.{times_below, not_below, in_range, in_log_range}
use Rattle.cost_limit.specs.inner.Limits.{CostLimit, LogLimit}
use Rattle.cost_limit.specs.inner.Steps.{Bound}

zero_number : Number fzero
zero_number = number_whole fzero (pos 0) zero_whole

zero_place : position fzero ≡ origin
unfolding position place magnitude of_bits origin units_per_one
zero_place = refl

-- ---- sizes, and their places
cost_places : (s : Bool) (a l : ℕ) → a < origin → (leb origin (place s a) && ltb (place s a) (origin + l)) ≡ (ltb a l && (not s || eqb a 0))
unfolding place
cost_places false a l h =
    same_test (leb origin (origin + a) && ltb (origin + a) (origin + l)) (ltb a l && true)
    (λ t. let g : origin + a < origin + l = ltb→lt (origin + a) (origin + l) (and_r (leb origin (origin + a)) (ltb (origin + a) (origin + l)) t) in
    and_i (ltb a l) true (lt→ltb a l (omega arith)) tt)
    (λ t. let g : a < l = ltb→lt a l (and_l (ltb a l) true t) in
    and_i (leb origin (origin + a)) (ltb (origin + a) (origin + l)) (le→leb origin (origin + a) (omega arith)) (lt→ltb (origin + a) (origin + l) (omega arith)))
cost_places true a l h =
    same_test (leb origin (origin - a) && ltb (origin - a) (origin + l)) (ltb a l && eqb a 0)
    (λ t. let g = leb→le origin (origin - a) (and_l (leb origin (origin - a)) (ltb (origin - a) (origin + l)) t) in let u =
    ltb→lt (origin - a) (origin + l) (and_r (leb origin (origin - a)) (ltb (origin - a) (origin + l)) t) in
    and_i (ltb a l) (eqb a 0) (lt→ltb a l (omega arith)) (eq→eqb {a = a} {b = 0} (omega arith)))
    (λ t. let g = ltb→lt a l (and_l (ltb a l) (eqb a 0) t) in let z = eqb→eq a 0 (and_r (ltb a l) (eqb a 0) t) in
    and_i (leb origin (origin - a)) (ltb (origin - a) (origin + l)) (le→leb origin (origin - a) (omega arith)) (lt→ltb (origin - a) (origin + l) (omega arith)))

-- what is below the place of zero is negative; what is not lies its size above it
low_sign : (s : Bool) (a : ℕ) → ltb (place s a) origin ≡ true → s ≡ true
unfolding place
low_sign true a h = refl
low_sign false a h = let g = ltb-true (origin + a) origin h in let y : ⊥ = omega arith in absurd y

high_place : (s : Bool) (a : ℕ) → a < origin → ltb (place s a) origin ≡ false → place s a ≡ origin + a
unfolding place
high_place false a l h = refl
high_place true a l h = let g = ltb-false (origin - a) origin h in omega arith

log_places : (a l : ℕ) → ltb (origin + a) (origin + l) ≡ ltb a l
log_places a l =
    same_test (ltb (origin + a) (origin + l)) (ltb a l)
    (λ t. let g = ltb→lt (origin + a) (origin + l) t in lt→ltb a l (omega arith))
    (λ t. let g = ltb→lt a l t in lt→ltb (origin + a) (origin + l) (omega arith))

-- ---- what is compared is no NaN and no infinity, or the comparison fails
not_over : (y : Float) → lt (inf false) y ≡ false
unfolding lt
not_over nan = refl
not_over (inf t) = refl
not_over (fin t n d) = refl

-- ---- the limit, and the size of a number
limit_place : (y : Float) → negative y ≡ false → position y ≡ origin + magnitude y
unfolding position place
limit_place y s = rw s refl

negated_place : (x : Float) → Number x → negative x ≡ true → position (neg x) ≡ origin + magnitude x
unfolding position place neg magnitude
negated_place nan p s = absurd p.is_finite
negated_place (inf b) p s = absurd p.is_finite
negated_place (fin b m e) p s = rw s refl

negated_ordered : (y : Float) → Ordered y → Ordered (neg y)
unfolding neg is_nan
negated_ordered nan o = absurd o.not_nan
negated_ordered (inf b) o = record { double = neg-fits binary64 (inf b) o.double; not_nan = tt }
negated_ordered (fin b m e) o = record { double = neg-fits binary64 (fin b m e) o.double; not_nan = tt }

chosen_ordered : (x : Float) → Number x → (b : Bool) → Ordered (cond b (neg x) x)
chosen_ordered x p true = negated_ordered x (ordered x p)
chosen_ordered x p false = ordered x p

chosen_place : (x : Float) → Number x → (b : Bool) → ltb (position x) origin ≡ b → position (cond b (neg x) x) ≡ origin + magnitude x
unfolding position
chosen_place x p true h = negated_place x p (low_sign (negative x) (magnitude x) h)
chosen_place x p false h = high_place (negative x) (magnitude x) (mag_lt x p) h

size_ordered : (x : Float) → Number x → Ordered (size_of x)
unfolding size_of
size_ordered x p = chosen_ordered x p (lt x fzero)

size_place : (x : Float) → Number x → position (size_of x) ≡ origin + magnitude x
unfolding size_of
size_place x p = chosen_place x p (lt x fzero) (sym (lt_key x fzero (ordered x p) (ordered fzero zero_number) ∙ ap (λ (k : ℕ). ltb (position x) k) zero_place))

-- ---- the test of a cost
module _ {n : ℕ} {limit : Float} (B : Bound 48 n limit) where
  cost_number : (c : Float) → Number c → (le fzero c && lt c limit) ≡ (ltb (n * magnitude c) (2 ^ 48 * units_per_one) && not_below c)
  unfolding position not_below
  cost_number c p =
      ap₂ (λ (v w : Bool). v && w)
      (le_key fzero c (ordered fzero zero_number) (ordered c p) ∙ ap (λ (k : ℕ). leb k (position c)) zero_place)
      (lt_key c limit (ordered c p) B.ordered ∙ ap (λ (k : ℕ). ltb (position c) k) (limit_place limit B.sign))
      ∙ cost_places (negative c) (magnitude c) (magnitude limit) (mag_lt c p)
      ∙ ap (λ (b : Bool). b && (not (negative c) || eqb (magnitude c) 0)) (B.same c p)

  cost_test : (c : Float) → T (fits binary64 c) → (le fzero c && lt c limit) ≡ in_range n c
  unfolding in_range times_below le lt eq of_bits
  cost_test nan f = refl
  cost_test (inf true) f = refl
  cost_test (inf false) f = not_over limit
  cost_test (fin s m e) f = cost_number (fin s m e) (record { double = f; is_finite = tt })

  pub cost_limit_lem : CostLimit n limit
  cost_limit_lem = record { exact = cost_test }

-- ---- the test of a log
module _ {n : ℕ} {limit : Float} (B : Bound 47 n limit) where
  log_number : (x : Float) → Number x → lt (size_of x) limit ≡ ltb (n * magnitude x) (2 ^ 47 * units_per_one)
  log_number x p =
      lt_key (size_of x) limit (size_ordered x p) B.ordered
      ∙ ap₂ (λ (v w : ℕ). ltb v w) (size_place x p) (limit_place limit B.sign)
      ∙ log_places (magnitude x) (magnitude limit)
      ∙ B.same x p

  log_test : (x : Float) → T (fits binary64 x) → lt (size_of x) limit ≡ in_log_range n x
  unfolding in_log_range times_below size_of lt neg of_bits
  log_test nan f = refl
  log_test (inf true) f = not_over limit
  log_test (inf false) f = not_over limit
  log_test (fin s m e) f = log_number (fin s m e) (record { double = f; is_finite = tt })

  pub log_limit : LogLimit n limit
  log_limit = record { exact = log_test }
