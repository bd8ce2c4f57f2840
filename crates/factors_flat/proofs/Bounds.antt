-- Every factor lies between -709 and 709: sums of finite doubles are no NaN, the largest is one of them, and what is held compares.
use mathlib.Core.Path.{◌≡◌, refl, sym, ap, ◌∙◌, subst}
use mathlib.Core.Bool.{Bool, true, false, not, cond, ◌&&◌, ◌||◌, beq, true≢false}
use mathlib.Core.List.{List, [], ◌∷◌, ◌++◌, append-nil}
use mathlib.Core.Logic.{⊎_elim}
use Prim.Native.Nat.{ℕ, zero, suc, ◌+◌, ◌-◌, ◌*◌, ◌^◌, ◌≤◌, ◌<◌}
use native.Mathlib.Nat.{not-suc-le-zero, le_refl}
use native.Mathlib.Omega.{arith}
use borrow.Author.Tests.{le-leb, ltb-false}
use lib.Dec.{T, leb, ltb}
use lib.Ieee.{Float, nan, inf, fin, binary64, fits, is_nan, add, sum, round, units, odd, prec, emax, low, up, down, neg, lt, le, eq, of_bits}
use lib.Ieee.Fits.{round_is, add-fits, neg-fits, div-fits}
use lib.Ieee.Scale.{finite}
use lib.ListN.{length, get_or, get_or-append}
use Rattle.refusal.specs.Refusal.{cost_range}
use Rattle.float64.specs.Constants as Constants
use Rattle.float64.specs.Functions.{clamp_log}
use Rattle.float64.specs.inner.Keys.{Ordered, position}
use Rattle.float64.proofs.Order.{lt_key, le_key}
use Rattle.slices.specs.Lists.{keep}
use Rattle.slices.proofs.Bools.{both}
use Rattle.slices.proofs.Lists.{get_d_last, last_or}
use Rattle.cost_limit.specs.Range.{times_below, in_log_range}
use Rattle.sparse.proofs.First.{or-zero, unless_holds, all_zero}
use Rattle.sparse.specs.Matrix.{Matrix}
use Rattle.matching.specs.Match.{Match}
use Rattle.mc64_columns.specs.Columns.{largest_from}
use Rattle.mc64_symmetric.specs.Graph.{kept, touches, places_to, other_end}
use Rattle.mc64_symmetric.specs.Call.{value_fault, log_fault, place_fault, values_fault}
use Rattle.factors_mc64.specs.Factors.{matched_both, argument, log_factor, factor_at}
use Rattle.factors_flat.specs.Flat.{Input, columns, is_matched, alone, sum_at, sums_over, sums_of, flattened}
use Rattle.factors_flat.specs.Call.{Within}
use Rattle.factors_flat.specs.inner.Steps.{sums_to}
use Rattle.factors_flat.proofs.Sums.{sums_more}

-- ---- held
not_above : (a b : ℕ) → ltb a b ≡ false → leb b a ≡ true
not_above a b e = le-leb b a (let h = ltb-false a b e in omega arith)

low_ordered : Ordered Constants.minus_log_huge
unfolding of_bits fits is_nan
low_ordered = record { double = tt; not_nan = tt }

high_ordered : Ordered Constants.log_huge
unfolding of_bits fits is_nan
high_ordered = record { double = tt; not_nan = tt }

low_within : Within Constants.minus_log_huge
unfolding of_bits le lt eq
low_within = (refl, refl)

high_within : Within Constants.log_huge
unfolding of_bits le lt eq
high_within = (refl, refl)

pub zero_within : Within Constants.zero
unfolding of_bits le lt eq
zero_within = (refl, refl)

pub clamp_within : (x : Float) → Ordered x → Within (clamp_log x)
unfolding clamp_log
clamp_within x o = go (lt x Constants.minus_log_huge) refl (lt Constants.log_huge x) refl
  where
    go : (a : Bool) → lt x Constants.minus_log_huge ≡ a → (b : Bool) → lt Constants.log_huge x ≡ b
        → Within (cond a Constants.minus_log_huge (cond b Constants.log_huge x))
    go true e b f = low_within
    go false e true f = high_within
    go false e false f = (
      le_key Constants.minus_log_huge x low_ordered o ∙ not_above (position x) (position Constants.minus_log_huge)
          (sym (lt_key x Constants.minus_log_huge o low_ordered) ∙ e),
      le_key x Constants.log_huge o high_ordered ∙ not_above (position Constants.log_huge) (position x) (sym (lt_key Constants.log_huge x high_ordered o) ∙ f),
    )

-- ---- sums of finite doubles
odd_number : (d : ℕ) (s : Bool) (q k l : ℕ) → is_nan (odd d s q k l) ≡ false
unfolding odd is_nan
odd_number d s zero k l = refl
odd_number d s (suc q) k l = refl

or_infinity : (b s : Bool) (x : Float) → is_nan x ≡ false → is_nan (cond b x (inf s)) ≡ false
unfolding is_nan
or_infinity true s x e = e
or_infinity false s x e = refl

units_number : (s : Bool) (q k : ℕ) → is_nan (units binary64 s q k) ≡ false
unfolding units
units_number s q k =
    or_infinity (ltb (q * 2 ^ k) (2 ^ (low binary64 + suc (emax binary64)))) s (odd (suc (prec binary64)) s q k (low binary64))
    (odd_number (suc (prec binary64)) s q k (low binary64))

round_number : (s : Bool) (a c : ℕ) → is_nan (round binary64 s a c) ≡ false
round_number s a c = ap is_nan (round_is binary64 s a c) ∙ units_number s _ _

sum_number : (s : Bool) (a : ℕ) (t : Bool) (b c : ℕ) → is_nan (sum binary64 s a t b c) ≡ false
unfolding sum
sum_number s a t b c = go (beq s t) (ltb a b)
  where
    go : (p q : Bool) → is_nan (cond p (round binary64 s (a + b) c) (cond q (round binary64 t (b - a) c) (round binary64 (s && ltb b a) (a - b) c))) ≡ false
    go true q = round_number s (a + b) c
    go false true = round_number t (b - a) c
    go false false = round_number (s && ltb b a) (a - b) c

add_number : (x y : Float) → finite x ≡ true → finite y ≡ true → is_nan (add binary64 x y) ≡ false
unfolding add
add_number nan y e f = absurd (true≢false (sym e))
add_number (inf s) y e f = absurd (true≢false (sym e))
add_number (fin s m d) nan e f = absurd (true≢false (sym f))
add_number (fin s m d) (inf t) e f = absurd (true≢false (sym f))
add_number (fin s m d) (fin t n h) e f = sum_number s (m * up d * down h) t (n * up h * down d) (down d * down h)

add_ordered : (x y : Float) → finite x ≡ true → finite y ≡ true → Ordered (add binary64 x y)
add_ordered x y e f = record { double = add-fits binary64 x y; not_nan = subst (λ (b : Bool). T (not b)) (sym (add_number x y e f)) tt }

neg_number : (x : Float) → is_nan x ≡ is_nan (neg x)
unfolding is_nan neg
neg_number nan = refl
neg_number (inf s) = refl
neg_number (fin s m e) = refl

neg_ordered : (x : Float) → Ordered x → Ordered (neg x)
neg_ordered x o = record { double = neg-fits binary64 x o.double; not_nan = subst (λ (b : Bool). T (not b)) (neg_number x) o.not_nan }

-- a factor of the identity rule is finite
clamp_finite : (x : Float) → finite x ≡ true → finite (clamp_log x) ≡ true
unfolding clamp_log of_bits
clamp_finite x e = go (lt x Constants.minus_log_huge) (lt Constants.log_huge x)
  where
    go : (a b : Bool) → finite (cond a Constants.minus_log_huge (cond b Constants.log_huge x)) ≡ true
    go true b = refl
    go false true = refl
    go false false = e

factor_finite : (b : Bool) (u v cmax : Float) → finite (log_factor b u v cmax) ≡ true
unfolding log_factor of_bits
factor_finite b u v cmax = go (finite cmax) b (finite (argument u v cmax)) refl
  where
    go : (a b t : Bool) → finite (argument u v cmax) ≡ t → finite (cond (a && (b && t)) (clamp_log (argument u v cmax)) Constants.zero) ≡ true
    go true true true e = clamp_finite (argument u v cmax) e
    go true true false e = refl
    go true false t e = refl
    go false b t e = refl

finite_at : (n : ℕ) (c : Match Float) (i : ℕ) → finite (factor_at n c i) ≡ true
finite_at n c i = factor_finite (matched_both n c.perm i) (get_or c.u i nan) (get_or c.v i nan) (get_or c.cmax i nan)

finite_ordered : (x : Float) → T (fits binary64 x) → finite x ≡ true → Ordered x
unfolding is_nan
finite_ordered nan f e = absurd (true≢false (sym e))
finite_ordered (inf s) f e = absurd (true≢false (sym e))
finite_ordered (fin s m d) f e = record { double = f; not_nan = tt }

-- and lies between
pub factor_within : (b : Bool) (u v cmax : Float) → Within (log_factor b u v cmax)
unfolding log_factor
factor_within b u v cmax = go (finite cmax) b (finite (argument u v cmax)) refl
  where
    go : (a b t : Bool) → finite (argument u v cmax) ≡ t → Within (cond (a && (b && t)) (clamp_log (argument u v cmax)) Constants.zero)
    go true true true e = clamp_within (argument u v cmax) (finite_ordered (argument u v cmax) (div-fits binary64 _ _) e)
    go true true false e = zero_within
    go true false t e = zero_within
    go false b t e = zero_within

-- ---- lists of them
abbrev Comparable : List Float → Type 0
Comparable l = (j : ℕ) → j < length l → Ordered (get_or l j nan)

comparable_more : (l : List Float) (x : Float) → Comparable l → Ordered x → Comparable (l ++ (x ∷ []))
comparable_more l x a o j h =
    ⊎_elim
    (λ b. subst Ordered (sym (get_or-append l (x ∷ []) nan j b)) (a j b))
    (λ e. subst Ordered (sym (ap (λ (i : ℕ). get_or (l ++ (x ∷ [])) i nan) e ∙ get_d_last l x nan)) o)
    (last_or l x j h)

largest_ordered : (x : Float) (l : List Float) → Ordered x → Comparable l → Ordered (largest_from x l)
unfolding largest_from
largest_ordered x [] o a = o
largest_ordered x (y ∷ l) o a = largest_ordered (cond (lt x y) y x) l (either (lt x y)) (λ j h. a (suc j) (omega arith))
  where
    either : (b : Bool) → Ordered (cond b y x)
    either true = a 0 (omega arith)
    either false = o

flat_within : (l : List Float) → Comparable l → Within (flattened l)
unfolding flattened
flat_within [] a = zero_within
flat_within (x ∷ l) a = clamp_within (neg (largest_from x l))
    (neg_ordered (largest_from x l) (largest_ordered x l (a 0 (omega arith)) (λ j h. a (suc j) (omega arith))))

-- ---- the sums of an index
module _ (g : Input) (fine : (k : ℕ) → k < length g.stored.pattern.row_idx → kept g.stored k ≡ true → finite (get_or g.logs k nan) ≡ true) (i : ℕ) where
  alone_more : (l : List Float) (b : Bool) (x : Float) → Comparable l → Ordered x → Comparable (l ++ alone b x)
  alone_more l true x a o = comparable_more l x a o
  alone_more l false x a o = subst Comparable (sym (append-nil l)) a

  sums_comparable : (k : ℕ) → k ≤ length g.stored.pattern.row_idx → Comparable (sums_to g k i)
  unfolding places_to sums_over
  sums_comparable zero h = λ j l. absurd (not-suc-le-zero l)
  sums_comparable (suc k) h = go (sums_comparable k (omega arith)) (touches g.stored i k) refl
    where
      go : Comparable (sums_to g k i) → (b : Bool) → touches g.stored i k ≡ b → Comparable (sums_over g i (places_to g.stored i k ++ keep b k))
      go before true e =
          subst Comparable (sym (sums_more g i (places_to g.stored i k) k))
          (alone_more (sums_to g k i) (is_matched (columns g) g.pairs (other_end g.stored i k)) (sum_at g i k) before
          (add_ordered _ _ (fine k h (both (kept g.stored k) _ e).0) (finite_at (columns g) g.pairs (other_end g.stored i k))))
      go before false e = subst (λ (p : List ℕ). Comparable (sums_over g i p)) (sym (append-nil (places_to g.stored i k))) before

  pub sums_within : Within (flattened (sums_of g i))
  sums_within = flat_within (sums_of g i) (sums_comparable (length g.stored.pattern.row_idx) (le_refl _))

-- ---- the logs of an accepted call
log_finite : (n : ℕ) (x : Float) → in_log_range n x ≡ true → finite x ≡ true
unfolding in_log_range times_below
log_finite n x h = (both (finite x) _ h).0

pub logs_finite : (m : Matrix) (logs : List Float) → values_fault m.pattern.n m.values logs ≡ 0 → length m.values ≡ length m.pattern.row_idx
    → (k : ℕ) → k < length m.pattern.row_idx → kept m k ≡ true → finite (get_or logs k nan) ≡ true
unfolding values_fault
logs_finite m logs e size k h s =
    let z = (all_zero (place_fault m.pattern.n m.values logs) (length m.values)).0 e k (omega arith) in
    let l = (or-zero (value_fault (get_or m.values k nan)) (log_fault m.pattern.n (get_or m.values k nan) (get_or logs k nan)) z).1 in
    log_finite m.pattern.n (get_or logs k nan)
    (other (eq (get_or m.values k nan) Constants.zero) (in_log_range m.pattern.n (get_or logs k nan)) s
    (unless_holds (eq (get_or m.values k nan) Constants.zero || in_log_range m.pattern.n (get_or logs k nan)) cost_range (omega arith) l))
  where
    other : (a b : Bool) → not a ≡ true → (a || b) ≡ true → b ≡ true
    other true b p q = absurd (true≢false (sym p))
    other false b p q = q
