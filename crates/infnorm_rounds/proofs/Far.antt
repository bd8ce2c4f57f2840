-- The largest deviation is below the tolerance exactly if no row is far. The larger of two doubles is below a third one exactly if both are: by their
-- positions, and a NaN by computing. Then by induction over the rows. A size may have a zero of either sign: both are at one position.
use mathlib.Core.Path.{◌≡◌, refl, sym, ap, ◌∙◌}
use mathlib.Core.Bool.{Bool, true, false, not, cond, ◌&&◌, ◌||◌, and-true, and-false, or-false, or_assoc, false≢true}
use mathlib.Core.List.{List, [], ◌∷◌}
use Prim.Native.Nat.{ℕ, suc, ◌+◌, ◌≤◌, ◌<◌}
use native.Mathlib.Numerals.{add-one}
use native.Mathlib.Omega.{arith}
use borrow.Author.Tests.{lt-ltb, le-leb, lt-leb, ltb-true, ltb-false, eqb-true}
use lib.Dec.{T, leb, ltb}
use lib.Ieee.{Float, nan, inf, fin, binary64, lt, le, eq, neg, sub, fits, is_nan, of_bits}
use lib.Ieee.Fits.{cond-fits, neg-fits, sub-fits}
use lib.ListN.{length, get_or, drop, drop_of_length-le}
use lib.Seq.{drop-cons}
use Rattle.float64.specs.Constants as Constants
use Rattle.float64.specs.Functions.{absolute, size_of}
use Rattle.float64.specs.inner.Keys.{Ordered, position}
use Rattle.float64.proofs.Order.{lt_key, eq_key, le_key}
use Rattle.float64.proofs.Functions.{size-zero, size_other}
use Rattle.infnorm_factors.specs.Maxima.{larger}
use Rattle.infnorm_factors.specs.Factors.{deviation, deviating, deviating_all}

-- ---- the larger of two, of numbers
new_below : (p q r : ℕ) → ltb p q ≡ true → ltb q r ≡ (ltb p r && not (leb r q))
new_below p q r h = go (ltb q r) refl
  where
    go : (b : Bool) → ltb q r ≡ b → b ≡ (ltb p r && not (leb r q))
    go true e = rw (lt-ltb p r (omega (arith, ltb-true p q h, ltb-true q r e)), lt-leb r q (ltb-true q r e)) refl
    go false e = rw (le-leb r q (ltb-false q r e)) (sym (and-false (ltb p r)))

old_below : (p q r : ℕ) → ltb p q ≡ false → ltb p r ≡ (ltb p r && not (leb r q))
old_below p q r h = go (ltb p r) refl
  where
    go : (b : Bool) → ltb p r ≡ b → b ≡ (b && not (leb r q))
    go true e = rw (lt-leb r q (omega (arith, ltb-false p q h, ltb-true p r e))) refl
    go false e = refl

-- ---- of doubles
not_up_to_nan : (t : Float) → le t nan ≡ false
unfolding le lt eq
not_up_to_nan nan = refl
not_up_to_nan (inf s) = refl
not_up_to_nan (fin s m e) = refl

module _ {t : Float} (O : Ordered t) where
  ordered_below : (a b : Float) → Ordered a → Ordered b → lt (larger a b) t ≡ (lt a t && not (le t b))
  ordered_below a b A B = go (lt a b) refl
    where
      go : (c : Bool) → lt a b ≡ c → lt (cond c b a) t ≡ (lt a t && not (le t b))
      go true e = rw (lt_key b t B O, lt_key a t A O, le_key t b O B) (new_below (position a) (position b) (position t) (sym (lt_key a b A B) ∙ e))
      go false e = rw (lt_key a t A O, le_key t b O B) (old_below (position a) (position b) (position t) (sym (lt_key a b A B) ∙ e))

  larger_below : (a b : Float) → T (fits binary64 a) → T (fits binary64 b) → lt (larger a b) t ≡ (lt a t && not (le t b))
  unfolding lt is_nan
  larger_below nan b f g = refl
  larger_below (inf s) nan f g = rw (not_up_to_nan t) (sym (and-true (lt (inf s) t)))
  larger_below (fin s m e) nan f g = rw (not_up_to_nan t) (sym (and-true (lt (fin s m e) t)))
  larger_below (inf s) (inf u) f g = ordered_below (inf s) (inf u) (record { double = f; not_nan = tt }) (record { double = g; not_nan = tt })
  larger_below (inf s) (fin u n d) f g = ordered_below (inf s) (fin u n d) (record { double = f; not_nan = tt }) (record { double = g; not_nan = tt })
  larger_below (fin s m e) (inf u) f g = ordered_below (fin s m e) (inf u) (record { double = f; not_nan = tt }) (record { double = g; not_nan = tt })
  larger_below (fin s m e) (fin u n d) f g = ordered_below (fin s m e) (fin u n d) (record { double = f; not_nan = tt }) (record { double = g; not_nan = tt })

-- ---- one row more
absolute_fits : (x : Float) → T (fits binary64 x) → T (fits binary64 (absolute x))
unfolding absolute fits
absolute_fits nan f = f
absolute_fits (inf s) f = f
absolute_fits (fin s m e) f = f

deviation_fits : (m : Float) → T (fits binary64 (deviation m))
deviation_fits m = absolute_fits _ (sub-fits binary64 m Constants.one)

deviating_fits : (largest m : Float) → T (fits binary64 largest) → T (fits binary64 (deviating largest m))
unfolding deviating
deviating_fits largest m f =
    cond-fits binary64 (lt Constants.zero m) (larger largest (deviation m)) largest
    (cond-fits binary64 (lt largest (deviation m)) (deviation m) largest (deviation_fits m) f) f

tolerance_ordered : Ordered Constants.infnorm_tol
unfolding of_bits fits is_nan
tolerance_ordered = record { double = tt; not_nan = tt }

zero_ordered : Ordered Constants.zero
unfolding of_bits fits is_nan
zero_ordered = record { double = tt; not_nan = tt }

-- a row whose maximum is above 0 and as far from 1 as the tolerance
abbrev pub far : Float → Bool
far m = lt Constants.zero m && le Constants.infnorm_tol (deviation m)

row_below : (largest m : Float) → T (fits binary64 largest)
    → lt (deviating largest m) Constants.infnorm_tol ≡ (lt largest Constants.infnorm_tol && not (far m))
unfolding deviating
row_below largest m f = go (lt Constants.zero m)
  where
    go : (b : Bool) → lt (cond b (larger largest (deviation m)) largest) Constants.infnorm_tol
        ≡ (lt largest Constants.infnorm_tol && not (b && le Constants.infnorm_tol (deviation m)))
    go true = larger_below tolerance_ordered largest (deviation m) f (deviation_fits m)
    go false = sym (and-true (lt largest Constants.infnorm_tol))

-- ---- the size by `size_of` is as far as the deviation, whatever the sign of a zero
zero_number : (x : Float) → eq x Constants.zero ≡ true → T (not (is_nan x))
unfolding eq is_nan
zero_number nan h = absurd (false≢true h)
zero_number (inf s) h = tt
zero_number (fin s m e) h = tt

size_fits : (x : Float) → T (fits binary64 x) → T (fits binary64 (size_of x))
unfolding size_of
size_fits x f = cond-fits binary64 (lt x Constants.zero) (neg x) x (neg-fits binary64 x f) f

as_zero : (x : Float) → T (fits binary64 x) → eq x Constants.zero ≡ true → le Constants.infnorm_tol x ≡ le Constants.infnorm_tol Constants.zero
as_zero x f e = le_key Constants.infnorm_tol x tolerance_ordered X ∙ ap (leb (position Constants.infnorm_tol)) same
    ∙ sym (le_key Constants.infnorm_tol Constants.zero tolerance_ordered zero_ordered)
  where
    X : Ordered x
    X = record { double = f; not_nan = zero_number x e }

    same : position x ≡ position Constants.zero
    same = eqb-true (position x) (position Constants.zero) (sym (eq_key x Constants.zero X zero_ordered) ∙ e)

pub size_as_far : (m : Float) → le Constants.infnorm_tol (size_of (sub binary64 m Constants.one)) ≡ le Constants.infnorm_tol (deviation m)
size_as_far m = go (eq (size_of x) Constants.zero) refl
  where
    x : Float
    x = sub binary64 m Constants.one

    go : (b : Bool) → eq (size_of x) Constants.zero ≡ b → le Constants.infnorm_tol (size_of x) ≡ le Constants.infnorm_tol (absolute x)
    go true e = as_zero (size_of x) (size_fits x (sub-fits binary64 m Constants.one)) e
        ∙ ap (le Constants.infnorm_tol) (size-zero x (sub-fits binary64 m Constants.one) e)
    go false e = ap (le Constants.infnorm_tol) (size_other x e)

-- ---- all rows
unfoldable pub any_far : List Float → Bool
any_far [] = false
any_far (m ∷ maxima) = far m || any_far maxima

neither_nor : (a b c : Bool) → ((a && not b) && not c) ≡ (a && not (b || c))
neither_nor true true c = refl
neither_nor true false c = refl
neither_nor false b c = refl

rows_below_lem : (largest : Float) (maxima : List Float) → T (fits binary64 largest)
    → lt (deviating_all largest maxima) Constants.infnorm_tol ≡ (lt largest Constants.infnorm_tol && not (any_far maxima))
unfolding deviating_all any_far
rows_below_lem largest [] f = sym (and-true (lt largest Constants.infnorm_tol))
rows_below_lem largest (m ∷ maxima) f =
    rows_below_lem (deviating largest m) maxima (deviating_fits largest m f)
    ∙ ap (λ (b : Bool). b && not (any_far maxima)) (row_below largest m f)
    ∙ neither_nor (lt largest Constants.infnorm_tol) (far m) (any_far maxima)

zero_below : lt Constants.zero Constants.infnorm_tol ≡ true
unfolding of_bits lt
zero_below = refl

pub none_far : (maxima : List Float) → lt (deviating_all Constants.zero maxima) Constants.infnorm_tol ≡ not (any_far maxima)
none_far maxima = rows_below_lem Constants.zero maxima zero_ordered.double ∙ ap (λ (b : Bool). b && not (any_far maxima)) zero_below

-- ---- a loop over the rows: one was far, or one of those from row i on is
module _ {whole : Bool} (before : Bool) (maxima : List Float) (i : ℕ) (e : whole ≡ (before || any_far (drop i maxima))) where
  pub far_next : {here : Bool} → i < length maxima → here ≡ far (get_or maxima i nan) → whole ≡ ((before || here) || any_far (drop (i + 1) maxima))
  unfolding any_far
  far_next h m =
      e ∙ ap (λ (l : List Float). before || any_far l) (drop-cons maxima i nan h)
      ∙ rw (m, add-one i) (sym (or_assoc before (far (get_or maxima i nan)) (any_far (drop (suc i) maxima))))

  pub far_end : length maxima ≤ i → whole ≡ before
  unfolding any_far
  far_end h = e ∙ ap (λ (l : List Float). before || any_far l) (drop_of_length-le maxima h) ∙ or-false before
