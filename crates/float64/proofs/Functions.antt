-- What the proofs of the small functions cite: the library's words for a double without its sign and for a finite one are the definitions here; and
-- how a double compares with 0.0. By cases on the double; a product that is 0 has a factor 0.
use mathlib.Core.Path.{◌≡◌, refl, sym, ap, ap₂, ◌∙◌, subst}
use mathlib.Core.Bool.{Bool, true, false, cond, ◌&&◌, true≢false, false≢true}
use Prim.Native.Nat.{ℕ, zero, suc, ◌+◌, ◌*◌, ◌^◌, ◌<◌}
use native.Mathlib.Nat.{lt_irrefl, mul-pos, mul-one, one-mul, zero-mul, zero-lt-suc, pow-succ', lt_of_lt_of_le, le_trans, le-add_right}
use native.Mathlib.Omega.{arith}
use borrow.Author.Tests.{ltb-true, ltb-false, eqb-true}
use lib.Dec.{T, eqb, eqb→eq}
use lib.IntN.{ℤ, pos, negsuc}
use lib.Pow.{pow_pos}
use lib.Ieee.{Float, nan, inf, fin, binary64, up, down, neg, lt, eq, fits, is_nan, of_bits}
use lib.Ieee.Fits.{up_pos}
use lib.Ieee.Scale.{finite}
use Rattle.std.specs.Float.{float_with_sign, float_is_finite}
use Rattle.float64.specs.Constants as Constants
use Rattle.float64.specs.Functions.{absolute, size_of}

pub size_same : (x : Float) → float_with_sign false x ≡ absolute x
unfolding float_with_sign absolute
size_same nan = refl
size_same (inf s) = refl
size_same (fin s m e) = refl

pub finite_same : (x : Float) → float_is_finite x ≡ finite x
unfolding float_is_finite
finite_same nan = refl
finite_same (inf s) = refl
finite_same (fin s m e) = refl

-- only a NaN is a NaN, and the logic has one
pub nan_is_quiet : (x : Float) → is_nan x ≡ true → Constants.quiet_nan ≡ x
unfolding is_nan of_bits
nan_is_quiet nan e = refl
nan_is_quiet (inf s) e = absurd (false≢true e)
nan_is_quiet (fin s m k) e = absurd (false≢true e)

-- ---- comparisons with 0.0
-- no size is below nothing, and none but a zero's is nothing
none_below : (a d : ℕ) → a < 0 * d → ⊥
none_below a d h = let z : a < 0 = rw zero-mul at h in omega arith

some : (m : ℕ) (e : ℤ) → 0 < suc m * up e * 1
some m e = rw mul-one (mul-pos (zero-lt-suc m) (up_pos e))

twice : (p : ℕ) → 0 < p → 2 * p ≡ 1 → ⊥
twice p h e = omega arith

zero_form : (s : Bool) (e : ℤ) → T (fits binary64 (fin s 0 e)) → e ≡ pos 0
unfolding fits
zero_form s (pos zero) t = refl
zero_form s (pos (suc k)) t = absurd (twice (2 ^ k) (pow_pos k) (sym (pow-succ' 2 k) ∙ sym (mul-one (2 ^ suc k)) ∙ eqb→eq (2 ^ suc k * 1) 1 t))
zero_form s (negsuc k) t = absurd (twice (2 ^ k) (pow_pos k) (sym (pow-succ' 2 k) ∙ sym (one-mul (2 ^ suc k)) ∙ eqb→eq (1 * 2 ^ suc k) 1 t))

and-true : (p q : Bool) → (p && q) ≡ true → p ≡ true
and-true true q h = refl
and-true false q h = h

pub below-zero : (x : Float) → lt x Constants.zero ≡ true → neg x ≡ absolute x
unfolding lt neg absolute of_bits
below-zero nan h = absurd (false≢true h)
below-zero (inf true) h = refl
below-zero (inf false) h = absurd (false≢true h)
below-zero (fin true m e) h = refl
below-zero (fin false m e) h = absurd (none_below (m * up e * 1) (down e) (ltb-true (m * up e * 1) (0 * down e) h))

pub equal_zero : (x : Float) → T (fits binary64 x) → eq x Constants.zero ≡ true → Constants.zero ≡ absolute x
unfolding eq absolute of_bits
equal_zero nan f h = absurd (false≢true h)
equal_zero (inf s) f h = absurd (false≢true h)
equal_zero (fin s zero e) f h = ap (λ (d : ℤ). fin false 0 d) (sym (zero_form s e f))
equal_zero (fin s (suc m) e) f h =
    absurd (lt_irrefl 0 (subst (λ (n : ℕ). 0 < n) (eqb-true (suc m * up e * 1) (0 * down e) (and-true (eqb (suc m * up e * 1) (0 * down e)) _ h)
    ∙ zero-mul (down e)) (some m e)))

pub above_zero : (x : Float) → lt x Constants.zero ≡ false → eq x Constants.zero ≡ false → x ≡ absolute x
unfolding lt eq absolute of_bits
above_zero nan h k = refl
above_zero (inf true) h k = absurd (true≢false h)
above_zero (inf false) h k = refl
above_zero (fin false m e) h k = refl
above_zero (fin true zero e) h k = absurd (true≢false (sym (both (zero-mul (up e)) (zero-mul (down e))) ∙ k))
  where
    both : {a b : ℕ} → a ≡ 0 → b ≡ 0 → (eqb (a * 1) b && eqb (a * 1) 0) ≡ true
    both p q = ap₂ (λ (a b : ℕ). eqb (a * 1) b && eqb (a * 1) 0) p q
above_zero (fin true (suc m) e) h k =
    absurd (lt_irrefl 0 (lt_of_lt_of_le (some m e) (le_trans (le-add_right (suc m * up e * 1) (0 * down e)) (ltb-false 0 (suc m * up e * 1 + 0 * down e) h))))

-- x or -x is the size of x, but for a zero's sign
turned_fits : (x : Float) → T (fits binary64 x) → T (fits binary64 (neg x))
unfolding neg fits
turned_fits nan t = t
turned_fits (inf s) t = t
turned_fits (fin s m e) t = t

turned_size : (x : Float) → absolute (neg x) ≡ absolute x
unfolding neg absolute
turned_size nan = refl
turned_size (inf s) = refl
turned_size (fin s m e) = refl

module _ (x : Float) where
  pub size-zero : T (fits binary64 x) → eq (size_of x) Constants.zero ≡ true → Constants.zero ≡ absolute x
  unfolding size_of
  size-zero f = go (lt x Constants.zero)
    where
      go : (b : Bool) → eq (cond b (neg x) x) Constants.zero ≡ true → Constants.zero ≡ absolute x
      go true h = equal_zero (neg x) (turned_fits x f) h ∙ turned_size x
      go false h = equal_zero x f h

  pub size_other : eq (size_of x) Constants.zero ≡ false → size_of x ≡ absolute x
  unfolding size_of
  size_other = go (lt x Constants.zero) refl
    where
      go : (b : Bool) → lt x Constants.zero ≡ b → eq (cond b (neg x) x) Constants.zero ≡ false → cond b (neg x) x ≡ absolute x
      go true q h = below-zero x q
      go false q h = above_zero x q h
